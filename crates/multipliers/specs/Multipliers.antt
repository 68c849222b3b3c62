-- What becomes of a row's multiplier: document 01, "The certificate". Assumes nothing.
use Rattle.std.specs.Prelude.{Bool, true, false, cond, ◌&&◌, ◌||◌, Option, Some, None, Float}
use Rattle.std.specs.Float.{inf}
use Rattle.std.specs.Float.Ieee.{lt, le, eq}
use Rattle.doubles.specs.Compare.{absolute}
use Rattle.cdouble.specs.declared.CDouble.{CDouble}
use Rattle.cdouble.specs.Compensated.{◌⊕◌, negated, normalized, plus_zero, value}
use Rattle.multipliers.specs.declared.weighing.Multiplier.{Multiplier}
use Rattle.multipliers.specs.declared.weighing.Multiplier.TheVariants.{Zeroed, Dropped, Kept}

-- "y is rho, negated if leaving up, then normalized"
unfoldable pub signed : Bool → CDouble → CDouble
signed leaving_up rho = normalized (cond leaving_up (negated rho) rho)

-- "needing an infinite side of its slack": the upper one where it is above 0, else the lower one
abbrev pub needs_infinite_side : Float → Float → Float → Bool
needs_infinite_side y min max = cond (lt plus_zero y) (eq max (inf false)) (eq min (inf true))

-- "A multiplier within its error is dropped and counted if nonzero …. One of value 0, or needing an infinite side of its slack, is dropped
-- uncounted. The rest are "kept"": estimated says that there are error bounds, min and max are the slack's bounds
unfoldable pub weighed : Bool → Float → CDouble → Float → Float → Multiplier
weighed estimated error y min max =
    cond (estimated && le (absolute (value y)) error) (Zeroed y)
    (cond (eq (value y) plus_zero || needs_infinite_side (value y) min max) Dropped (Kept y))

-- what each of the row's variables in basis gets, times the magnitude of its entry: "(|y| + error)" from a multiplier within its error,
-- which the Rust leaves out where it is not above 0; "error" from a kept one
unfoldable pub spreads : Bool → Float → Multiplier → Option Float
spreads estimated error (Zeroed y) =
    cond (lt plus_zero (absolute (value y) ⊕ error)) (Some (absolute (value y) ⊕ error)) None
spreads estimated error Dropped = None
spreads estimated error (Kept y) = cond estimated (Some error) None
