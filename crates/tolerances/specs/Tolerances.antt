-- The Rust's tolerances, operation for operation in its order: document 01, "Tolerances and edges" and the bodies that it gives. Assumes nothing.
use Rattle.std.specs.Prelude.{ℕ, Bool, false, cond, pos, negsuc, Float}
use Rattle.std.specs.Float.{fin}
use Rattle.doubles.specs.Compare.{larger, smaller}
use Rattle.cdouble.specs.Compensated.{◌⊕◌, ◌⊖◌, ◌⊗◌, as_f64, plus_zero}
use Rattle.tolerances.specs.declared.BoundTols.{BoundTols}

-- `ROUNDOFF_FLOOR`, the double nearest to 10^-14
abbrev pub roundoff_floor : Float
roundoff_floor = fin false 6338253001141147 (negsuc 98)

-- `UNIT_ROUNDOFF`, 2^-53
abbrev pub unit_roundoff : Float
unit_roundoff = fin false 1 (negsuc 52)

-- the literals 0.5, 2.0 and 4.0
abbrev pub half : Float
half = fin false 1 (negsuc 0)

abbrev pub two : Float
two = fin false 1 (pos 1)

abbrev pub four : Float
four = fin false 1 (pos 2)

-- `BoundTols::toward`: "its tolerance toward that side"
unfoldable pub toward : BoundTols → Bool → Float
toward t up = cond up t.hi t.lo

-- `row_tolerance`
unfoldable pub row_tolerance : Float → Float → Float
row_tolerance tol magnitude = larger tol (roundoff_floor ⊗ magnitude)

-- `slack_margin`
unfoldable pub slack_margin : Float → Float → ℕ → Float
slack_margin tol magnitude terms = smaller ((as_f64 terms ⊕ two) ⊗ unit_roundoff ⊗ magnitude) (half ⊗ row_tolerance tol magnitude)

-- `slack_tol`
unfoldable pub slack_tol : Float → Float → ℕ → Float
slack_tol tol magnitude terms = row_tolerance tol magnitude ⊖ slack_margin tol magnitude terms

-- what `slack_room` makes of a row's numbers: "(slack_tol − slack_margin).max(0)"
unfoldable pub trimmed_room : Float → Float → ℕ → Float
trimmed_room tol magnitude terms = larger (slack_tol tol magnitude terms ⊖ slack_margin tol magnitude terms) plus_zero

-- `implied_slack_error`
unfoldable pub implied_slack_error : Float → Float → ℕ → Float
implied_slack_error slack magnitude terms =
    let n = as_f64 terms ⊕ two in
    four ⊗ unit_roundoff ⊗ slack ⊕ four ⊗ n ⊗ n ⊗ unit_roundoff ⊗ unit_roundoff ⊗ magnitude
