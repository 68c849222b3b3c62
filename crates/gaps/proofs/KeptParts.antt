-- The parts of a kept multiplier of a sheet are doubles, whatever its rho is. Assumes nothing.
use mathlib.Core.Path.{◌≡◌, subst}
use mathlib.Core.Bool.{Bool, true, false, cond}
use Prim.Native.Nat.{ℕ}
use lib.Dec.{T}
use lib.Ieee.{binary64, fits}
use lib.Ieee.Fits.{add-fits}
use Rattle.cdouble.specs.declared.CDouble.{CDouble}
use Rattle.cdouble.specs.Compensated.{normalized, two_sum}
use Rattle.sheet.specs.Sheet.{Sheet}
use Rattle.multipliers.specs.declared.weighing.Multiplier.TheVariants.{Zeroed, Dropped, Kept}
use Rattle.multipliers.specs.Multipliers.{signed, weighed}
use Rattle.certificate.specs.System.{system_of, signed_at}
use Rattle.gaps.specs.Rows.{kept_of}

abbrev PartsFit : CDouble → Type 0
PartsFit y = T (fits binary64 y.hi) × T (fits binary64 y.lo)

-- a normalized pair is a rounded sum and what the rounding left out, themselves sums
signed-fits : (leaving_up : Bool) (rho : CDouble) → PartsFit (signed leaving_up rho)
unfolding signed normalized two_sum
signed-fits leaving_up rho = (add-fits binary64 _ _, add-fits binary64 _ _)

-- what is kept is the multiplier itself
itself : (b c : Bool) (y z : CDouble) → cond b (Zeroed y) (cond c Dropped (Kept y)) ≡ Kept z → y ≡ z
itself true c y z is = cc
itself false true y z is = cc
itself false false y z is = cc

pub kept_parts-fit : (s : Sheet) (r : ℕ) (y : CDouble) → kept_of s r ≡ Kept y → PartsFit y
unfolding weighed
kept_parts-fit s r y is = subst PartsFit (itself _ _ (signed_at (system_of s) r) y is) (signed-fits _ _)
