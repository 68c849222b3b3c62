-- Doubles that are not near 0, or not −0, and on which side of 0 a rest lies. Assumes nothing.
use Rattle.std.specs.Prelude.{◌≡◌, Bool, false, cond, ◌^◌, ◌-◌, ◌≤◌, T, Float}
use Rattle.std.specs.Float.Ieee.{lt}
use Rattle.std.specs.Float.Ieee.Scale.{finite}
use Rattle.exact.specs.Value.{magnitude}
use Rattle.doubles.specs.Directed.{with_zero}
use Rattle.cdouble.specs.Compensated.{◌⊕◌, plus_zero}
use Rattle.cdouble.specs.Exactness.{AtMost}

-- not −0
abbrev pub NotMinusZero : Float → Type 0
NotMinusZero x = with_zero false x ≡ x

-- finite, and in magnitude at least 2 ^ -966: the least rounded product that shows its error is 2 ^ -969 (document 01, "Double-double"), and
-- what is added to eight times that, in any way, is exact or no smaller than that
pub record Far (x : Float) : Type 0 where
  pub is_finite : T (finite x)
  pub least : 2 ^ (1074 - 966) ≤ magnitude x

-- at most 2 ^ 1022 in magnitude, and where a step is asked for at least 2 ^ -969
pub record Large (x : Float) (step : Bool) : Type 0 where
  pub most : AtMost 1022 x
  pub least : T step → 2 ^ (1074 - 969) ≤ magnitude x

-- a product a rounded outward, half of a far number at least, and a running sum b: their sum is not −0
pub record Added (a b : Float) : Type 0 where
  pub first : AtMost 1021 a
  pub second : AtMost 1021 b
  pub least : 2 ^ (1074 - 967) ≤ magnitude a
  pub clear : NotMinusZero (a ⊕ b)

-- whether a rest lies above 0, or below it
abbrev pub past : Bool → Float → Bool
past up rest = cond up (lt plus_zero rest) (lt rest plus_zero)
