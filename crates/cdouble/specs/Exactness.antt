-- Where double-double arithmetic is exact, and what that means: document 01, "Double-double". Assumes nothing.
-- Values are whole numbers of units of 2 ^ -1074, or of 2 ^ -(1074 + l).
use Rattle.std.specs.Prelude.{◌≡◌, ℕ, ◌+◌, ◌-◌, ◌^◌, ◌≤◌, Bool, true, false, T, ◌⊎◌, ℤ, pos, ◌+ℤ◌, unsigned_abs, Float}
use Rattle.std.specs.Float.Ieee.Scale.{finite}
use Rattle.exact.specs.Value.{magnitude, exact, exact_at}
use Rattle.exact.specs.Representable.{Representable}
use Rattle.exact.specs.Nearest.{to_nearest}
use Rattle.doubles.specs.Directed.{IsUp, IsDown}
use Rattle.cdouble.specs.declared.CDouble.{CDouble}
use Rattle.cdouble.specs.Compensated.{◌⊗◌}

-- ---- the ranges
-- finite, and in magnitude at most 2 ^ k, which is 2 ^ (1074 + k) units
pub record AtMost (k : ℕ) (x : Float) : Type 0 where
  pub is_finite : T (finite x)
  pub cap : magnitude x ≤ 2 ^ (1074 + k)

-- either zero
abbrev pub IsZero : Float → Type 0
IsZero x = T (finite x) × (magnitude x ≡ 0)

-- "`two_sum` is exact if both magnitudes are at most 2^1022"
abbrev pub SumRange : Float → Float → Type 0
SumRange a b = AtMost 1022 a × AtMost 1022 b

-- "both are at most 2^995 and the rounded product lies in magnitude from 2^-969 to 2^1021"
pub record InRange (a b : Float) : Type 0 where
  pub first : AtMost 995 a
  pub second : AtMost 995 b
  pub least : 2 ^ (1074 - 969) ≤ magnitude (a ⊗ b)
  pub most : AtMost 1021 (a ⊗ b)

-- "`two_product` is exact if a factor is zero and the other at most 2^995 in magnitude, or" that
abbrev pub ProductRange : Float → Float → Type 0
ProductRange a b = (IsZero a × AtMost 995 b) ⊎ (AtMost 995 a × IsZero b) ⊎ InRange a b

-- ---- what exact means
-- the parts are finite and add up to z / 2 ^ l units, and the high part is that rounded
pub record IsExact (l : ℕ) (z : ℤ) (c : CDouble) : Type 0 where
  pub hi_finite : T (finite c.hi)
  pub lo_finite : T (finite c.lo)
  pub whole : exact_at l c.hi +ℤ exact_at l c.lo ≡ z
  pub nearest : exact c.hi ≡ to_nearest l z

-- "each half with at most 26 significant bits", as the Rust says of `split`
pub record IsSplit (a : Float) (c : CDouble) : Type 0 where
  pub hi_finite : T (finite c.hi)
  pub lo_finite : T (finite c.lo)
  pub whole : exact c.hi +ℤ exact c.lo ≡ exact a
  pub hi_digits : Representable 26 (magnitude c.hi)
  pub lo_digits : Representable 26 (magnitude c.lo)

-- least not below, or greatest not above, by the side that is asked for
abbrev pub IsToward : Bool → ℕ → ℤ → Float → Type 0
IsToward true = IsUp
IsToward false = IsDown

-- the absolute value of an integer
abbrev pub abs_ℤ : ℤ → ℤ
abs_ℤ z = pos (unsigned_abs z)
