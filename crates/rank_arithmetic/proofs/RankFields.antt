-- The exponent and the significand of a double's rank, and the product of two ranks. Assumes nothing.
use mathlib.Core.Path.{◌≡◌, sym, ap, ap₂, ◌∙◌}
use Prim.Native.Nat.{ℕ, ◌+◌, ◌-◌, ◌*◌, ◌^◌, ◌≤◌, ◌<◌}
use native.Mathlib.Nat.{mul-mul-mul_comm, mul-pos, mul-le-mul}
use native.Mathlib.Omega.{arith}
use lib.Pow.{pow-add}
use Rattle.rank_arithmetic.specs.Rank.{at_rank, infinity}
use Rattle.rank_arithmetic.proofs.Grid.{exponent, at_rank_is}
use Rattle.rank_arithmetic.proofs.WideRanks.{Rankable}

-- by an exponent that is given
module _ (r k : ℕ) (e : k ≡ exponent 52 r) where
  pub significand_lt : r - k * 2 ^ 52 < 2 ^ 53
  significand_lt = omega arith

  pub significand_pos : 0 < r → 0 < r - k * 2 ^ 52
  significand_pos h = omega arith

  pub units_is : (r - k * 2 ^ 52) * 2 ^ k ≡ at_rank 52 r
  units_is = ap (λ (x : ℕ). (r - x * 2 ^ 52) * 2 ^ x) e ∙ sym (at_rank_is 52 r)

pub exponent_mono : (r t : ℕ) → t ≤ r → exponent 52 t ≤ exponent 52 r
exponent_mono r t h = omega arith

-- ---- the product of the significands x of r and y of t
pub record Factors (r t j k x y : ℕ) : Type 0 where
  pub first_pos : 0 < r
  pub first_finite : r < infinity
  pub second_pos : 0 < t
  pub second_finite : t < infinity
  pub first_exponent : j ≡ exponent 52 r
  pub second_exponent : k ≡ exponent 52 t
  pub first_significand : x ≡ r - j * 2 ^ 52
  pub second_significand : y ≡ t - k * 2 ^ 52

module _ {r t j k x y : ℕ} (f : Factors r t j k x y) where
  pub product_rankable : Rankable (x * y) (j + k) 1074
  product_rankable = (mul-pos x_pos y_pos, omega (arith, mul-le-mul x_le y_le), omega (arith, f.first_finite, f.second_finite, f.first_exponent, f.second_exponent), omega arith)
    where
      x_pos : 0 < x
      x_pos = omega (arith, f.first_significand, significand_pos r j f.first_exponent f.first_pos)

      y_pos : 0 < y
      y_pos = omega (arith, f.second_significand, significand_pos t k f.second_exponent f.second_pos)

      x_le : x ≤ 2 ^ 53 - 1
      x_le = omega (arith, f.first_significand, significand_lt r j f.first_exponent)

      y_le : y ≤ 2 ^ 53 - 1
      y_le = omega (arith, f.second_significand, significand_lt t k f.second_exponent)

  pub product_is : x * y * 2 ^ (j + k) ≡ at_rank 52 r * at_rank 52 t
  product_is =
      ap (λ (z : ℕ). x * y * z) (pow-add 2 j k)
      ∙ mul-mul-mul_comm x y (2 ^ j) (2 ^ k)
      ∙ ap₂ ◌*◌ (ap (λ (z : ℕ). z * 2 ^ j) f.first_significand ∙ units_is r j f.first_exponent) (ap (λ (z : ℕ). z * 2 ^ k) f.second_significand ∙ units_is t k f.second_exponent)
