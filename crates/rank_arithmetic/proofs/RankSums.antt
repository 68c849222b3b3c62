-- Sums and differences of two ranks: what `rank_sum` and `rank_difference` compute. Assumes nothing.
use mathlib.Core.Path.{◌≡◌, sym, ap, ap₂, ◌∙◌}
use mathlib.Core.Bool.{true}
use mathlib.Core.Logic.{inl, inr}
use Prim.Native.Nat.{ℕ, suc, ◌+◌, ◌-◌, ◌*◌, ◌%◌, ◌^◌, ◌≤◌, ◌<◌, zero-le}
use native.Mathlib.Nat.{le_of_eq, lt_of_lt_of_le, lt_of_le_of_lt, lt_of_mul-lt-mul_right, mul_assoc, add-mul, mod-eq_of_lt, sub-add_cancel}
use native.Mathlib.Omega.{arith}
use lib.Pow.{pow-add, pow_mono, shl_lt}
use Rattle.rank_arithmetic.specs.Rank.{at_rank, rank_down, rank_up, infinity}
use Rattle.exact.proofs.Naturals.{le_or_lt}
use Rattle.rank_arithmetic.proofs.Grid.{exponent, at_rank-lt, at_rank_gap, rank_down_iff, rank_up_iff}
use Rattle.rank_arithmetic.proofs.WideRanks.{RankBounds, same_bounds, Capped, capped_bounds, Rankable}
use Rattle.rank_arithmetic.proofs.RankFields.{significand_lt, significand_pos, units_is, exponent_mono}

-- ---- between two neighbours
module _ (r n : ℕ) where
  pub rank_down_between : at_rank 52 r ≤ n → n < at_rank 52 (suc r) → rank_down 52 0 n ≡ r
  rank_down_between a b =
      let least : r ≤ rank_down 52 0 n = (rank_down_iff 52 0 n r).0 (omega arith) in
      elim (le_or_lt (rank_down 52 0 n) r) [ inl h ↦ omega arith | inr h ↦ omega (arith, (rank_down_iff 52 0 n (suc r)).1 h) ]

  rank_up_between : at_rank 52 r < n → n ≤ at_rank 52 (suc r) → rank_up 52 0 n ≡ suc r
  rank_up_between a b =
      let most : rank_up 52 0 n ≤ suc r = (rank_up_iff 52 0 n (suc r)).0 (omega arith) in
      elim (le_or_lt (rank_up 52 0 n) r) [ inl h ↦ omega (arith, (rank_up_iff 52 0 n r).1 h) | inr h ↦ omega arith ]

-- ---- what is known of the ranks r and t above 0 and their exponents j and k
pub record Operands (r t j k : ℕ) : Type 0 where
  pub positive : 0 < t
  pub ordered : t ≤ r
  pub finite : r < infinity
  pub first_exponent : j ≡ exponent 52 r
  pub second_exponent : k ≡ exponent 52 t

module _ {r t j k : ℕ} (o : Operands r t j k) where
  units_pos : 0 < at_rank 52 t
  units_pos = lt_of_le_of_lt zero-le (at_rank-lt 52 0 t o.positive)

  -- ---- far apart: t is less than the distance from r to its neighbours
  module _ (h : 55 < j - k) where
    far : at_rank 52 t < 2 ^ (exponent 52 r - 3)
    far =
        let less = shl_lt 53 k (significand_lt t k o.second_exponent) in
        lt_of_lt_of_le (lt_of_le_of_lt (le_of_eq (sym (units_is t k o.second_exponent))) less) (pow_mono (omega (arith, o.first_exponent)))

    pub far-sum : {d u : ℕ} → Capped r true d u → RankBounds 0 (at_rank 52 r + at_rank 52 t) d u
    far-sum =
        let below : at_rank 52 t < 2 ^ exponent 52 r = lt_of_lt_of_le far (pow_mono (omega arith)) in
        let gap = at_rank_gap 52 r in
        let up = rank_up_between r (at_rank 52 r + at_rank 52 t) (omega (arith, units_pos)) (omega arith) in
        capped_bounds 0 (at_rank 52 r + at_rank 52 t) true (rank_down_between r (at_rank 52 r + at_rank 52 t) (omega arith) (omega arith)) (omega (arith, up))

    pub far-difference : t < r → {d u : ℕ} → Capped (r - 1) true d u → RankBounds 0 (at_rank 52 r - at_rank 52 t) d u
    far-difference l =
        let next : suc (r - 1) ≡ r = omega arith in
        let same = ap (at_rank 52) next in
        let below : at_rank 52 t < 2 ^ exponent 52 (r - 1) = lt_of_lt_of_le far (pow_mono (omega arith)) in
        let gap = at_rank_gap 52 (r - 1) in
        let up = rank_up_between (r - 1) (at_rank 52 r - at_rank 52 t) (omega arith) (omega arith) in
        capped_bounds 0 (at_rank 52 r - at_rank 52 t) true (rank_down_between (r - 1) (at_rank 52 r - at_rank 52 t) (omega arith) (omega (arith, units_pos))) (omega (arith, up))

  -- ---- near: both are brought to the exponent k
  pub second_lt : t - k * 2 ^ 52 < 2 ^ 53
  second_lt = significand_lt t k o.second_exponent

  module _ (h : j - k ≤ 55) where
    pub first_lt : (r - j * 2 ^ 52) * 2 ^ (j - k) < 2 ^ 109
    first_lt = lt_of_lt_of_le (shl_lt 53 (j - k) (significand_lt r j o.first_exponent)) (pow_mono {j = 109} (omega arith))

-- and of the significands x of r and y of t
pub record Aligned (r t j k x y : ℕ) : Type 0 where
  pub operands : Operands r t j k
  pub close : j - k ≤ 55
  pub first_significand : x ≡ r - j * 2 ^ 52
  pub second_significand : y ≡ t - k * 2 ^ 52

module _ {r t j k x y : ℕ} (a : Aligned r t j k x y) where
  -- that of r, brought to the exponent k
  abbrev first : ℕ
  first = x * 2 ^ (j - k) % 2 ^ 128

  second_pos : 0 < y
  second_pos = omega (arith, a.second_significand, significand_pos t k a.operands.second_exponent a.operands.positive)

  second_units : y * 2 ^ k ≡ at_rank 52 t
  second_units = ap (λ (z : ℕ). z * 2 ^ k) a.second_significand ∙ units_is t k a.operands.second_exponent

  exponent_le : k ≤ 2046
  exponent_le = omega (arith, exponent_mono r t a.operands.ordered, a.operands.second_exponent, a.operands.finite)

  first_is : first ≡ (r - j * 2 ^ 52) * 2 ^ (j - k)
  first_is = ap (λ (z : ℕ). z * 2 ^ (j - k) % 2 ^ 128) a.first_significand ∙ mod-eq_of_lt (omega (arith, first_lt a.operands a.close))

  first_fits : first < 2 ^ 109
  first_fits = omega (arith, first_is, first_lt a.operands a.close)

  first_units : first * 2 ^ k ≡ at_rank 52 r
  first_units =
      ap (λ (x : ℕ). x * 2 ^ k) first_is
      ∙ mul_assoc (r - j * 2 ^ 52) (2 ^ (j - k)) (2 ^ k)
      ∙ ap (λ (x : ℕ). (r - j * 2 ^ 52) * x) (sym (pow-add 2 (j - k) k) ∙ ap (λ (x : ℕ). 2 ^ x) (sub-add_cancel below))
      ∙ units_is r j a.operands.first_exponent
    where
      below : k ≤ j
      below = omega (arith, exponent_mono r t a.operands.ordered, a.operands.first_exponent, a.operands.second_exponent)

  pub sum_rankable : Rankable (first + y) k 0
  sum_rankable = (omega (arith, second_pos), omega (arith, first_fits, a.second_significand, second_lt a.operands), exponent_le, zero-le)

  pub sum_bounds : {d u : ℕ} → RankBounds 0 ((first + y) * 2 ^ k) d u → RankBounds 0 (at_rank 52 r + at_rank 52 t) d u
  sum_bounds = same_bounds 0 (add-mul first y (2 ^ k) ∙ ap₂ ◌+◌ first_units second_units)

  module _ (q : t < r) where
    pub second_less : y < first
    second_less = lt_of_mul-lt-mul_right (2 ^ k) (omega (arith, first_units, second_units, at_rank-lt 52 t r q))

    pub difference_rankable : Rankable (first - y) k 0
    difference_rankable = (omega (arith, second_less), omega (arith, first_fits), exponent_le, zero-le)

    pub difference_bounds : {d u : ℕ} → RankBounds 0 ((first - y) * 2 ^ k) d u → RankBounds 0 (at_rank 52 r - at_rank 52 t) d u
    difference_bounds = same_bounds 0 (omega (arith, ap (λ (x : ℕ). x * 2 ^ k) whole, add-mul (first - y) y (2 ^ k), first_units, second_units))
      where
        whole : first - y + y ≡ first
        whole = omega (arith, second_less)
