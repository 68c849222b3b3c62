-- `rank_down` and `rank_up` of a number with binary digits 0 after it, by the number's own digits. Assumes nothing.
use mathlib.Core.Path.{◌≡◌, sym, ap, ◌∙◌, subst}
use mathlib.Core.Logic.{inl, inr}
use Prim.Native.Nat.{ℕ, suc, ◌+◌, ◌-◌, ◌*◌, ◌/◌, ◌%◌, ◌^◌, ◌≤◌, ◌<◌, min}
use native.Mathlib.Nat.{le_refl, le_of_lt, not-le_of_lt, mul_comm, div-add-mod', mul_assoc, mul-div-mul_right, mul-mod_left, mul-lt-mul_of_pos_right, sub-add_cancel}
use native.Mathlib.Omega.{arith}
use lib.Pow.{pow-add, pow_pos, shl-shr, shr-shr, mod-pow-add}
use lib.Ieee.{size}
use Rattle.rank_arithmetic.specs.Rank.{at_rank, rank_down, rank_up, rank}
use Rattle.exact.proofs.Naturals.{le_or_lt}
use Rattle.rank_arithmetic.proofs.Grid.{at_rank_rank, rank_down_iff, rank_up_iff, at_rank-lt, rank_short}
use Rattle.rank_arithmetic.proofs.Widths.{size_shr, size_shl, some_mul}

-- ---- n / 2 ^ l units
module _ (q l n : ℕ) where
  -- how many digits of the whole units are dropped
  abbrev dropped : ℕ
  dropped = size n - l - suc q

  dropped_is : size (n / 2 ^ l) - suc q ≡ dropped
  dropped_is = ap (λ (x : ℕ). x - suc q) (size_shr n l)

  kept_is : n / 2 ^ l / 2 ^ (size (n / 2 ^ l) - suc q) ≡ n / 2 ^ (l + dropped)
  kept_is = ap (λ (x : ℕ). n / 2 ^ l / 2 ^ x) dropped_is ∙ shr-shr n l dropped

  kept_short : n / 2 ^ (l + dropped) < 2 ^ q + 2 ^ q
  kept_short = subst (λ (x : ℕ). x < 2 ^ q + 2 ^ q) kept_is (rank_short q (n / 2 ^ l))

  rank_down_is : rank_down q l n ≡ dropped * 2 ^ q + n / 2 ^ (l + dropped)
  unfolding rank_down rank
  rank_down_is = ap (λ (x : ℕ). x * 2 ^ q + n / 2 ^ l / 2 ^ x) dropped_is ∙ ap (λ (x : ℕ). dropped * 2 ^ q + x) (shr-shr n l dropped)

  at_rank-rank_down : at_rank q (rank_down q l n) * 2 ^ l ≡ n / 2 ^ (l + dropped) * 2 ^ (l + dropped)
  unfolding rank_down
  at_rank-rank_down =
      ap (λ (x : ℕ). x * 2 ^ l) (at_rank_rank q (n / 2 ^ l) ∙ ap (λ (x : ℕ). n / 2 ^ l / 2 ^ x * 2 ^ x) dropped_is ∙ ap (λ (x : ℕ). x * 2 ^ dropped) (shr-shr n l dropped))
      ∙ mul_assoc (n / 2 ^ (l + dropped)) (2 ^ dropped) (2 ^ l) ∙ ap (λ (x : ℕ). n / 2 ^ (l + dropped) * x) (mul_comm (2 ^ dropped) (2 ^ l) ∙ sym (pow-add 2 l dropped))

  rank_up-le : rank_up q l n ≤ suc (rank_down q l n)
  rank_up-le = (rank_up_iff q l n (suc (rank_down q l n))).0 (elim (le_or_lt n (at_rank q (suc (rank_down q l n)) * 2 ^ l)) [
    | inl h ↦ h
    | inr h ↦ absurd (not-le_of_lt (le_refl (suc (rank_down q l n))) ((rank_down_iff q l n (suc (rank_down q l n))).0 (le_of_lt h)))
  ])

  rank_down-le : rank_down q l n ≤ rank_up q l n
  rank_down-le = elim (le_or_lt (rank_down q l n) (rank_up q l n)) [
    | inl h ↦ h
    | inr h ↦
        let above = (rank_up_iff q l n (rank_up q l n)).1 (le_refl (rank_up q l n)) in
        let below = (rank_down_iff q l n (rank_down q l n)).1 (le_refl (rank_down q l n)) in
        omega (arith, mul-lt-mul_of_pos_right (at_rank-lt q (rank_up q l n) (rank_down q l n) h) (pow_pos l))
  ]

  rank_up_is : rank_up q l n ≡ rank_down q l n + min (n % 2 ^ (l + dropped)) 1
  rank_up_is =
      let d = div-add-mod' n (2 ^ (l + dropped)) in
      elim (le_or_lt (rank_up q l n) (rank_down q l n)) [
        | inl h ↦ omega (arith, (rank_up_iff q l n (rank_down q l n)).1 h, at_rank-rank_down, rank_down-le)
        | inr h ↦ elim (le_or_lt (n % 2 ^ (l + dropped)) 0) [
          | inl z ↦ omega (arith, (rank_up_iff q l n (rank_down q l n)).0 (omega (arith, at_rank-rank_down)))
          | inr p ↦ omega (arith, rank_up-le)
        ]
      ]

-- ---- shifts of p * 2 ^ s
split_pow : (s t : ℕ) → s ≤ t → 2 ^ t ≡ 2 ^ (t - s) * 2 ^ s
split_pow s t h = ap (λ (x : ℕ). 2 ^ x) (sym (sub-add_cancel h)) ∙ pow-add 2 (t - s) s

cut_div : (p s t : ℕ) → s ≤ t → p * 2 ^ s / 2 ^ t ≡ p / 2 ^ (t - s)
cut_div p s t h = ap (λ (x : ℕ). p * 2 ^ s / x) (split_pow s t h) ∙ mul-div-mul_right p (2 ^ (t - s)) (pow_pos s)

cut_mod : (p s t : ℕ) → s ≤ t → min (p * 2 ^ s % 2 ^ t) 1 ≡ min (p % 2 ^ (t - s)) 1
cut_mod p s t h =
    let same = ap (λ (x : ℕ). x % 2 ^ (t - s) * 2 ^ s) (shl-shr p s) in
    let rest : p * 2 ^ s % 2 ^ (t - s + s) ≡ p % 2 ^ (t - s) * 2 ^ s = omega (arith, mod-pow-add (p * 2 ^ s) (t - s) s, mul-mod_left p (2 ^ s)) in
    ap (λ (x : ℕ). min x 1) (ap (λ (x : ℕ). p * 2 ^ s % 2 ^ x) (sym (sub-add_cancel h)) ∙ rest) ∙ some_mul (p % 2 ^ (t - s)) (2 ^ s) (pow_pos s)

shift_split : (p s t : ℕ) → t ≤ s → p * 2 ^ s ≡ p * 2 ^ (s - t) * 2 ^ t
shift_split p s t h = ap (λ (x : ℕ). p * x) (split_pow t s h) ∙ sym (mul_assoc p (2 ^ (s - t)) (2 ^ t))

shift_div : (p s t : ℕ) → t ≤ s → p * 2 ^ s / 2 ^ t ≡ p * 2 ^ (s - t)
shift_div p s t h = ap (λ (x : ℕ). x / 2 ^ t) (shift_split p s t h) ∙ shl-shr (p * 2 ^ (s - t)) t

shift_mod : (p s t : ℕ) → t ≤ s → p * 2 ^ s % 2 ^ t ≡ 0
shift_mod p s t h = ap (λ (x : ℕ). x % 2 ^ t) (shift_split p s t h) ∙ mul-mod_left (p * 2 ^ (s - t)) (2 ^ t)

-- ---- the ranks of p * 2 ^ s / 2 ^ l units: k digits of the whole units are dropped
module _ (q l p s k : ℕ) (some : 0 < p) (e : k ≡ size p + s - (l + suc q)) where
  exponent_is : size (p * 2 ^ s) - l - suc q ≡ k
  exponent_is = omega (arith, size_shl p s some)

  down_is : rank_down q l (p * 2 ^ s) ≡ k * 2 ^ q + p * 2 ^ s / 2 ^ (l + k)
  down_is = rank_down_is q l (p * 2 ^ s) ∙ ap (λ (x : ℕ). x * 2 ^ q + p * 2 ^ s / 2 ^ (l + x)) exponent_is

  up_is : rank_up q l (p * 2 ^ s) ≡ k * 2 ^ q + p * 2 ^ s / 2 ^ (l + k) + min (p * 2 ^ s % 2 ^ (l + k)) 1
  up_is = rank_up_is q l (p * 2 ^ s) ∙ ap (λ (x : ℕ). rank_down q l (p * 2 ^ s) + min (p * 2 ^ s % 2 ^ (l + x)) 1) exponent_is ∙ ap (λ (x : ℕ). x + min (p * 2 ^ s % 2 ^ (l + k)) 1) down_is

  short : p * 2 ^ s / 2 ^ (l + k) < 2 ^ q + 2 ^ q
  short = subst (λ (x : ℕ). p * 2 ^ s / 2 ^ (l + x) < 2 ^ q + 2 ^ q) exponent_is (kept_short q l (p * 2 ^ s))

  -- digits of p are cut off
  module _ (h : s ≤ l + k) where
    pub cut_short : p / 2 ^ (l + k - s) < 2 ^ q + 2 ^ q
    cut_short = subst (λ (x : ℕ). x < 2 ^ q + 2 ^ q) (cut_div p s (l + k) h) short

    pub cut_rank_down : rank_down q l (p * 2 ^ s) ≡ k * 2 ^ q + p / 2 ^ (l + k - s)
    cut_rank_down = omega (arith, down_is, cut_div p s (l + k) h)

    pub cut_rank_up : rank_up q l (p * 2 ^ s) ≡ k * 2 ^ q + p / 2 ^ (l + k - s) + min (p % 2 ^ (l + k - s)) 1
    cut_rank_up = omega (arith, up_is, cut_div p s (l + k) h, cut_mod p s (l + k) h)

  -- p is shifted up
  module _ (h : l + k ≤ s) where
    pub shift_short : p * 2 ^ (s - (l + k)) < 2 ^ q + 2 ^ q
    shift_short = subst (λ (x : ℕ). x < 2 ^ q + 2 ^ q) (shift_div p s (l + k) h) short

    pub shift_rank_down : rank_down q l (p * 2 ^ s) ≡ k * 2 ^ q + p * 2 ^ (s - (l + k))
    shift_rank_down = omega (arith, down_is, shift_div p s (l + k) h)

    pub shift_rank_up : rank_up q l (p * 2 ^ s) ≡ k * 2 ^ q + p * 2 ^ (s - (l + k)) + 0
    shift_rank_up = omega (arith, up_is, shift_div p s (l + k) h, shift_mod p s (l + k) h)
