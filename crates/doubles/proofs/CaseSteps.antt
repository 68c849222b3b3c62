-- The neighbours of a double of sign + by its magnitude: of few units, of a power of two, and of m 2 ^ k units. Assumes nothing.
use mathlib.Core.Path.{◌≡◌, refl, sym, ap, ◌∙◌, subst}
use mathlib.Core.Logic.{◌⊎◌, inl, inr}
use mathlib.Core.Bool.{Bool, false}
use Prim.Native.Nat.{ℕ, suc, ◌+◌, ◌-◌, ◌*◌, ◌^◌, ◌≤◌, ◌<◌}
use native.Mathlib.Nat.{le_refl, suc-mul, two-pow-succ, zero-mul}
use native.Mathlib.Omega.{arith}
use lib.IntN.{pos}
use lib.Dec.{T, lit<}
use lib.Pow.{pow-add, pow_mono, pow_pos}
use lib.Ieee.{Float, inf, binary64, fits}
use lib.Ieee.Scale.{finite}
use Rattle.exact.specs.Value.{sign, magnitude}
use Rattle.exact.proofs.Naturals.{le_or_lt}
use Rattle.rank_arithmetic.specs.Rank.{at_rank, rank, infinity, double}
use Rattle.rank_arithmetic.proofs.Grid.{at_rank_form, at_rank_next, rank_at_rank}
use Rattle.doubles.specs.declared.Case.TheVariants.{Zero, PowerOfTwo, Max, Rest}
use Rattle.doubles.specs.Neighbours.{next_up, next_down}
use Rattle.doubles.specs.Cases.{max, Size, Steps, First, Value}
use Rattle.doubles.proofs.Patterns.{rank_of, pattern, ranked, finite_no_nan, exact_double, double_infinity}
use Rattle.doubles.proofs.NextRank.{rank_finite, away, toward}

-- ---- of sign +, and of m 2 ^ k units
abbrev pub Form : ℕ → ℕ → Type 0
Form k m = ((k ≡ 0) ⊎ (2 ^ 52 ≤ m)) × (m < 2 ^ 53)

module _ (x : Float) (f : T (finite x)) (h : T (fits binary64 x)) (s : sign x ≡ false) where
  abbrev r : ℕ
  r = rank_of x

  small : r < infinity
  small = (ranked x f h).small

  pub same : x ≡ double false r
  same = (pattern x (finite_no_nan x f) h).same ∙ ap (λ (t : Bool). double t r) s

  pub value : (q n : ℕ) → q < infinity → at_rank 52 q ≡ n → Value (pos n) (double false q)
  value q n l e = let d = exact_double false q l in (d.0, d.1 ∙ ap pos e)

  up_is : next_up x ≡ double false (suc r)
  up_is = ap next_up same ∙ away false r small

  pub down_is : (p : ℕ) → r ≡ suc p → next_down x ≡ double false p
  down_is p e = ap next_down (same ∙ ap (double false) e) ∙ toward false p (subst (λ (q : ℕ). q < infinity) e small)

  module _ (k m : ℕ) (F : Form k m) (u : magnitude x ≡ m * 2 ^ k) where
    pub rank_is : r ≡ k * 2 ^ 52 + m
    rank_is = rank_finite x f ∙ ap (rank 52) (u ∙ sym (at_rank_form 52 k m F.0 F.1)) ∙ rank_at_rank 52 (k * 2 ^ 52 + m)

    pub above : suc r < infinity → Value (pos ((m + 1) * 2 ^ k)) (next_up x)
    above l = subst (Value (pos ((m + 1) * 2 ^ k))) (sym up_is)
        (value (suc r) ((m + 1) * 2 ^ k) l (ap (λ (q : ℕ). at_rank 52 (suc q)) rank_is ∙ at_rank_next 52 k m F.0 F.1 ∙ one_more m (2 ^ k)))
      where
        one_more : (m p : ℕ) → m * p + p ≡ (m + 1) * p
        one_more m p = omega (arith, suc-mul m p)

    pub past : suc r ≡ infinity → next_up x ≡ inf false
    past e = up_is ∙ ap (double false) e ∙ double_infinity false

    pub below : (i l : ℕ) → Form i l → suc (i * 2 ^ 52 + l) ≡ k * 2 ^ 52 + m → Value (pos (l * 2 ^ i)) (next_down x)
    below i l G e =
        let p = i * 2 ^ 52 + l in
        let d : r ≡ suc p = rank_is ∙ sym e in
        subst (Value (pos (l * 2 ^ i))) (sym (down_is p d)) (value p (l * 2 ^ i) (less r p d small) (at_rank_form 52 i l G.0 G.1))
      where
        less : (r p : ℕ) → r ≡ suc p → r < infinity → p < infinity
        less r p e l = omega arith

  -- fewer than 2 ^ 52 units
  module _ (m : ℕ) (l : m < 2 ^ 52) (u : magnitude x ≡ m) where
    pub few : Form 0 m
    few = (inl refl, omega arith)

    pub units : magnitude x ≡ m * 2 ^ 0
    units = u ∙ one m
      where
        one : (m : ℕ) → m ≡ m * 2 ^ 0
        one m = omega arith

    pub few_rank : r ≡ m
    few_rank = rank_is 0 m few units ∙ none m
      where
        none : (m : ℕ) → 0 * 2 ^ 52 + m ≡ m
        none m = omega arith

    pub few_above : Value (pos ((m + 1) * 2 ^ 0)) (next_up x)
    few_above = above 0 m few units (below_infinity r m few_rank l)
      where
        below_infinity : (r m : ℕ) → r ≡ m → m < 2 ^ 52 → suc r < infinity
        below_infinity r m e l = omega arith

  -- 2 ^ j units
  module _ (j : ℕ) (u : magnitude x ≡ 2 ^ j) where
    capped : j ≤ 52 → 2 ^ j ≤ 2 ^ 52
    capped l = pow_mono l

    -- a subnormal, or the smallest normal number
    low_form : j ≤ 52 → Form 0 (2 ^ j)
    low_form l = (inl refl, omega (arith, capped l))

    low_units : magnitude x ≡ 2 ^ j * 2 ^ 0
    low_units = u ∙ one (2 ^ j)
      where
        one : (p : ℕ) → p ≡ p * 2 ^ 0
        one p = omega arith

    -- any other
    high_form : (k : ℕ) → Form k (2 ^ 52)
    high_form k = (inr (le_refl (2 ^ 52)), lit< tt)

    high_units : (k : ℕ) → 52 + k ≡ j → magnitude x ≡ 2 ^ 52 * 2 ^ k
    high_units k e = u ∙ ap (λ (i : ℕ). 2 ^ i) (sym e) ∙ pow-add 2 52 k

    pub power_above : Value (pos (2 ^ j + 2 ^ (j - 52))) (next_up x)
    power_above = elim (le_or_lt j 52) [
      | inl l ↦ subst (λ (n : ℕ). Value (pos n) (next_up x)) (low (2 ^ j) ∙ ap (λ (i : ℕ). 2 ^ j + 2 ^ i) (gone j l))
          (above 0 (2 ^ j) (low_form l) low_units (low_room r (2 ^ j) (rank_is 0 (2 ^ j) (low_form l) low_units) (capped l)))
      | inr l ↦
          let k = j - 52 in
          let e : 52 + k ≡ j = omega arith in
          let v = high_units k e in
          subst (λ (n : ℕ). Value (pos n) (next_up x)) (high (2 ^ k) ∙ ap (λ (n : ℕ). n + 2 ^ k) (sym v ∙ u))
          (above k (2 ^ 52) (high_form k) v (high_room r k (rank_is k (2 ^ 52) (high_form k) v) small))
    ]
      where
        low : (p : ℕ) → (p + 1) * 2 ^ 0 ≡ p + 2 ^ 0
        low p = omega arith

        gone : (j : ℕ) → j ≤ 52 → 0 ≡ j - 52
        gone j l = omega arith

        high : (p : ℕ) → (2 ^ 52 + 1) * p ≡ 2 ^ 52 * p + p
        high p = omega arith

        low_room : (r p : ℕ) → r ≡ 0 * 2 ^ 52 + p → p ≤ 2 ^ 52 → suc r < infinity
        low_room r p e l = omega arith

        high_room : (r k : ℕ) → r ≡ k * 2 ^ 52 + 2 ^ 52 → r < infinity → suc r < infinity
        high_room r k e l = omega arith

    pub power_below : Value (pos (2 ^ j - 2 ^ (j - 53))) (next_down x)
    power_below = elim (le_or_lt j 52) [
      | inl l ↦ subst (λ (n : ℕ). Value (pos n) (next_down x)) (low (2 ^ j) ∙ ap (λ (i : ℕ). 2 ^ j - 2 ^ i) (gone j l))
          (below 0 (2 ^ j) (low_form l) low_units 0 (2 ^ j - 1) (inl refl, omega (arith, capped l)) (one_less (2 ^ j) (pow_pos j)))
      | inr l ↦
          let i = j - 53 in
          let e : 52 + suc i ≡ j = omega arith in
          let v = high_units (suc i) e in
          subst (λ (n : ℕ). Value (pos n) (next_down x)) (high (2 ^ i) ∙ ap (λ (n : ℕ). n - 2 ^ i) (ap (λ (n : ℕ). 2 ^ 52 * n) (sym (two-pow-succ i)) ∙ sym v ∙ u))
          (below (suc i) (2 ^ 52) (high_form (suc i)) v i (2 ^ 53 - 1) (inr (omega arith), lit< tt) (digits_full i))
    ]
      where
        low : (p : ℕ) → (p - 1) * 2 ^ 0 ≡ p - 2 ^ 0
        low p = omega arith

        gone : (j : ℕ) → j ≤ 52 → 0 ≡ j - 53
        gone j l = omega arith

        one_less : (p : ℕ) → 0 < p → suc (0 * 2 ^ 52 + (p - 1)) ≡ 0 * 2 ^ 52 + p
        one_less p l = omega arith

        high : (p : ℕ) → (2 ^ 53 - 1) * p ≡ 2 ^ 52 * (p + p) - p
        high p = omega arith

        digits_full : (i : ℕ) → suc (i * 2 ^ 52 + (2 ^ 53 - 1)) ≡ suc i * 2 ^ 52 + 2 ^ 52
        digits_full i = omega arith

  -- the rest
  module _ (F : First Rest x) (m k : ℕ) (S : Steps m k) (u : magnitude x ≡ m * 2 ^ k) where
    form : Form k m
    form = (elim (le_or_lt k 0) [ inl z ↦ inl (omega arith) | inr p ↦ inr (S.leading p) ], S.digits)

    is_size : (n : ℕ) → m * 2 ^ k ≡ n → Size n x
    is_size n e = record { is_finite = f; units = u ∙ e }

    rest_room : suc r < infinity
    rest_room = elim (le_or_lt infinity (suc r)) [
      | inl l ↦ absurd (F.not_before Max (omega arith) (is_size max (ap_max m k (last r m k (rank_is k m form u) l S.digits S.most))))
      | inr l ↦ l
    ]
      where
        last : (r m k : ℕ) → r ≡ k * 2 ^ 52 + m → infinity ≤ suc r → m < 2 ^ 53 → k ≤ 2045 → (m ≡ 2 ^ 53 - 1) × (k ≡ 2045)
        last r m k e l d t = (omega arith, omega arith)

        ap_max : (m k : ℕ) → (m ≡ 2 ^ 53 - 1) × (k ≡ 2045) → m * 2 ^ k ≡ max
        ap_max m k e = ap (λ (n : ℕ). n * 2 ^ k) e.0 ∙ ap (λ (i : ℕ). (2 ^ 53 - 1) * 2 ^ i) e.1

    not_zero : 0 < m
    not_zero = elim (le_or_lt m 0) [ inl l ↦ absurd (F.not_before Zero (omega arith) (is_size 0 (ap (λ (n : ℕ). n * 2 ^ k) (zero_is m l) ∙ zero-mul (2 ^ k)))) | inr l ↦ l ]
      where
        zero_is : (m : ℕ) → m ≤ 0 → m ≡ 0
        zero_is m l = omega arith

    less_form : Form k (m - 1)
    less_form = (
      elim form.0 [
        | inl z ↦ inl z
        | inr l ↦ elim (le_or_lt m (2 ^ 52)) [
          | inl t ↦ absurd (F.not_before PowerOfTwo (omega arith) (f, (52 + k, u ∙ ap (λ (n : ℕ). n * 2 ^ k) (same_as m l t) ∙ sym (pow-add 2 52 k))))
          | inr t ↦ inr (omega arith)
        ]
      ],
      omega (arith, S.digits),
    )
      where
        same_as : (m : ℕ) → 2 ^ 52 ≤ m → m ≤ 2 ^ 52 → m ≡ 2 ^ 52
        same_as m l t = omega arith

    pub rest_above : Value (pos ((m + 1) * 2 ^ k)) (next_up x)
    rest_above = above k m form u rest_room

    pub rest_below : Value (pos ((m - 1) * 2 ^ k)) (next_down x)
    rest_below = below k m form u k (m - 1) less_form (one_less k m not_zero)
      where
        one_less : (k m : ℕ) → 0 < m → suc (k * 2 ^ 52 + (m - 1)) ≡ k * 2 ^ 52 + m
        one_less k m l = omega arith
