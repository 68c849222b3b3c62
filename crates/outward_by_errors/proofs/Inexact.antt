-- A sum that its rounded part does not show whole is at least two units from 0, and a sum whose first number is not −0 is not −0. Assumes nothing.
use mathlib.Core.Path.{◌≡◌, refl, sym, ap, ap₂, ◌∙◌, subst}
use mathlib.Core.Logic.{inl, inr}
use mathlib.Core.Bool.{Bool, true, false, cond, true≢false}
use Prim.Native.Nat.{ℕ, zero, suc, ◌+◌, ◌-◌, ◌*◌, ◌^◌, ◌≤◌, ◌<◌, ◌∣◌}
use native.Mathlib.Nat.{le_trans, one-dvd, dvd-mul_left, mul-le-mul_left}
use native.Mathlib.Omega.{arith}
use lib.IntN.{ℤ, pos, nat_abs, ◌+ℤ◌, ◌*ℤ◌, +ℤ_comm}
use lib.Dec.{T, lit<, lit≤}
use lib.Ieee.{Float, binary64, of_bits, fits, eq, ne}
use lib.Pow.{pow-add, pow_mono}
use lib.Ieee.Fits.{add-fits}
use lib.Ieee.Scale.{finite}
use Rattle.exact.specs.Value.{sign, magnitude, signed, exact}
use Rattle.exact.specs.Representable.{Representable}
use Rattle.exact.specs.Nearest.{nearest_units, to_nearest}
use Rattle.exact.proofs.Naturals.{le_or_lt}
use Rattle.exact.proofs.Difference.{all, differences}
use Rattle.exact.proofs.Representable.{representable_pow}
use Rattle.exact.proofs.Signed.{by_sign, signed_abs, signed_scale, nat_abs_dif}
use Rattle.exact.proofs.Values.{exact_abs, exact_is}
use Rattle.exact.proofs.Nearest.{nearest_ge, to_nearest_signed, to_nearest_same}
use Rattle.exact.proofs.Operations.{by_one}
use Rattle.exact.proofs.Signs.{minus_zero, add_minus_zero}
use Rattle.rank_arithmetic.specs.Rank.{infinity, double}
use Rattle.rank_arithmetic.proofs.Grid.{exponent, significand, parts, at_rank_is}
use Rattle.doubles.specs.Directed.{with_zero, round_up, round_down, sum_with, product_with}
use Rattle.doubles.proofs.Patterns.{rank_of, pattern, ranked, finite_no_nan, double_sign}
use Rattle.doubles.proofs.FirstCase.{magnitude_rank}
use Rattle.doubles.proofs.Zero.{with_zero_rank, with_zero_own}
use Rattle.doubles.proofs.Mirror.{up_zero, down_zero}
use Rattle.doubles.proofs.Bounding.{sum-finite}
use Rattle.doubles.proofs.Ends.{product_plus}
use Rattle.cdouble.specs.declared.CDouble.{CDouble}
use Rattle.cdouble.specs.Compensated.{◌⊕◌, plus_zero}
use Rattle.cdouble.specs.Exactness.{IsExact}
use Rattle.outward_by_errors.specs.Far.{Far, NotMinusZero}
use Rattle.adjacent.specs.Fields.{Normal}

-- ---- a number of a normal number's size rounds to one, and a smaller one is a double's
nearest_least : (k : ℕ) (z : ℤ) → 2 ^ k ≤ nat_abs z → 2 ^ k ≤ nat_abs (to_nearest 0 z)
nearest_least k = by_sign _ λ s n h.
    subst (λ (m : ℕ). 2 ^ k ≤ m) (sym (ap nat_abs (to_nearest_signed 0 s n) ∙ signed_abs s (nearest_units 53 0 n)))
    (nearest_ge 53 (lit< tt) 0 n (2 ^ k) (representable_pow 53 (lit< tt) k) (omega (arith, h, signed_abs s n)))

small_digits : (z : ℤ) → nat_abs z < 2 ^ 52 → Representable 53 (nat_abs z)
small_digits z h = record { exp = 0; dvd = one-dvd (nat_abs z); fit = below (nat_abs z) h }
  where
    below : (n : ℕ) → n < 2 ^ 52 → n < 2 ^ (53 + 0)
    below n h = omega arith

no_rest : (a b z : ℤ) → a *ℤ pos (2 ^ 0) +ℤ b *ℤ pos (2 ^ 0) ≡ z → a ≡ z → b ≡ pos 0
no_rest = all _ λ a a'. all _ λ b b'. all _ λ z z'. simp differences (λ h k. omega arith)

-- the pair of a sum whose low part is not 0, where a sum below 2 ^ k is a double's
inexact_least : (k : ℕ) (z : ℤ) (c : CDouble) → IsExact 0 z c → (exact c.lo ≡ pos 0 → ⊥) → (nat_abs z < 2 ^ k → Representable 53 (nat_abs z)) → 2 ^ k ≤ magnitude c.hi
inexact_least k z c E n small = elim (le_or_lt (2 ^ k) (nat_abs z)) [
  | inl h ↦ subst (λ (m : ℕ). 2 ^ k ≤ m) (ap nat_abs (sym E.nearest) ∙ exact_abs c.hi) (nearest_least k z h)
  | inr h ↦ absurd (n (no_rest (exact c.hi) (exact c.lo) z E.whole (E.nearest ∙ ap (to_nearest 0) (by_one z) ∙ to_nearest_same 0 z (small h))))
]

pub inexact_large : (z : ℤ) (c : CDouble) → IsExact 0 z c → (exact c.lo ≡ pos 0 → ⊥) → 2 ^ 52 ≤ magnitude c.hi
inexact_large z c E n = inexact_least 52 z c E n (small_digits z)

-- ---- a double of at least 2 ^ 106 units is so many times 2 ^ 54 units
module _ (x : Float) (f : T (finite x)) (h : T (fits binary64 x)) (l : 2 ^ 106 ≤ magnitude x) where
  abbrev r : ℕ
  r = rank_of x

  deep : 54 ≤ exponent 52 r
  deep = elim (le_or_lt 54 (exponent 52 r)) [ inl k ↦ k | inr k ↦ absurd (none (mul-le-mul_left (significand 52 r) (pow_mono {i = exponent 52 r} {j = 53} (omega (arith, k))))) ]
    where
      none : significand 52 r * 2 ^ exponent 52 r ≤ significand 52 r * 2 ^ 53 → ⊥
      none k = omega (arith, k, l, magnitude_rank x f h, at_rank_is 52 r, (parts 52 r).2)

  abbrev times : ℕ
  times = significand 52 r * 2 ^ (exponent 52 r - 54)

  many : exact x ≡ signed (sign x) times *ℤ pos (2 ^ 54)
  many =
      exact_is x
      ∙ ap (signed (sign x)) (magnitude_rank x f h ∙ at_rank_is 52 r ∙ ap (λ (n : ℕ). significand 52 r * n) parted ∙ turn (significand 52 r) (2 ^ (exponent 52 r - 54)) (2 ^ 54))
      ∙ sym (signed_scale (sign x) times (2 ^ 54))
    where
      parted : 2 ^ exponent 52 r ≡ 2 ^ (exponent 52 r - 54) * 2 ^ 54
      parted = ap (λ (n : ℕ). 2 ^ n) (omega (arith, deep)) ∙ pow-add 2 (exponent 52 r - 54) 54

      turn : (a b c : ℕ) → a * (b * c) ≡ a * b * c
      turn a b c = omega arith

reach : (a b : ℤ) → nat_abs a ≤ nat_abs (a +ℤ b) + nat_abs b
reach = all _ λ a a'. all _ λ b b'. simp (differences, nat_abs_dif) (omega arith)

gathered : (n : ℕ) (a b : ℤ) → a *ℤ pos n +ℤ b *ℤ pos n ≡ (a +ℤ b) *ℤ pos n
gathered n = all _ λ a a'. all _ λ b b'. simp differences (omega arith)

abs_scale : (n : ℕ) (z : ℤ) → nat_abs (z *ℤ pos n) ≡ nat_abs z * n
abs_scale n = by_sign _ λ s m. ap nat_abs (signed_scale s m n) ∙ signed_abs s (m * n) ∙ ap (λ (k : ℕ). k * n) (sym (signed_abs s m))

-- so a sum of one twice as large with any double is a double's, where it is below 2 ^ 105 units
sum_digits : (a b : Float) → T (finite a) → T (finite b) → T (fits binary64 a) → T (fits binary64 b) → 2 ^ 107 ≤ magnitude a → nat_abs (exact a +ℤ exact b) < 2 ^ 105
    → Representable 53 (nat_abs (exact a +ℤ exact b))
sum_digits a b f g ha hb l small = record { exp = 54; dvd = subst (λ (n : ℕ). 2 ^ 54 ∣ n) (sym is) (dvd-mul_left (2 ^ 54) (nat_abs w)); fit = more (nat_abs (exact a +ℤ exact b)) small }
  where
    other : 2 ^ 106 ≤ magnitude b
    other = omega (arith, l, small, reach (exact a) (exact b), exact_abs a, exact_abs b)

    l' : 2 ^ 106 ≤ magnitude a
    l' = omega (arith, l)

    w : ℤ
    w = signed (sign a) (times a f ha l') +ℤ signed (sign b) (times b g hb other)

    is : nat_abs (exact a +ℤ exact b) ≡ nat_abs w * 2 ^ 54
    is = ap nat_abs (ap₂ ◌+ℤ◌ (many a f ha l') (many b g hb other) ∙ gathered (2 ^ 54) (signed (sign a) (times a f ha l')) (signed (sign b) (times b g hb other))) ∙ abs_scale (2 ^ 54) w

    more : (n : ℕ) → n < 2 ^ 105 → n < 2 ^ (53 + 54)
    more n h = omega arith

-- the pair of such a sum
pub sum_least : (a b : Float) (c : CDouble) → T (finite a) → T (finite b) → T (fits binary64 a) → T (fits binary64 b) → IsExact 0 (exact a +ℤ exact b) c
    → 2 ^ (1074 - 967) ≤ magnitude a → (exact c.lo ≡ pos 0 → ⊥) → 2 ^ (1074 - 969) ≤ magnitude c.hi
sum_least a b c f g ha hb E l n = inexact_least 105 (exact a +ℤ exact b) c E n (sum_digits a b f g ha hb l)

-- ---- −0
minus_zero_is : double true 0 ≡ minus_zero
unfolding of_bits
minus_zero_is = refl

minus_zero_none : magnitude minus_zero ≡ 0
unfolding magnitude
minus_zero_none = refl

pub not_minus_zero : (x : Float) → T (finite x) → T (fits binary64 x) → (x ≡ minus_zero → ⊥) → NotMinusZero x
not_minus_zero x f h n = ap (with_zero false) same ∙ go (sign x) (rank_of x) same small ∙ sym same
  where
    same : x ≡ double (sign x) (rank_of x)
    same = (pattern x (finite_no_nan x f) h).same

    small : rank_of x < infinity
    small = (ranked x f h).small

    go : (s : Bool) (r : ℕ) → x ≡ double s r → r < infinity → with_zero false (double s r) ≡ double s r
    go false r e k = with_zero_own false (double false r) (double_sign false r (omega arith))
    go true zero e k = absurd (n (e ∙ minus_zero_is))
    go true (suc r) e k = with_zero_rank false true (suc r) (omega arith) (omega arith)

pub is_not_minus_zero : (x : Float) → NotMinusZero x → x ≡ minus_zero → ⊥
is_not_minus_zero x n e = true≢false (sym (ap sign e) ∙ ap sign (sym n ∙ ap (with_zero false) e))

-- what is far from 0 is a normal number
pub far_normal : {x : Float} → Far x → (step : Bool) → Normal x step
far_normal {x} F step = record { is_finite = F.is_finite; least = λ t. le_trans (lit≤ tt) F.least }

pub far-zero : (x : Float) → T (fits binary64 x) → Far x → NotMinusZero x
far-zero x h F = not_minus_zero x F.is_finite h (λ e. none (magnitude x) (ap magnitude e ∙ minus_zero_none) F.least)
  where
    none : (m : ℕ) → m ≡ 0 → 2 ^ (1074 - 966) ≤ m → ⊥
    none m e h = omega arith

module _ (a b : Float) (ha : T (fits binary64 a)) (hb : T (fits binary64 b)) (f : T (finite (a ⊕ b))) where
  pub sum_first : NotMinusZero a → NotMinusZero (a ⊕ b)
  sum_first n = not_minus_zero (a ⊕ b) f (add-fits binary64 a b) (λ e. is_not_minus_zero a n (add_minus_zero a b ha hb e))

  pub sum_tested : T (ne (a ⊕ b) plus_zero) → NotMinusZero (a ⊕ b)
  unfolding ne eq
  sum_tested t = not_minus_zero (a ⊕ b) f (add-fits binary64 a b) (λ e. subst (λ (x : Float). T (ne x plus_zero)) e t)

-- ---- rounded up, or down
abbrev pub round_to : Bool → ℕ → ℤ → Float
round_to up l = cond up (round_up l) (round_down l)

abbrev pub sum_to : Bool → Float → Float → Float
sum_to up = sum_with (round_to up 0)

abbrev pub product_to : Bool → Float → Float → Float
product_to up = product_with (round_to up 1074)

pub round_clear : (up : Bool) (l : ℕ) (z : ℤ) → NotMinusZero (round_to up l z)
round_clear true = up_zero
round_clear false = down_zero

-- products are never −0
pub product_clear : (up : Bool) (a b : Float) → NotMinusZero (product_to up a b)
product_clear up a b = product_plus (round_to up 1074) (round_clear up 1074) a b

-- the order of a sum does not matter
pub sum_turned : (rounded : ℤ → Float) (a b : Float) → T (finite a) → T (finite b) → sum_with rounded a b ≡ sum_with rounded b a
sum_turned rounded a b f g = sym (sum-finite rounded a b f g) ∙ ap rounded (+ℤ_comm (exact a) (exact b)) ∙ sum-finite rounded b a g f
