-- The tests of magnitude, and how large sums and products come out. Assumes nothing.
use mathlib.Core.Path.{◌≡◌, refl, sym, ap, ◌∙◌, subst}
use mathlib.Core.Logic.{inr}
use mathlib.Core.Bool.{Bool, true, false, cond, ◌&&◌}
use Prim.Native.Nat.{ℕ, suc, ◌+◌, ◌-◌, ◌*◌, ◌%◌, ◌^◌, ◌≤◌, ◌<◌}
use native.Mathlib.Nat.{div-one, le_refl, le_trans, mul-le-mul, two-pow-succ, add-suc}
use native.Mathlib.Omega.{arith}
use lib.IntN.{ℤ, pos, neg_ℤ, ◌+ℤ◌, ◌*ℤ◌, *ℤ_comm}
use lib.Count.{count_trailing_zeros}
use lib.Dec.{T, lit<, lit≤}
use lib.Pow.{pow-add, pow_pos, pow_mono}
use lib.Ieee.{Float, nan, inf, fin, binary64, fits, le, lt, eq, neg, unlike, of_bits, to_bits, of_fields, odd, size, units}
use lib.Ieee.Fits.{and_l, and_r, neg-fits}
use lib.Ieee.Scale.{finite}
use Rattle.exact.specs.Value.{sign, magnitude, signed, exact, exact_at}
use Rattle.exact.specs.Integers.{◌≼◌}
use Rattle.exact.proofs.Difference.{differences}
use Rattle.exact.proofs.Compare.{le-exact}
use Rattle.exact.proofs.Order.{≼_trans, pos_≼, neg-≼, +_mono, *_cancel}
use Rattle.exact.proofs.Signed.{signed_*}
use Rattle.exact.proofs.Values.{exact_is, exact-neg}
use Rattle.exact.proofs.Operations.{by_one, add_nearest, mul_nearest}
use Rattle.exact.proofs.Between.{nearest_between}
use Rattle.rank_arithmetic.specs.Rank.{at_rank}
use Rattle.rank_arithmetic.proofs.Grid.{at_rank_form, at_rank_mono}
use Rattle.doubles.specs.Directed.{IsUp, IsDown}
use Rattle.doubles.proofs.Patterns.{rank_of, finite_no_nan}
use Rattle.doubles.proofs.Tests.{rank_bits}
use Rattle.doubles.proofs.FirstCase.{magnitude_rank}
use Rattle.cdouble.specs.Compensated.{◌⊕◌, ◌⊗◌}
use Rattle.cdouble.specs.Exactness.{AtMost, InRange}
use Rattle.outward_by_errors.specs.Far.{Far}

-- ---- powers of two as doubles
abbrev power : ℕ → Float
power k = fin false 1 (pos k)

exact_power : (k : ℕ) → exact (power k) ≡ pos (2 ^ (1074 + k))
unfolding exact magnitude
exact_power k = ap pos (div-one (1 * 2 ^ k * 2 ^ 1074) ∙ turn (2 ^ k) (2 ^ 1074) ∙ sym (pow-add 2 1074 k))
  where
    turn : (a b : ℕ) → 1 * a * b ≡ b * a
    turn a b = omega arith

exact_minus : (k : ℕ) → exact (neg (power k)) ≡ neg_ℤ (pos (2 ^ (1074 + k)))
exact_minus k = exact-neg (power k) ∙ ap neg_ℤ (exact_power k)

-- ---- magnitudes and exact values
below_positive : (m n : ℕ) → neg_ℤ (pos n) ≼ pos m
below_positive m n = simp differences (omega arith)

signed_within : (s : Bool) (m n : ℕ) → m ≤ n → (neg_ℤ (pos n) ≼ signed s m) × (signed s m ≼ pos n)
signed_within false m n h = (below_positive m n, (pos_≼ m n).1 h)
signed_within true m n h = ((neg-≼ (pos m) (pos n)).0 ((pos_≼ m n).1 h), below_positive n m)

within_signed : (s : Bool) (m n : ℕ) → neg_ℤ (pos n) ≼ signed s m → signed s m ≼ pos n → m ≤ n
within_signed false m n l u = (pos_≼ m n).0 u
within_signed true m n l u = (pos_≼ m n).0 ((neg-≼ (pos m) (pos n)).1 l)

pub magnitude-within : (k : ℕ) (x : Float) → T (finite x) → neg_ℤ (pos (2 ^ (1074 + k))) ≼ exact x → exact x ≼ pos (2 ^ (1074 + k)) → AtMost k x
magnitude-within k x f l u = record { is_finite = f; cap = within_signed (sign x) (magnitude x) (2 ^ (1074 + k)) (rw (sym (exact_is x)) l) (rw (sym (exact_is x)) u) }

within-magnitude : (k : ℕ) (x : Float) → AtMost k x → (neg_ℤ (pos (2 ^ (1074 + k))) ≼ exact x) × (exact x ≼ pos (2 ^ (1074 + k)))
within-magnitude k x R = let w = signed_within (sign x) (magnitude x) (2 ^ (1074 + k)) R.cap in (rw (exact_is x) w.0, rw (exact_is x) w.1)

pub weaker : (j k : ℕ) (x : Float) → j ≤ k → AtMost j x → AtMost k x
weaker j k x h R = record { is_finite = R.is_finite; cap = le_trans R.cap (pow_mono (more j k h)) }
  where
    more : (j k : ℕ) → j ≤ k → 1074 + j ≤ 1074 + k
    more j k h = omega arith

pub either_most : {k : ℕ} {x y : Float} → AtMost k x → AtMost k y → (t : Bool) → AtMost k (cond t x y)
either_most r s true = r
either_most r s false = s

-- ---- the test `within`
is_within : (k : ℕ) (x : Float) → T (fits binary64 x) → T (fits binary64 (power k)) → T (le (neg (power k)) x) → T (le x (power k)) → AtMost k x
unfolding le lt eq neg
is_within k nan h g l u = absurd u
is_within k (inf true) h g l u = absurd l
is_within k (inf false) h g l u = absurd u
is_within k (fin s m e) h g l u =
    let x = fin s m e in
    magnitude-within k x tt (rw (exact_minus k) at ((le-exact (neg (power k)) x tt tt (neg-fits binary64 (power k) g) h).0 l)) (rw (exact_power k) at ((le-exact x (power k) tt tt h g).0 u))

-- the limits of the code
pub record Limit (k : ℕ) (p : Float) : Type 0 where
  pub is : p ≡ power k
  pub fit : T (fits binary64 (power k))

pub most_factor : Limit 510 (of_bits binary64 0x5FD0_0000_0000_0000)
unfolding of_bits of_fields odd count_trailing_zeros size units fits
most_factor = record { is = refl; fit = tt }

pub most_end : Limit 1020 (of_bits binary64 0x7FB0_0000_0000_0000)
unfolding of_bits of_fields odd count_trailing_zeros size units fits
most_end = record { is = refl; fit = tt }

pub most_addend : Limit 1022 (of_bits binary64 0x7FD0_0000_0000_0000)
unfolding of_bits of_fields odd count_trailing_zeros size units fits
most_addend = record { is = refl; fit = tt }

pub tested : (k : ℕ) (x : Float) {r : Bool} {p : Float} → Limit k p → T (fits binary64 x) → r ≡ (le (neg p) x && le x p) → T r → AtMost k x
tested k x {p = p} L h t y =
    let w : T (le (neg (power k)) x && le x (power k)) = subst (λ (q : Float). T (le (neg q) x && le x q)) L.is (subst T t y) in
    is_within k x h L.fit (and_l (le (neg (power k)) x) (le x (power k)) w) (and_r (le (neg (power k)) x) (le x (power k)) w)

-- two tests joined
pub both_tested : (k : ℕ) (x y : Float) {r s : Bool} {p : Float} → Limit k p → T (fits binary64 x) → T (fits binary64 y)
    → r ≡ (le (neg p) x && le x p) → s ≡ (le (neg p) y && le y p) → (r && s) ≡ true → AtMost k x × AtMost k y
both_tested k x y {r} {s} L h g t u e = let w : T (r && s) = subst T (sym e) tt in (tested k x L h t (and_l r s w), tested k y L g u (and_r r s w))

-- ---- the test `far`
least_rank : at_rank 52 0x0390_0000_0000_0000 ≡ 2 ^ (1074 - 966)
least_rank = at_rank_form 52 56 (2 ^ 52) (inr (le_refl (2 ^ 52))) (lit< tt)

pub far_tested : (x : Float) → T (finite x) → T (fits binary64 x) → 0x0390_0000_0000_0000 ≤ to_bits binary64 x % 2 ^ 63 → Far x
far_tested x f h l =
    let above : 0x0390_0000_0000_0000 ≤ rank_of x = subst (λ (r : ℕ). 0x0390_0000_0000_0000 ≤ r) (rank_bits x (finite_no_nan x f) h) l in
    record { is_finite = f; least = rw (sym least_rank, magnitude_rank x f h) (at_rank_mono 52 0x0390_0000_0000_0000 (rank_of x) above) }

-- ---- a number between powers of two rounds to between them
cancel : (n : ℕ) (a b : ℤ) → 0 < n → a *ℤ pos n ≼ b *ℤ pos n → a ≼ b
cancel n a b h o = *_cancel n a b h (rw (*ℤ_comm (pos n) a, *ℤ_comm (pos n) b) o)

abbrev Between : ℕ → ℕ → ℤ → Type 0
Between l k z = (exact_at l (neg (power k)) ≼ z) × (z ≼ exact_at l (power k))

pub up_at_most : (l k : ℕ) (z : ℤ) (d : Float) → T (fits binary64 (power k)) → Between l k z → IsUp l z d → AtMost k d
up_at_most l k z d g B U =
    let w = U.least (power k) tt g B.1 in
    magnitude-within k d w.0 (rw (sym (exact_minus k)) (cancel (2 ^ l) (exact (neg (power k))) (exact d) (pow_pos l) (≼_trans B.0 (U.not_below w.0)))) (rw (sym (exact_power k)) w.1)

pub down_at_most : (l k : ℕ) (z : ℤ) (d : Float) → T (fits binary64 (power k)) → Between l k z → IsDown l z d → AtMost k d
unfolding neg
down_at_most l k z d g B D =
    let w = D.greatest (neg (power k)) tt (neg-fits binary64 (power k) g) B.0 in
    magnitude-within k d w.0 (rw (sym (exact_minus k)) w.1) (rw (sym (exact_power k)) (cancel (2 ^ l) (exact d) (exact (power k)) (pow_pos l) (≼_trans (D.not_above w.0) B.1)))

-- ---- sums and products
pub sum_between : (k : ℕ) (a b : Float) → AtMost k a → AtMost k b → Between 0 (suc k) (exact a +ℤ exact b)
sum_between k a b ra rb =
    let N = 2 ^ (1074 + k) in
    let double : 2 ^ (1074 + suc k) ≡ N + N = ap (λ (n : ℕ). 2 ^ n) (add-suc 1074 k) ∙ two-pow-succ (1074 + k) in
    let u = within-magnitude k a ra in
    let v = within-magnitude k b rb in (
      subst (λ (w : ℤ). w ≼ exact a +ℤ exact b)
          (minus N ∙ ap (λ (n : ℕ). neg_ℤ (pos n)) (sym double) ∙ sym (exact_minus (suc k)) ∙ by_one (exact (neg (power (suc k)))))
          (+_mono (neg_ℤ (pos N)) (exact a) (neg_ℤ (pos N)) (exact b) u.0 v.0),
      subst (λ (w : ℤ). exact a +ℤ exact b ≼ w) (plus N ∙ ap pos (sym double) ∙ sym (exact_power (suc k)) ∙ by_one (exact (power (suc k)))) (+_mono (exact a) (pos N) (exact b) (pos N) u.1 v.1),
    )
  where
    plus : (n : ℕ) → pos n +ℤ pos n ≡ pos (n + n)
    plus n = simp differences (omega arith)

    minus : (n : ℕ) → neg_ℤ (pos n) +ℤ neg_ℤ (pos n) ≡ neg_ℤ (pos (n + n))
    minus n = simp differences (omega arith)

pub product_between : (j k : ℕ) (a b : Float) → AtMost j a → AtMost k b → Between 1074 (j + k) (exact a *ℤ exact b)
product_between j k a b ra rb =
    let N = 2 ^ (1074 + j) * 2 ^ (1074 + k) in
    let whole : 2 ^ (1074 + (j + k)) * 2 ^ 1074 ≡ N = sym (pow-add 2 (1074 + (j + k)) 1074) ∙ ap (λ (n : ℕ). 2 ^ n) (turn j k) ∙ pow-add 2 (1074 + j) (1074 + k) in
    let is = ap (λ (z : ℤ). z *ℤ exact b) (exact_is a) ∙ ap (λ (z : ℤ). signed (sign a) (magnitude a) *ℤ z) (exact_is b) ∙ signed_* (sign a) (sign b) (magnitude a) (magnitude b) in
    let w = signed_within (unlike (sign a) (sign b)) (magnitude a * magnitude b) N (mul-le-mul ra.cap rb.cap) in (
      subst (λ (z : ℤ). z ≼ exact a *ℤ exact b)
          (ap (λ (n : ℕ). neg_ℤ (pos n)) (sym whole) ∙ minus (2 ^ (1074 + (j + k))) (2 ^ 1074) ∙ ap (λ (z : ℤ). z *ℤ pos (2 ^ 1074)) (sym (exact_minus (j + k))))
          (subst (λ (z : ℤ). neg_ℤ (pos N) ≼ z) (sym is) w.0),
      subst (λ (z : ℤ). exact a *ℤ exact b ≼ z)
          (ap pos (sym whole) ∙ plus (2 ^ (1074 + (j + k))) (2 ^ 1074) ∙ ap (λ (z : ℤ). z *ℤ pos (2 ^ 1074)) (sym (exact_power (j + k))))
          (subst (λ (z : ℤ). z ≼ pos N) (sym is) w.1),
    )
  where
    turn : (j k : ℕ) → 1074 + (j + k) + 1074 ≡ 1074 + j + (1074 + k)
    turn j k = omega arith

    plus : (m n : ℕ) → pos (m * n) ≡ pos m *ℤ pos n
    plus m n = simp differences (omega arith)

    minus : (m n : ℕ) → neg_ℤ (pos (m * n)) ≡ neg_ℤ (pos m) *ℤ pos n
    minus m n = simp differences (omega arith)

-- the rounded product of factors of at most 2 ^ 510
pub product_at_most : (a b : Float) → T (fits binary64 a) → T (fits binary64 b) → AtMost 510 a → AtMost 510 b → AtMost 1020 (a ⊗ b)
unfolding fits neg
product_at_most a b ha hb ra rb =
    let B = product_between 510 510 a b ra rb in
    let w = nearest_between (mul_nearest a b ra.is_finite rb.is_finite ha hb) (neg (power 1020)) (power 1020) tt (neg-fits binary64 (power 1020) tt) tt tt B.0 B.1 in
    magnitude-within 1020 (a ⊗ b) w.0 (rw (sym (exact_minus 1020)) w.1) (rw (sym (exact_power 1020)) w.2)

pub sum_at_most : (a b : Float) → T (fits binary64 a) → T (fits binary64 b) → AtMost 1021 a → AtMost 1021 b → AtMost 1022 (a ⊕ b)
unfolding fits neg
sum_at_most a b ha hb ra rb =
    let B = sum_between 1021 a b ra rb in
    let w = nearest_between (add_nearest a b ra.is_finite rb.is_finite ha hb) (neg (power 1022)) (power 1022) tt (neg-fits binary64 (power 1022) tt) tt tt B.0 B.1 in
    magnitude-within 1022 (a ⊕ b) w.0 (rw (sym (exact_minus 1022)) w.1) (rw (sym (exact_power 1022)) w.2)

pub in_range : (a b : Float) → T (fits binary64 a) → T (fits binary64 b) → AtMost 510 a → AtMost 510 b → Far (a ⊗ b) → InRange a b
in_range a b ha hb ra rb F = record {
  first = weaker 510 995 a (omega arith) ra;
  second = weaker 510 995 b (omega arith) rb;
  least = le_trans (lit≤ tt) F.least;
  most = weaker 1020 1021 (a ⊗ b) (omega arith) (product_at_most a b ha hb ra rb);
}
