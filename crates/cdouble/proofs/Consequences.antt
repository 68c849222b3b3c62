-- What exactness gives: `add_up`, `rounded`, `abs_up` and `distance_up` are least not below, or greatest not above. And what `mul_up` gives, of factors
-- of every size. Assumes nothing.
use Rattle.std.proofs.Common.{◌≡◌, ◌⊎◌, true≢false, ℕ, ◌+◌, ◌^◌, ◌≤◌, Bool, true, false, cond, T, ℤ, pos, negsuc, ◌+ℤ◌, ◌-ℤ◌, ◌*ℤ◌, neg_ℤ, sym, refl, ap, ◌∙◌, subst, inl, inr, arith, lit<}
use lib.IntN.{neg_ℤ-+ℤ}
use lib.Ieee.{Float, nan, inf, fin, binary64, fits, neg, add, sub, mul, lt}
use lib.Ieee.Fits.{neg-fits, add-fits, sub-fits, mul-fits}
use lib.Ieee.Scale.{finite}
use Rattle.exact.specs.Value.{magnitude, exact}
use Rattle.exact.specs.Integers.{◌≼◌, ◌≺◌}
use Rattle.exact.specs.Nearest.{to_nearest}
use Rattle.exact.proofs.Difference.{all, differences}
use Rattle.exact.proofs.Order.{≼_or_≺, ≺_not_≼}
use Rattle.exact.proofs.Representable.{representable-zero, representable_pow}
use Rattle.exact.proofs.Values.{exact-neg, finite-neg}
use Rattle.exact.proofs.Nearest.{to_nearest_mono, to_nearest_same}
use Rattle.exact.proofs.Compare.{lt_to, lt_of}
use Rattle.doubles.specs.Directed.{with_zero, round_up, IsUp}
use Rattle.doubles.proofs.Bounding.{product_other}
use Rattle.doubles.proofs.Ends.{product_up_law, product_plus}
use Rattle.doubles.proofs.Mirror.{up_zero}
use Rattle.doubles.proofs.Rounding.{up_unique}
use Rattle.cdouble.specs.declared.CDouble.{CDouble}
use Rattle.cdouble.specs.Compensated.{◌⊖◌, ◌⊗◌, pair, plus_zero, two_sum, split, two_product, product_error, negated, normalized, value, upper, rounded, abs_up, add_up, mul_up, distance_up}
use Rattle.cdouble.specs.Exactness.{AtMost, SumRange, ProductRange, IsExact, IsToward, abs_ℤ}
use Rattle.cdouble.proofs.TwoSum.{two_sum_exact, two_sum_again}
use Rattle.cdouble.proofs.TwoProduct.{two_product_exact}
use Rattle.cdouble.proofs.RoundedUp.{exact-zero, zero-fits, upper_least, lower_greatest, exact_mirror}

magnitude-neg : (x : Float) → magnitude (neg x) ≡ magnitude x
unfolding magnitude neg
magnitude-neg nan = refl
magnitude-neg (inf s) = refl
magnitude-neg (fin s m e) = refl

-- ---- sums
pub sum-upper : (a b : Float) (z : ℤ) → IsExact 0 z (two_sum a b) → IsUp 0 z (upper (two_sum a b))
unfolding two_sum
sum-upper a b z E = upper_least 0 z (two_sum a b) (add-fits binary64 _ _) (add-fits binary64 _ _) E

pub add_up_least : (a b : Float) → T (fits binary64 a) → T (fits binary64 b) → SumRange a b → IsUp 0 (exact a +ℤ exact b) (add_up a b)
unfolding add_up
add_up_least a b ha hb R = sum-upper a b (exact a +ℤ exact b) (two_sum_exact a b ha hb R)

-- ---- products
pub mul_up_least : (a b : Float) → T (finite a) → T (finite b) → IsUp 1074 (exact a *ℤ exact b) (mul_up a b)
unfolding mul_up
mul_up_least a b f g = product_up_law a b f g

-- a zero answer is +0
pub mul_up_zero : (a b : Float) → with_zero false (mul_up a b) ≡ mul_up a b
unfolding mul_up
mul_up_zero a b = product_plus (round_up 1074) (up_zero 1074) a b

-- the halves of what is not finite have no rest to tell
split-other : (a : Float) → finite a ≡ false → (split a).lo ≡ nan
unfolding split add sub mul neg
split-other nan e = refl
split-other (inf true) e = refl
split-other (inf false) e = refl
split-other (fin s m d) e = absurd (true≢false e)

without_first : (x : Float) (p q : CDouble) → p.lo ≡ nan → product_error x p q ≡ nan
unfolding product_error mul sub add
without_first x p q e = ap (λ (y : Float). y ⊗ q.lo ⊖ (((x ⊖ p.hi ⊗ q.hi) ⊖ y ⊗ q.hi) ⊖ p.hi ⊗ q.lo)) e

times_nan : (x : Float) → x ⊗ nan ≡ nan
unfolding mul
times_nan nan = refl
times_nan (inf s) = refl
times_nan (fin s m e) = refl

without_second : (x : Float) (p q : CDouble) → q.lo ≡ nan → product_error x p q ≡ nan
unfolding product_error sub add
without_second x p q e = ap (λ (y : Float). p.lo ⊗ y ⊖ (((x ⊖ p.hi ⊗ q.hi) ⊖ p.lo ⊗ q.hi) ⊖ p.hi ⊗ y)) e ∙ ap (λ (y : Float). y ⊖ (((x ⊖ p.hi ⊗ q.hi) ⊖ p.lo ⊗ q.hi) ⊖ p.hi ⊗ nan)) (times_nan p.lo)

-- with a factor that is not finite it is what the Rust's form gives
pub mul_up_other : (a b : Float) → (finite a ≡ false) ⊎ (finite b ≡ false) → mul_up a b ≡ upper (two_product a b)
unfolding mul_up two_product upper lt
mul_up_other a b h = sym (ap (λ (y : Float). upper (pair (a ⊗ b) y)) (no_rest h) ∙ product_other (round_up 1074) a b h)
  where
    no_rest : (finite a ≡ false) ⊎ (finite b ≡ false) → product_error (a ⊗ b) (split a) (split b) ≡ nan
    no_rest (inl e) = without_first (a ⊗ b) (split a) (split b) (split-other a e)
    no_rest (inr e) = without_second (a ⊗ b) (split a) (split b) (split-other b e)

-- in the range of `two_product` it is that too, but for the sign of a zero
pub mul_up_in_range : (a b : Float) → T (fits binary64 a) → T (fits binary64 b) → ProductRange a b → mul_up a b ≡ with_zero false (upper (two_product a b))
unfolding two_product product_error
mul_up_in_range a b ha hb R =
    let f = both R in
    sym (mul_up_zero a b)
    ∙ up_unique 1074 (exact a *ℤ exact b) (mul_up a b) (upper (two_product a b)) (mul_up_least a b f.0 f.1)
    (upper_least 1074 (exact a *ℤ exact b) (two_product a b) (mul-fits binary64 a b) (sub-fits binary64 _ _) (two_product_exact a b ha hb R))
  where
    both : ProductRange a b → T (finite a) × T (finite b)
    both (inl r) = (r.0.0, r.1.is_finite)
    both (inr (inl r)) = (r.0.is_finite, r.1.0)
    both (inr (inr r)) = (r.first.is_finite, r.second.is_finite)

-- ---- a pair rounded to one side
pub rounded_toward : (c : CDouble) (up : Bool) (z : ℤ) → IsExact 0 z (normalized c) → IsToward up 0 z (rounded c up)
unfolding rounded normalized two_sum
rounded_toward c true z E = upper_least 0 z (normalized c) (add-fits binary64 _ _) (add-fits binary64 _ _) E
rounded_toward c false z E = lower_greatest 0 z (normalized c) (add-fits binary64 _ _) (add-fits binary64 _ _) E

-- ---- its absolute value
-- no number of units but 0 rounds to 0
negative_rounded : (z : ℤ) → z ≺ pos 0 → to_nearest 0 z ≺ pos 0
negative_rounded z h = below (to_nearest 0 z)
    (subst (λ (w : ℤ). to_nearest 0 z ≼ w) (to_nearest_same 0 (negsuc 0) (representable_pow 53 (lit< tt) 0)) (to_nearest_mono 0 z (negsuc 0 *ℤ pos 1) (down z h)))
  where
    down : (z : ℤ) → z ≺ pos 0 → z ≼ negsuc 0 *ℤ pos 1
    down = all _ λ z z'. simp differences (λ h. omega arith)

    below : (z : ℤ) → z ≼ negsuc 0 → z ≺ pos 0
    below = all _ λ z z'. simp differences (λ h. omega arith)

positive_rounded : (z : ℤ) → pos 0 ≼ z → pos 0 ≼ to_nearest 0 z
positive_rounded z h = subst (λ (w : ℤ). w ≼ to_nearest 0 z) (to_nearest_same 0 (pos 0) (representable-zero 53)) (to_nearest_mono 0 (pos 0 *ℤ pos 1) z h)

abs_negative : (z : ℤ) → z ≺ pos 0 → abs_ℤ z ≡ neg_ℤ z
abs_negative (pos n) h = absurd (none n h)
  where
    none : (n : ℕ) → pos n ≺ pos 0 → ⊥
    none n = simp differences (λ h. omega arith)
abs_negative (negsuc n) h = refl

abs_positive : (z : ℤ) → pos 0 ≼ z → abs_ℤ z ≡ z
abs_positive (pos n) h = refl
abs_positive (negsuc n) h = absurd h.le

-- the rounded value has the sign of the exact one
pub abs_up_least : (c : CDouble) (z : ℤ) → IsExact 0 z (normalized c) → IsExact 0 (neg_ℤ z) (normalized (negated c)) → IsUp 0 (abs_ℤ z) (abs_up c)
unfolding abs_up value normalized two_sum
abs_up_least c z E F =
    go (lt (value c) plus_zero) (λ t. was_below (rw (exact-zero, E.nearest) at (lt_to (value c) plus_zero E.hi_finite tt v zero-fits t)))
    (λ o. lt_of (value c) plus_zero E.hi_finite tt v zero-fits (rw (exact-zero, E.nearest) (negative_rounded z o)))
  where
    v : T (fits binary64 (value c))
    v = add-fits binary64 _ _

    was_below : to_nearest 0 z ≺ pos 0 → z ≺ pos 0
    was_below h = elim (≼_or_≺ (pos 0) z) [ inl o ↦ absurd (≺_not_≼ h (positive_rounded z o)) | inr o ↦ o ]

    go : (b : Bool) → (T b → z ≺ pos 0) → (z ≺ pos 0 → T b) → IsUp 0 (abs_ℤ z) (rounded (cond b (negated c) c) true)
    go true f g = subst (λ (w : ℤ). IsUp 0 w (rounded (negated c) true)) (sym (abs_negative z (f tt))) (rounded_toward (negated c) true (neg_ℤ z) F)
    go false f g = elim (≼_or_≺ (pos 0) z) [ inl o ↦ subst (λ (w : ℤ). IsUp 0 w (rounded c true)) (sym (abs_positive z o)) (rounded_toward c true z E) | inr o ↦ absurd (g o) ]

-- ---- negatives are as far from 0
pub at_most_neg : (k : ℕ) (x : Float) → AtMost k x → AtMost k (neg x)
at_most_neg k x R = record { is_finite = rw (finite-neg x) R.is_finite; cap = subst (λ (n : ℕ). n ≤ 2 ^ (1074 + k)) (sym (magnitude-neg x)) R.cap }

pub normalized_exact : (c : CDouble) → T (fits binary64 c.hi) → T (fits binary64 c.lo) → SumRange c.hi c.lo → IsExact 0 (exact c.hi +ℤ exact c.lo) (normalized c)
unfolding normalized
normalized_exact c h l R = two_sum_exact c.hi c.lo h l R

negated-sum : (a b : Float) → exact (neg a) +ℤ exact (neg b) ≡ neg_ℤ (exact a +ℤ exact b)
negated-sum a b = ap (λ (z : ℤ). z +ℤ exact (neg b)) (exact-neg a) ∙ ap (λ (z : ℤ). neg_ℤ (exact a) +ℤ z) (exact-neg b) ∙ sym (neg_ℤ-+ℤ (exact a) (exact b))

pub abs_up-in_range : (c : CDouble) → T (fits binary64 c.hi) → T (fits binary64 c.lo) → SumRange c.hi c.lo → IsUp 0 (abs_ℤ (exact c.hi +ℤ exact c.lo)) (abs_up c)
unfolding negated
abs_up-in_range c h l R =
    abs_up_least c (exact c.hi +ℤ exact c.lo) (normalized_exact c h l R)
    (subst (λ (z : ℤ). IsExact 0 z (normalized (negated c))) (negated-sum c.hi c.lo)
    (normalized_exact (negated c) (neg-fits binary64 c.hi h) (neg-fits binary64 c.lo l) (at_most_neg 1022 c.hi R.0, at_most_neg 1022 c.lo R.1)))

-- ---- distance: a pair that is exact stays so under another two-sum, so the range is that of one
pub normalized_again : (c : CDouble) (z : ℤ) → T (fits binary64 c.hi) → T (fits binary64 c.lo) → IsExact 0 z c → IsExact 0 z (normalized c)
unfolding normalized
normalized_again c z h l E =
    let is : exact c.hi +ℤ exact c.lo ≡ z = units (exact c.hi) (exact c.lo) ∙ E.whole in
    subst (λ (w : ℤ). IsExact 0 w (normalized c)) is (two_sum_again c.hi c.lo E.hi_finite E.lo_finite h l (E.nearest ∙ ap (to_nearest 0) (sym is)))
  where
    units : (a b : ℤ) → a +ℤ b ≡ a *ℤ pos (2 ^ 0) +ℤ b *ℤ pos (2 ^ 0)
    units = all _ λ a a'. all _ λ b b'. simp differences (omega arith)

pub distance_up_least : (a b : Float) → T (fits binary64 a) → T (fits binary64 b) → SumRange a b → IsUp 0 (abs_ℤ (exact a -ℤ exact b)) (distance_up a b)
unfolding distance_up two_sum negated
distance_up_least a b ha hb R =
    let c = two_sum a (neg b) in
    let z = exact a -ℤ exact b in
    let E : IsExact 0 z c = rw (exact-neg b) at (two_sum_exact a (neg b) ha (neg-fits binary64 b hb) (R.0, at_most_neg 1022 b R.1)) in
    let h : T (fits binary64 c.hi) = add-fits binary64 _ _ in
    let l : T (fits binary64 c.lo) = add-fits binary64 _ _ in
    abs_up_least c z (normalized_again c z h l E) (normalized_again (negated c) (neg_ℤ z) (neg-fits binary64 c.hi h) (neg-fits binary64 c.lo l) (exact_mirror 0 z c E))
