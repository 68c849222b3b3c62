-- Of two multiples of a number, rounded up, the larger is that of the outer end. Assumes nothing.
use mathlib.Core.Path.{◌≡◌, refl, sym, ap, ◌∙◌, subst}
use mathlib.Core.Logic.{◌⊎◌, inl, inr}
use mathlib.Core.Bool.{Bool, true, false, not, cond, ◌&&◌}
use lib.IntN.{ℤ, pos, ◌*ℤ◌, *ℤ_comm}
use lib.Dec.{T}
use lib.Ieee.{Float, binary64, fits, lt, le, neg, is_nan}
use lib.Ieee.Scale.{finite}
use Rattle.exact.specs.Value.{exact}
use Rattle.exact.specs.Integers.{◌≼◌, ◌≺◌}
use Rattle.exact.proofs.Order.{≼_antisym, ≼_or_≺, ≼_of_≺, ≺_not_≼, *_mono, *_anti}
use Rattle.exact.proofs.Compare.{le-exact, lt_to, lt_of}
use Rattle.doubles.specs.Compare.{larger}
use Rattle.doubles.specs.Directed.{round_up, product_up}
use Rattle.doubles.proofs.Patterns.{finite_no_nan}
use Rattle.doubles.proofs.Bounding.{product_finite}
use Rattle.doubles.proofs.Rounding.{up_mono}
use Rattle.doubles.proofs.Unique.{exact_unique}
use Rattle.cdouble.specs.Compensated.{plus_zero}
use Rattle.cdouble.specs.Exactness.{AtMost}
use Rattle.cdouble.proofs.RoundedUp.{exact-zero, zero-fits}
use Rattle.outward_by_errors.specs.Far.{NotMinusZero}
use Rattle.outward_by_errors.proofs.Inexact.{product_clear}
use Rattle.outward_by_errors.proofs.Running.{product_fits, product_most, all_four}
use Rattle.outward_by_errors.proofs.Limits.{Limit, tested, either_most}

-- ---- the larger of two in order
module _ (p q : Float) (f : T (finite p)) (g : T (finite q)) (hp : T (fits binary64 p)) (hq : T (fits binary64 q)) where
  same : NotMinusZero p → NotMinusZero q → T (le p q) → lt p q ≡ false → p ≡ q
  same m n o not_less = sym m ∙ exact_unique p q f hp g hq (≼_antisym ((le-exact p q f g hp hq).0 o) (above (≼_or_≺ (exact q) (exact p)))) ∙ n
    where
      above : (exact q ≼ exact p) ⊎ (exact p ≺ exact q) → exact q ≼ exact p
      above (inl w) = w
      above (inr w) = absurd (subst T not_less (lt_of p q f g hp hq w))

  pub larger_second : NotMinusZero p → NotMinusZero q → T (le p q) → larger p q ≡ q
  unfolding larger
  larger_second m n o = go (is_nan p) (lt p q) refl
    where
      go : (s t : Bool) → lt p q ≡ t → cond s q (cond t q p) ≡ q
      go true t e = refl
      go false true e = refl
      go false false e = same m n o e

  pub larger_first : exact q ≼ exact p → larger p q ≡ p
  unfolding larger
  larger_first o = go (is_nan p) (lt p q) refl refl
    where
      go : (s t : Bool) → is_nan p ≡ s → lt p q ≡ t → cond s q (cond t q p) ≡ p
      go true t d e = absurd (subst (λ (b : Bool). T (not b)) d (finite_no_nan p f))
      go false true d e = absurd (≺_not_≼ (lt_to p q f g hp hq (subst T (sym e) tt)) o)
      go false false d e = refl

-- ---- the products
-- two ends in order, and what they are multiplied by
pub record InOrder (l u e : Float) : Type 0 where
  pub first : AtMost 510 l
  pub second : AtMost 510 u
  pub factor : AtMost 510 e
  pub order : T (le l u)

-- the tests of the code
pub in_order : (l u e : Float) {p q r : Bool} {m : Float} → Limit 510 m → T (fits binary64 l) → T (fits binary64 u) → T (fits binary64 e)
    → p ≡ (le (neg m) l && le l m) → q ≡ (le (neg m) u && le u m) → r ≡ (le (neg m) e && le e m) → (((p && q) && r) && le l u) ≡ true → InOrder l u e
in_order l u e {p} {q} {r} L hl hu he a b c is =
    let t = all_four p q r (le l u) is in
    record { first = tested 510 l L hl a t.0; second = tested 510 u L hu b t.1; factor = tested 510 e L he c t.2; order = t.3 }

module _ (l u e : Float) (hl : T (fits binary64 l)) (hu : T (fits binary64 u)) (he : T (fits binary64 e)) (w : InOrder l u e) where
  ordered : exact l ≼ exact u
  ordered = (le-exact l u w.first.is_finite w.second.is_finite hl hu).0 w.order

  rounded : (a b : Float) → T (finite a) → T (finite b) → exact e *ℤ exact a ≼ exact e *ℤ exact b → T (le (product_up a e) (product_up b e))
  rounded a b f g h =
      rw (sym (product_finite (round_up 1074) a e f w.factor.is_finite), sym (product_finite (round_up 1074) b e g w.factor.is_finite), *ℤ_comm (exact a) (exact e), *ℤ_comm (exact b) (exact e))
      (up_mono 1074 (exact e *ℤ exact a) (exact e *ℤ exact b) h)

  pub outer_most : {x : Float} → x ≡ cond (lt e plus_zero) l u → AtMost 510 x
  outer_most is = subst (AtMost 510) (sym is) (either_most w.first w.second (lt e plus_zero))

  pub outer_larger : {x r : Float} → x ≡ cond (lt e plus_zero) l u → r ≡ product_up x e → r ≡ larger (product_up l e) (product_up u e)
  outer_larger is at = at ∙ ap (λ (x : Float). product_up x e) is ∙ go (lt e plus_zero) refl
    where
      p : Float
      p = product_up l e

      q : Float
      q = product_up u e

      f : T (finite p)
      f = (product_most true l e w.first w.factor).is_finite

      g : T (finite q)
      g = (product_most true u e w.second w.factor).is_finite

      hp : T (fits binary64 p)
      hp = product_fits true l e w.first.is_finite w.factor.is_finite

      hq : T (fits binary64 q)
      hq = product_fits true u e w.second.is_finite w.factor.is_finite

      positive : (exact plus_zero ≼ exact e) ⊎ (exact e ≺ exact plus_zero) → lt e plus_zero ≡ false → pos 0 ≼ exact e
      positive (inl h) not_less = subst (λ (z : ℤ). z ≼ exact e) exact-zero h
      positive (inr h) not_less = absurd (subst T not_less (lt_of e plus_zero w.factor.is_finite tt he zero-fits h))

      negative : lt e plus_zero ≡ true → exact e ≼ pos 0
      negative less = subst (λ (z : ℤ). exact e ≼ z) exact-zero (≼_of_≺ (lt_to e plus_zero w.factor.is_finite tt he zero-fits (subst T (sym less) tt)))

      go : (t : Bool) → lt e plus_zero ≡ t → product_up (cond t l u) e ≡ larger p q
      go true less = sym (larger_first p q f g hp hq ((le-exact q p g f hq hp).0 (rounded u l w.second.is_finite w.first.is_finite (*_anti (exact e) (exact l) (exact u) (negative less) ordered))))
      go false not_less = sym (larger_second p q f g hp hq (product_clear true l e) (product_clear true u e)
          (rounded l u w.first.is_finite w.second.is_finite (*_mono (exact e) (exact l) (exact u) (positive (≼_or_≺ (exact plus_zero) (exact e)) not_less) ordered)))
