-- Where both ends of a coefficient have one sign, the largest of their multiples of two edges is that of one edge. Assumes nothing.
use mathlib.Core.Path.{◌≡◌, refl, sym, ap, ◌∙◌, subst}
use mathlib.Core.Logic.{◌⊎◌, inl, inr}
use mathlib.Core.List.{[], ◌∷◌}
use mathlib.Core.Bool.{Bool, true, false, cond, ◌&&◌}
use Prim.Native.Nat.{◌^◌}
use native.Mathlib.Omega.{arith}
use lib.IntN.{ℤ, pos, ◌*ℤ◌, *ℤ_comm}
use lib.Dec.{T}
use lib.Ieee.{Float, binary64, fits, lt, le, neg}
use lib.Ieee.Fits.{mul-fits}
use lib.Ieee.Scale.{finite}
use Rattle.exact.specs.Value.{exact, exact_at}
use Rattle.exact.specs.Integers.{◌≼◌, ◌≺◌}
use Rattle.exact.proofs.Between.{nearest_below}
use Rattle.exact.proofs.Compare.{le-exact, lt_to, lt_of}
use Rattle.exact.proofs.Difference.{all, differences}
use Rattle.exact.proofs.Operations.{mul_nearest}
use Rattle.exact.proofs.Order.{≼_trans, ≼_or_≺, ≼_of_≺, ≺_not_≼, *_mono, *_anti}
use Rattle.loops.proofs.All.{each}
use Rattle.doubles.specs.Compare.{larger}
use Rattle.doubles.specs.Directed.{round_up, product_up}
use Rattle.doubles.proofs.Bounding.{product_finite}
use Rattle.doubles.proofs.Choice.{larger_most}
use Rattle.doubles.proofs.Patterns.{finite_no_nan}
use Rattle.doubles.proofs.Rounding.{up_mono}
use Rattle.cdouble.specs.Compensated.{◌⊗◌, plus_zero}
use Rattle.cdouble.specs.Exactness.{AtMost}
use Rattle.cdouble.proofs.RoundedUp.{exact-zero, zero-fits}
use Rattle.outward_by_errors.specs.Far.{NotMinusZero}
use Rattle.outward_by_errors.proofs.Inexact.{product_clear}
use Rattle.outward_by_errors.proofs.Limits.{Limit, tested, either_most, product_at_most}
use Rattle.outward_by_errors.proofs.OuterEnd.{InOrder, larger_first, larger_second, outer_larger, outer_most}
use Rattle.outward_by_errors.proofs.Running.{product_fits, product_most}

-- what the code tests: both pairs are in order, and the rounded product of both ends is above 0
pub record OneSign (l u low high : Float) : Type 0 where
  pub at_low : InOrder l u low
  pub at_high : InOrder l u high
  pub edges : T (le low high)
  pub product : T (lt plus_zero (l ⊗ u))

pub one_sign : (l u low high : Float) {p q r s : Bool} {m : Float} → Limit 510 m → T (fits binary64 l) → T (fits binary64 u) → T (fits binary64 low) → T (fits binary64 high)
    → p ≡ (le (neg m) l && le l m) → q ≡ (le (neg m) u && le u m) → r ≡ (le (neg m) low && le low m) → s ≡ (le (neg m) high && le high m)
    → ((((((p && q) && r) && s) && le l u) && le low high) && lt plus_zero (l ⊗ u)) ≡ true → OneSign l u low high
one_sign l u low high {p} {q} {r} {s} L hl hu hlow hhigh a b c d is =
    let t = each p (q ∷ r ∷ s ∷ le l u ∷ le low high ∷ lt plus_zero (l ⊗ u) ∷ []) is in
    let first = tested 510 l L hl a (holds t.0) in
    let second = tested 510 u L hu b (holds t.1.0) in
    let order = holds t.1.1.1.1.0 in
    record {
      at_low = record { first = first; second = second; factor = tested 510 low L hlow c (holds t.1.1.0); order = order };
      at_high = record { first = first; second = second; factor = tested 510 high L hhigh d (holds t.1.1.1.0); order = order };
      edges = holds t.1.1.1.1.1.0;
      product = holds t.1.1.1.1.1.1.0;
    }
  where
    holds : {b : Bool} → b ≡ true → T b
    holds e = subst T (sym e) tt

zero_times : (z : ℤ) → pos 0 *ℤ z ≡ pos 0
zero_times = all _ λ z z'. simp differences (omega arith)

module _ (l u low high : Float) (hl : T (fits binary64 l)) (hu : T (fits binary64 u)) (hlow : T (fits binary64 low)) (hhigh : T (fits binary64 high)) (w : OneSign l u low high) where
  ordered : exact low ≼ exact high
  ordered = (le-exact low high w.at_low.factor.is_finite w.at_high.factor.is_finite hlow hhigh).0 w.edges

  -- a product that is not above 0 does not round to a number above 0
  not_below : exact l *ℤ exact u ≼ pos 0 → ⊥
  not_below h =
      let most = product_at_most l u hl hu w.at_low.first w.at_low.second in
      let zero : exact_at 1074 plus_zero ≡ pos 0 = ap (λ (z : ℤ). z *ℤ pos (2 ^ 1074)) exact-zero ∙ zero_times (pos (2 ^ 1074)) in
      elim (nearest_below (mul_nearest l u w.at_low.first.is_finite w.at_low.second.is_finite hl hu) plus_zero tt zero-fits (subst (λ (z : ℤ). exact l *ℤ exact u ≼ z) (sym zero) h)) [
        | inl v ↦ ≺_not_≼ (lt_to plus_zero (l ⊗ u) tt most.is_finite zero-fits (mul-fits binary64 l u) w.product) v.1
        | inr e ↦ subst (λ (x : Float). T (finite x)) e most.is_finite
      ]

  unlike_signs : (x y : ℤ) → pos 0 ≼ x → y ≼ pos 0 → x *ℤ y ≼ pos 0
  unlike_signs x y h k = subst (λ (z : ℤ). x *ℤ y ≼ z) (*ℤ_comm x (pos 0) ∙ zero_times x) (*_mono x y (pos 0) h k)

  l_above : exact u ≼ pos 0 → pos 0 ≼ exact l → ⊥
  l_above k h = not_below (unlike_signs (exact l) (exact u) h k)

  u_above : exact l ≼ pos 0 → pos 0 ≼ exact u → ⊥
  u_above k h = not_below (subst (λ (z : ℤ). z ≼ pos 0) (*ℤ_comm (exact u) (exact l)) (unlike_signs (exact u) (exact l) h k))

  -- so both are above 0, or both below
  sides : (pos 0 ≼ exact l × pos 0 ≼ exact u) ⊎ (exact l ≺ pos 0 × exact u ≼ pos 0)
  sides =
      elim (≼_or_≺ (exact l) (pos 0)) [
        | inl l_low ↦ elim (≼_or_≺ (pos 0) (exact u)) [ inl u_high ↦ absurd (u_above l_low u_high) | inr u_low ↦ inr (strict (≼_or_≺ (pos 0) (exact l)) (≼_of_≺ u_low), ≼_of_≺ u_low) ]
        | inr l_high ↦ elim (≼_or_≺ (pos 0) (exact u)) [ inl u_high ↦ inl (≼_of_≺ l_high, u_high) | inr u_low ↦ absurd (l_above (≼_of_≺ u_low) (≼_of_≺ l_high)) ]
      ]
    where
      strict : (pos 0 ≼ exact l) ⊎ (exact l ≺ pos 0) → exact u ≼ pos 0 → exact l ≺ pos 0
      strict (inl h) k = absurd (l_above k h)
      strict (inr h) k = h

  -- ---- at an edge e
  abbrev most_at : Float → Float
  most_at e = larger (product_up l e) (product_up u e)

  abbrev outer_at : Float → Float
  outer_at e = cond (lt e plus_zero) l u

  module _ (e : Float) (he : T (fits binary64 e)) (v : InOrder l u e) where
    outer_limit : AtMost 510 (outer_at e)
    outer_limit = outer_most l u e hl hu he v refl

    most_is : product_up (outer_at e) e ≡ most_at e
    most_is = outer_larger l u e hl hu he v refl refl

    most_finite : T (finite (most_at e))
    most_finite = subst (λ (x : Float). T (finite x)) most_is (product_most true (outer_at e) e outer_limit v.factor).is_finite

    most_fits : T (fits binary64 (most_at e))
    most_fits = subst (λ (x : Float). T (fits binary64 x)) most_is (product_fits true (outer_at e) e outer_limit.is_finite v.factor.is_finite)

    most_clear : NotMinusZero (most_at e)
    most_clear = subst NotMinusZero most_is (product_clear true (outer_at e) e)

    -- it is no smaller than either multiple
    not_above : (t : Bool) → T (le (product_up (cond t l u) e) (most_at e))
    not_above t =
        let p = product_most true l e v.first v.factor in
        let q = product_most true u e v.second v.factor in
        go t (larger_most (product_up l e) (product_up u e) (finite_no_nan (product_up l e) p.is_finite) (finite_no_nan (product_up u e) q.is_finite)
        (product_fits true l e v.first.is_finite v.factor.is_finite) (product_fits true u e v.second.is_finite v.factor.is_finite))
      where
        go : (t : Bool) → T (le (product_up l e) (most_at e)) × T (le (product_up u e) (most_at e)) → T (le (product_up (cond t l u) e) (most_at e))
        go true h = h.0
        go false h = h.1

  -- from one edge a to another b, where an end times a is no more than it times b
  module _ (a b : Float) (ha : T (fits binary64 a)) (hb : T (fits binary64 b)) (va : InOrder l u a) (vb : InOrder l u b)
      (rises : (t : Bool) → exact (cond t l u) *ℤ exact a ≼ exact (cond t l u) *ℤ exact b) where
    no_more : exact (most_at a) ≼ exact (most_at b)
    no_more =
        let t = lt a plus_zero in
        let x = cond t l u in
        let most = either_most va.first va.second t in
        let f = most.is_finite in
        let p = product_up x a in
        let q = product_up x b in
        let fq = (product_most true x b most vb.factor).is_finite in
        let hq = product_fits true x b f vb.factor.is_finite in
        subst (λ (y : Float). exact y ≼ exact (most_at b)) (most_is a ha va)
        (≼_trans
        ((le-exact p q (product_most true x a most va.factor).is_finite fq (product_fits true x a f va.factor.is_finite) hq).0
        (rw (sym (product_finite (round_up 1074) x a f va.factor.is_finite), sym (product_finite (round_up 1074) x b f vb.factor.is_finite))
        (up_mono 1074 (exact x *ℤ exact a) (exact x *ℤ exact b) (rises t))))
        ((le-exact q (most_at b) fq (most_finite b hb vb) hq (most_fits b hb vb)).0 (not_above b hb vb t)))

  pub edge_limits : {e x : Float} → e ≡ cond (lt l plus_zero) low high → x ≡ cond (lt e plus_zero) l u → AtMost 510 x × AtMost 510 e
  edge_limits {e} edge outer = (
    subst (AtMost 510) (sym outer) (either_most w.at_low.first w.at_low.second (lt e plus_zero)),
    subst (AtMost 510) (sym edge) (either_most w.at_low.factor w.at_high.factor (lt l plus_zero)),
  )

  pub edge_tells : {e x r : Float} → e ≡ cond (lt l plus_zero) low high → x ≡ cond (lt e plus_zero) l u → r ≡ product_up x e
      → r ≡ larger (most_at low) (most_at high)
  edge_tells {e} {x} {r} edge outer is = go sides (lt l plus_zero) refl edge
    where
      at_edge : (y : Float) (hy : T (fits binary64 y)) → InOrder l u y → e ≡ y → r ≡ most_at y
      at_edge y hy v same = is ∙ ap (λ (z : Float). product_up z e) outer ∙ ap (λ (z : Float). product_up (outer_at z) z) same ∙ most_is y hy v

      go : ((pos 0 ≼ exact l × pos 0 ≼ exact u) ⊎ (exact l ≺ pos 0 × exact u ≼ pos 0)) → (t : Bool) → lt l plus_zero ≡ t → e ≡ cond t low high
          → r ≡ larger (most_at low) (most_at high)
      go (inl h) true below same = absurd (≺_not_≼ (lt_to l plus_zero w.at_low.first.is_finite tt hl zero-fits (subst T (sym below) tt)) (subst (λ (z : ℤ). z ≼ exact l) (sym exact-zero) h.0))
      go (inl h) false below same =
          at_edge high hhigh w.at_high same
          ∙ sym (larger_second (most_at low) (most_at high) (most_finite low hlow w.at_low) (most_finite high hhigh w.at_high) (most_fits low hlow w.at_low) (most_fits high hhigh w.at_high)
          (most_clear low hlow w.at_low) (most_clear high hhigh w.at_high)
          ((le-exact (most_at low) (most_at high) (most_finite low hlow w.at_low) (most_finite high hhigh w.at_high) (most_fits low hlow w.at_low) (most_fits high hhigh w.at_high)).1
          (no_more low high hlow hhigh w.at_low w.at_high (rises h))))
        where
          rises : pos 0 ≼ exact l × pos 0 ≼ exact u → (t : Bool) → exact (cond t l u) *ℤ exact low ≼ exact (cond t l u) *ℤ exact high
          rises h true = *_mono (exact l) (exact low) (exact high) h.0 ordered
          rises h false = *_mono (exact u) (exact low) (exact high) h.1 ordered
      go (inr h) false below same = absurd (subst T below (lt_of l plus_zero w.at_low.first.is_finite tt hl zero-fits (subst (λ (z : ℤ). exact l ≺ z) (sym exact-zero) h.0)))
      go (inr h) true below same =
          at_edge low hlow w.at_low same
          ∙ sym (larger_first (most_at low) (most_at high) (most_finite low hlow w.at_low) (most_finite high hhigh w.at_high) (most_fits low hlow w.at_low) (most_fits high hhigh w.at_high)
          (no_more high low hhigh hlow w.at_high w.at_low (falls h)))
        where
          falls : exact l ≺ pos 0 × exact u ≼ pos 0 → (t : Bool) → exact (cond t l u) *ℤ exact high ≼ exact (cond t l u) *ℤ exact low
          falls h true = *_anti (exact l) (exact low) (exact high) (≼_of_≺ h.0) ordered
          falls h false = *_anti (exact u) (exact low) (exact high) h.1 ordered
