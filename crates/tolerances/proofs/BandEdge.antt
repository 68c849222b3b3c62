-- `band_edge` keeps its promise: above the bound by rounding, below it in the mirror of negation. Assumes nothing.
use mathlib.Core.Path.{◌≡◌, refl, sym, ap, ◌∙◌, subst}
use mathlib.Core.Logic.{◌↔◌, ◌⊎◌, inl, inr}
use mathlib.Core.Bool.{Bool, true, false, not, cond, true≢false}
use Prim.Native.Nat.{ℕ, zero, suc}
use native.Mathlib.Omega.{arith}
use lib.IntN.{ℤ, pos, neg_ℤ, nat_abs, ◌+ℤ◌, ◌-ℤ◌}
use lib.Dec.{T, not_T, lit<}
use lib.Ieee.{Float, nan, inf, fin, binary64, fits, neg, add, sub, lt, le, eq}
use lib.Ieee.Bits.{is_false}
use lib.Ieee.Fits.{cond-fits, neg-fits, add-fits, sub-fits}
use lib.Ieee.Scale.{finite}
use Rattle.exact.specs.Value.{exact}
use Rattle.exact.specs.Integers.{◌≼◌, ◌≺◌}
use Rattle.exact.specs.Nearest.{IsNearest}
use Rattle.exact.proofs.Difference.{all, differences}
use Rattle.exact.proofs.Order.{≼_or_≺, ≼_of_≺, ≺_not_≼, neg-≼}
use Rattle.exact.proofs.Signed.{nat_abs_dif}
use Rattle.exact.proofs.Values.{exact_abs, exact-neg, finite-neg, neg-neg}
use Rattle.exact.proofs.Compare.{lt_to, le-exact, le_top, le_bottom}
use Rattle.exact.proofs.Operations.{add_nearest, sub_nearest}
use Rattle.exact.proofs.Between.{nearest_neg, units_above, units_between}
use Rattle.rank_arithmetic.specs.Rank.{largest}
use Rattle.doubles.specs.Compare.{absolute}
use Rattle.doubles.specs.Neighbours.{next_up, next_down}
use Rattle.doubles.proofs.Patterns.{exact_double, double_fits, finite_no_nan}
use Rattle.doubles.proofs.Rounding.{MAX, max_greatest}
use Rattle.doubles.proofs.Next.{next_down_law, next_mirror, next_up-fits, next_down-fits}
use Rattle.doubles.proofs.Choice.{absolute-exact}
use Rattle.doubles.proofs.Clear.{finite-absolute, absolute-fits}
use Rattle.cdouble.specs.Compensated.{◌⊕◌, ◌⊖◌, plus_zero}
use Rattle.cdouble.proofs.RoundedUp.{exact-zero, zero-fits}
use Rattle.tolerances.specs.BandEdge.{band_start, too_far, step_back, turns, band_edge, IsBandEdge}

-- ---- the loop's test
-- how large a number is, by both sides
within_both : (a b : ℤ) → (pos (nat_abs b) ≼ a) ↔ ((neg_ℤ a ≼ b) × (b ≼ a))
within_both a b = (to a b, from a b)
  where
    to : (a b : ℤ) → pos (nat_abs b) ≼ a → (neg_ℤ a ≼ b) × (b ≼ a)
    to = all _ λ a a'. all _ λ b b'. simp (differences, nat_abs_dif) (λ h. (omega arith, omega arith))

    from : (a b : ℤ) → (neg_ℤ a ≼ b) × (b ≼ a) → pos (nat_abs b) ≼ a
    from = all _ λ a a'. all _ λ b b'. simp (differences, nat_abs_dif) (λ h. omega arith)

-- an edge no further from the bound than the tolerance is not too far, for rounding keeps their order
near_enough : (bound tol edge : Float) → T (finite bound) → T (finite tol) → T (finite edge) → T (fits binary64 bound) → T (fits binary64 tol) → T (fits binary64 edge)
    → pos (nat_abs (exact edge -ℤ exact bound)) ≼ exact tol → too_far bound tol edge ≡ false
unfolding too_far
near_enough bound tol edge fb ft fe hb ht he o =
    let d = edge ⊖ bound in
    let w = (within_both (exact tol) (exact edge -ℤ exact bound)).0 o in
    let v = units_between (sub_nearest edge bound fe fb he hb) (neg tol) tol (subst T (sym (finite-neg tol)) ft) (neg-fits binary64 tol ht) ft ht (rw (exact-neg tol) w.0) w.1 in
    let most : exact (absolute d) ≼ exact tol = rw (absolute-exact d, sym (exact_abs d)) ((within_both (exact tol) (exact d)).1 (rw (exact-neg tol) at v.1, v.2)) in
    let fd : T (finite (absolute d)) = subst T (sym (finite-absolute d)) v.0 in
    is_false (lt tol (absolute d)) (not_T (lt tol (absolute d)) (λ t. ≺_not_≼ (lt_to tol (absolute d) ft fd ht (absolute-fits d (sub-fits binary64 edge bound)) t) most))

-- an infinite edge is infinitely far from a finite bound
infinitely-far : (bound tol : Float) (s : Bool) → T (finite bound) → too_far bound tol (inf s) ≡ lt tol (inf false)
unfolding too_far sub add neg absolute
infinitely-far nan tol s f = absurd f
infinitely-far (inf t) tol s f = absurd f
infinitely-far (fin t m e) tol s f = refl

-- and no finite tolerance is as large
finite_less : (tol : Float) → T (finite tol) → lt tol (inf false) ≡ true
unfolding lt
finite_less nan f = absurd f
finite_less (inf s) f = absurd f
finite_less (fin s m e) f = refl

-- ---- above the bound
-- e lies on the bound or above it, and not above the exact sum of bound and tolerance
record Inside (bound tol e : Float) : Type 0 where
  is_finite : T (finite e)
  fit : T (fits binary64 e)
  above : exact bound ≼ exact e
  within : exact e ≼ exact bound +ℤ exact tol

module _ (bound tol e : Float) (fb : T (finite bound)) (hb : T (fits binary64 bound)) (o : pos 0 ≼ exact tol) (N : IsNearest 0 (exact bound +ℤ exact tol) e) where
  bound_below : exact bound ≼ exact bound +ℤ exact tol
  bound_below = more (exact bound) (exact tol) o
    where
      more : (a b : ℤ) → pos 0 ≼ b → a ≼ a +ℤ b
      more = all _ λ a a'. all _ λ b b'. simp differences (λ h. omega arith)

  -- the rounded sum is not below the bound
  rounded_above : (T (finite e) × (exact bound ≼ exact e)) ⊎ (e ≡ inf false)
  rounded_above = units_above N bound fb hb bound_below

  -- a double before the rounded sum is not above the exact one
  low_enough : (d : Float) → T (finite d) → T (fits binary64 d) → (T (finite e) → exact e ≼ exact d → ⊥) → exact d ≼ exact bound +ℤ exact tol
  low_enough d f h before =
      elim (≼_or_≺ (exact d) (exact bound +ℤ exact tol)) [
        | inl k ↦ k
        | inr k ↦
            let v = units_between N bound d fb hb f h bound_below (≼_of_≺ k) in
            absurd (before v.0 v.2)
      ]

  -- the rounded sum is inside, or the double before it is
  rounded_inside : T (fits binary64 e) → Inside bound tol e ⊎ Inside bound tol (next_down e)
  unfolding next_down
  rounded_inside h = elim rounded_above [
    | inl v ↦ elim (≼_or_≺ (exact e) (exact bound +ℤ exact tol)) [
      | inl k ↦ inl (record { is_finite = v.0; fit = h; above = v.1; within = k })
      | inr k ↦
          let D = next_down_law e v.0 in
          let w = D.greatest bound fb hb (between (exact bound) (exact bound +ℤ exact tol) (exact e) bound_below k) in
          inr (record { is_finite = w.0; fit = D.fit; above = w.1; within = low_enough (next_down e) w.0 D.fit (λ f l. ≺_not_≼ (D.below w.0) l) })
    ]
    | inr i ↦
        let f : T (finite MAX) = (exact_double false largest (lit< tt)).0 in
        let g : T (fits binary64 MAX) = double_fits false largest in
        let within = low_enough MAX f g (λ t l. subst (λ (x : Float). T (finite x)) i t) in
        inr (subst (Inside bound tol) (sym (ap next_down i)) (record { is_finite = f; fit = g; above = max_greatest bound fb hb; within = within }))
  ]
    where
      between : (a b c : ℤ) → a ≼ b → b ≺ c → a ≺ c
      between = all _ λ a a'. all _ λ b b'. all _ λ c c'. simp differences (λ h k. omega arith)

-- ---- below the bound, in the mirror
-- a double as it is, or its negative
abbrev facing : Bool → Float → Float
facing true x = x
facing false x = neg x

facing_finite : (up : Bool) (x : Float) → finite (facing up x) ≡ finite x
facing_finite true x = refl
facing_finite false x = finite-neg x

facing_fits : (up : Bool) (x : Float) → T (fits binary64 x) → T (fits binary64 (facing up x))
facing_fits true x h = h
facing_fits false x h = neg-fits binary64 x h

-- and back
faced_fits : (up : Bool) (x : Float) → T (fits binary64 (facing up x)) → T (fits binary64 x)
faced_fits true x h = h
faced_fits false x h = subst (λ (y : Float). T (fits binary64 y)) (neg-neg x) (neg-fits binary64 (neg x) h)

faced_infinity : (up : Bool) (x : Float) → facing up x ≡ inf false → x ≡ inf (not up)
unfolding neg
faced_infinity true x e = e
faced_infinity false x e = sym (neg-neg x) ∙ ap neg e

start_fits : (bound tol : Float) (up : Bool) → T (fits binary64 (band_start bound tol up))
unfolding band_start
start_fits bound tol true = add-fits binary64 bound tol
start_fits bound tol false = sub-fits binary64 bound tol

-- the start is the sum rounded, either way
start_nearest : (bound tol : Float) (up : Bool) → T (finite bound) → T (finite tol) → T (fits binary64 bound) → T (fits binary64 tol)
    → IsNearest 0 (exact (facing up bound) +ℤ exact tol) (facing up (band_start bound tol up))
unfolding band_start
start_nearest bound tol true fb ft hb ht = add_nearest bound tol fb ft hb ht
start_nearest bound tol false fb ft hb ht =
    subst (λ (z : ℤ). IsNearest 0 z (neg (bound ⊖ tol))) (turned (exact bound) (exact tol) ∙ ap (λ (z : ℤ). z +ℤ exact tol) (sym (exact-neg bound))) (nearest_neg (sub_nearest bound tol fb ft hb ht))
  where
    turned : (a b : ℤ) → neg_ℤ (a -ℤ b) ≡ neg_ℤ a +ℤ b
    turned = all _ λ a a'. all _ λ b b'. simp differences (omega arith)

-- the step back is a step down, either way
step_faces : (up : Bool) (e : Float) → next_down (facing up e) ≡ facing up (step_back up e)
unfolding step_back
step_faces true e = refl
step_faces false e = next_mirror (neg e) ∙ ap (λ (x : Float). neg (next_up x)) (neg-neg e)

-- how far apart two are does not turn on the way
distance_faces : (up : Bool) (x y : Float) → nat_abs (exact (facing up y) -ℤ exact (facing up x)) ≡ nat_abs (exact y -ℤ exact x)
distance_faces true x y = refl
distance_faces false x y = rw (exact-neg x, exact-neg y) (turned (exact x) (exact y))
  where
    turned : (a b : ℤ) → nat_abs (neg_ℤ b -ℤ neg_ℤ a) ≡ nat_abs (b -ℤ a)
    turned = all _ λ a a'. all _ λ b b'. simp (differences, nat_abs_dif) (omega arith)

-- the one further that way is on the outer side
outward : (up : Bool) (x y : Float) → T (finite x) → T (finite y) → T (fits binary64 x) → T (fits binary64 y) → exact (facing up x) ≼ exact (facing up y) → T (cond up (le x y) (le y x))
outward true x y f g h k o = (le-exact x y f g h k).1 o
outward false x y f g h k o = (le-exact y x g f k h).1 ((neg-≼ (exact y) (exact x)).1 (rw (exact-neg x, exact-neg y) at o))

-- ---- the loop
-- it ends at an edge that is not too far
settled : (bound tol : Float) (up : Bool) (edge : Float) → too_far bound tol edge ≡ false → (n : ℕ) → turns n bound tol up edge ≡ edge
unfolding turns
settled bound tol up edge e zero = refl
settled bound tol up edge e (suc n) = ap (λ (q : Bool). cond q (turns n bound tol up (step_back up edge)) edge) e

-- and goes on from one that is
goes_on : (bound tol : Float) (up : Bool) (edge : Float) → too_far bound tol edge ≡ true → (n : ℕ) → turns (suc n) bound tol up edge ≡ turns n bound tol up (step_back up edge)
unfolding turns
goes_on bound tol up edge e n = ap (λ (q : Bool). cond q (turns n bound tol up (step_back up edge)) edge) e

abbrev Outer : Float → Bool → Float → Type 0
Outer bound up edge = T (cond up (le bound edge) (le edge bound))

module _ (bound tol : Float) (up : Bool) where
  abbrev start : Float
  start = band_start bound tol up

  -- at once
  no_step : too_far bound tol start ≡ false → Outer bound up start → (T (finite tol) → T (finite start)) → IsBandEdge bound tol up (band_edge bound tol up)
  unfolding band_edge
  no_step e o f = subst (IsBandEdge bound tol up) (sym (settled bound tol up start e 1)) (record { ended = e; ends = λ n. settled bound tol up start e _; outer = o; keeps_finite = f })

  -- after one step
  one_step : too_far bound tol start ≡ true → too_far bound tol (step_back up start) ≡ false → Outer bound up (step_back up start) → T (finite (step_back up start))
      → IsBandEdge bound tol up (band_edge bound tol up)
  unfolding band_edge
  one_step e e' o f = subst (IsBandEdge bound tol up) (sym (after 0)) (record { ended = e'; ends = after; outer = o; keeps_finite = λ t. f })
    where
      after : (n : ℕ) → turns (suc n) bound tol up start ≡ step_back up start
      after n = goes_on bound tol up start e n ∙ settled bound tol up (step_back up start) e' n

  -- ---- a finite tolerance
  module _ (fb : T (finite bound)) (ft : T (finite tol)) (hb : T (fits binary64 bound)) (ht : T (fits binary64 tol)) (o : pos 0 ≼ exact tol) where
    -- an edge inside is not too far
    inside-near : (e : Float) → T (fits binary64 e) → Inside (facing up bound) tol (facing up e) → too_far bound tol e ≡ false
    inside-near e he I =
        near_enough bound tol e fb ft (subst T (facing_finite up e) I.is_finite) hb ht he
        (subst (λ (n : ℕ). pos n ≼ exact tol) (distance_faces up bound e) (apart (exact (facing up bound)) (exact (facing up e)) (exact tol) I.above I.within))
      where
        apart : (a b t : ℤ) → a ≼ b → b ≼ a +ℤ t → pos (nat_abs (b -ℤ a)) ≼ t
        apart = all _ λ a a'. all _ λ b b'. all _ λ t t'. simp (differences, nat_abs_dif) (λ h k. omega arith)

    facing_bound : T (finite (facing up bound)) × T (fits binary64 (facing up bound))
    facing_bound = (subst T (sym (facing_finite up bound)) fb, facing_fits up bound hb)

    -- the test passes at once: the start is not infinite, for that would be too far
    near : too_far bound tol start ≡ false → IsBandEdge bound tol up (band_edge bound tol up)
    near e = elim (rounded_above (facing up bound) tol (facing up start) facing_bound.0 facing_bound.1 o (start_nearest bound tol up fb ft hb ht)) [
      | inl v ↦ let f = subst T (facing_finite up start) v.0 in no_step e (outward up bound start fb f hb (start_fits bound tol up) v.1) (λ t. f)
      | inr i ↦ absurd (true≢false (sym (ap (too_far bound tol) (faced_infinity up start i) ∙ infinitely-far bound tol (not up) fb ∙ finite_less tol ft) ∙ e))
    ]

    -- it does not: the start is not inside, so the double before it is
    far : too_far bound tol start ≡ true → IsBandEdge bound tol up (band_edge bound tol up)
    far e = elim (rounded_inside (facing up bound) tol (facing up start) facing_bound.0 facing_bound.1 o (start_nearest bound tol up fb ft hb ht) (facing_fits up start (start_fits bound tol up))) [
      | inl I ↦ absurd (true≢false (sym e ∙ inside-near start (start_fits bound tol up) I))
      | inr J ↦
          let d = step_back up start in
          let I = subst (Inside (facing up bound) tol) (step_faces up start) J in
          let f : T (finite d) = subst T (facing_finite up d) I.is_finite in
          let h : T (fits binary64 d) = faced_fits up d I.fit in
          one_step e (inside-near d h I) (outward up bound d fb f hb h I.above) f
    ]

    finite-edge : IsBandEdge bound tol up (band_edge bound tol up)
    finite-edge = go (too_far bound tol start) refl
      where
        go : (q : Bool) → too_far bound tol start ≡ q → IsBandEdge bound tol up (band_edge bound tol up)
        go true = far
        go false = near

-- ---- an infinite one: the edge is infinite, which is as far as the tolerance
infinite-start : (bound : Float) (up : Bool) → T (finite bound) → band_start bound (inf false) up ≡ inf (not up)
unfolding band_start add sub neg
infinite-start nan up f = absurd f
infinite-start (inf s) up f = absurd f
infinite-start (fin s m e) true f = refl
infinite-start (fin s m e) false f = refl

infinite-outer : (bound : Float) (up : Bool) → T (finite bound) → Outer bound up (inf (not up))
infinite-outer bound true f = le_top bound (finite_no_nan bound f)
infinite-outer bound false f = le_bottom bound (finite_no_nan bound f)

infinite-edge : (bound : Float) (up : Bool) → T (finite bound) → IsBandEdge bound (inf false) up (band_edge bound (inf false) up)
unfolding lt
infinite-edge bound up f =
    let e = infinite-start bound up f in
    no_step bound (inf false) up (ap (too_far bound (inf false)) e ∙ infinitely-far bound (inf false) (not up) f) (subst (Outer bound up) (sym e) (infinite-outer bound up f)) (λ t. absurd t)

-- ---- the law: a tolerance at least 0 is finite or +infinity
pub band_edge_law : (bound tol : Float) (up : Bool) → T (fits binary64 bound) → T (fits binary64 tol) → T (finite bound) → T (le plus_zero tol) → IsBandEdge bound tol up (band_edge bound tol up)
unfolding le lt eq
band_edge_law bound nan up hb ht f o = absurd o
band_edge_law bound (inf true) up hb ht f o = absurd o
band_edge_law bound (inf false) up hb ht f o = infinite-edge bound up f
band_edge_law bound (fin s m e) up hb ht f o = let tol = fin s m e in finite-edge bound tol up f tt hb ht (rw exact-zero at ((le-exact plus_zero tol tt tt zero-fits ht).0 o))

-- ---- `band_edge` from what the code has: where it starts, how far that is from the bound, and what it answers
pub band_edge_is : (bound tol : Float) (up : Bool) {e a r : Float} → e ≡ band_start bound tol up → a ≡ absolute (e ⊖ bound) → r ≡ cond (lt tol a) (step_back up e) e → r ≡ band_edge bound tol up
unfolding band_edge turns too_far
band_edge_is bound tol up {e} i j k = k ∙ ap (λ (x : Float). cond (lt tol x) (step_back up e) e) j ∙ ap (λ (x : Float). cond (lt tol (absolute (x ⊖ bound))) (step_back up x) x) i

-- ---- its answer is a double, at every input
pub band_edge-fits : (bound tol : Float) (up : Bool) → T (fits binary64 (band_edge bound tol up))
unfolding band_edge turns step_back band_start
band_edge-fits bound tol up =
    let start = band_start bound tol up in
    cond-fits binary64 (too_far bound tol start) (step_back up start) start
    (cond-fits binary64 up (next_down start) (next_up start) (next_down-fits start) (next_up-fits start))
    (cond-fits binary64 up (bound ⊕ tol) (bound ⊖ tol) (add-fits binary64 bound tol) (sub-fits binary64 bound tol))
