-- `next_up` gives the least double above and `next_down` the greatest below, each is the other's mirror image, and each undoes the other. Assumes nothing.
use mathlib.Core.Path.{◌≡◌, refl, sym, ap, ◌∙◌, subst}
use mathlib.Core.Logic.{inl, inr, ◌↔◌}
use mathlib.Core.Bool.{Bool, true, false, not}
use native.Mathlib.Omega.{arith}
use lib.IntN.{ℤ, pos, negsuc, neg_ℤ, ◌+ℤ◌, ◌*ℤ◌, neg_ℤ-neg_ℤ}
use lib.Dec.{T, lit<}
use lib.Ieee.{Float, nan, inf, fin, binary64, fits, neg}
use lib.Ieee.Fits.{nan-fits, inf-fits, neg-fits}
use lib.Ieee.Scale.{finite}
use Rattle.exact.specs.Value.{exact, exact_at}
use Rattle.exact.specs.Integers.{◌≼◌, ◌≺◌}
use Rattle.exact.proofs.Difference.{all, differences}
use Rattle.exact.proofs.Order.{≼_antisym, ≼_or_≺, ≺_not_≼}
use Rattle.exact.proofs.Values.{exact-neg, exact_at-neg, finite-neg, neg-neg}
use Rattle.rank_arithmetic.specs.Rank.{largest}
use Rattle.doubles.specs.Directed.{with_zero, round_up, round_down, IsUp, IsDown}
use Rattle.doubles.specs.Neighbours.{next_up, next_down, IsNextUp, IsNextDown}
use Rattle.doubles.proofs.Patterns.{neg_double, double_fits}
use Rattle.doubles.proofs.Zero.{exact-with_zero, finite-with_zero, nan-with_zero, fits-with_zero, neg-with_zero, infinity-with_zero}
use Rattle.doubles.proofs.Directed.{round_up_law}
use Rattle.doubles.proofs.Mirror.{mirror, round_down_law}

-- ---- the mirror
neg_half : (z : ℤ) → neg_ℤ (z +ℤ negsuc 0) ≡ neg_ℤ z +ℤ pos 1
neg_half = all _ λ z z'. simp differences (omega arith)

pub next_mirror : (x : Float) → next_down x ≡ neg (next_up (neg x))
unfolding next_up next_down neg
next_mirror nan = refl
next_mirror (inf true) = refl
next_mirror (inf false) = sym (neg_double true largest (lit< tt))
next_mirror (fin s m e) =
    let x = fin s m e in
    let z = exact_at 1 x +ℤ negsuc 0 in
    mirror 1 z
    ∙ sym (neg-with_zero true (round_up 1 (neg_ℤ z)))
    ∙ ap (λ (w : ℤ). neg (with_zero true (round_up 1 w))) (neg_half (exact_at 1 x) ∙ ap (λ (y : ℤ). y +ℤ pos 1) (sym (exact_at-neg 1 x)))

-- ---- half a unit more is strictly above
half_above : (a b : ℤ) → (a *ℤ pos 2 +ℤ pos 1 ≼ b *ℤ pos 2) ↔ (a ≺ b)
half_above a b = (to a b, from a b)
  where
    to : (a b : ℤ) → a *ℤ pos 2 +ℤ pos 1 ≼ b *ℤ pos 2 → a ≺ b
    to = all _ λ a a'. all _ λ b b'. simp differences (λ h. omega arith)

    from : (a b : ℤ) → a ≺ b → a *ℤ pos 2 +ℤ pos 1 ≼ b *ℤ pos 2
    from = all _ λ a a'. all _ λ b b'. simp differences (λ h. omega arith)

half_below : (a b : ℤ) → (a *ℤ pos 2 ≼ b *ℤ pos 2 +ℤ negsuc 0) ↔ (a ≺ b)
half_below a b = (to a b, from a b)
  where
    to : (a b : ℤ) → a *ℤ pos 2 ≼ b *ℤ pos 2 +ℤ negsuc 0 → a ≺ b
    to = all _ λ a a'. all _ λ b b'. simp differences (λ h. omega arith)

    from : (a b : ℤ) → a ≺ b → a *ℤ pos 2 ≼ b *ℤ pos 2 +ℤ negsuc 0
    from = all _ λ a a'. all _ λ b b'. simp differences (λ h. omega arith)

-- ---- least above, greatest below
next_of_up : (x d : Float) → IsUp 1 (exact_at 1 x +ℤ pos 1) d → IsNextUp x (with_zero true d)
next_of_up x d U = record {
  fit = subst T (sym (fits-with_zero true d)) U.fit;
  no_nan = subst (λ (b : Bool). T (not b)) (sym (nan-with_zero true d)) U.no_nan;
  no_other = λ e. U.no_other (infinity-with_zero true true d e);
  above = λ t. subst (λ (z : ℤ). exact x ≺ z) (sym (exact-with_zero true d)) ((half_above (exact x) (exact d)).0 (U.not_below (subst T (finite-with_zero true d) t)));
  least = λ y f h o.
      let w = U.least y f h ((half_above (exact x) (exact y)).1 o) in
      (subst T (sym (finite-with_zero true d)) w.0, subst (λ (z : ℤ). z ≼ exact y) (sym (exact-with_zero true d)) w.1);
}

pub next_up_law : (x : Float) → T (finite x) → IsNextUp x (next_up x)
unfolding next_up
next_up_law nan f = absurd f
next_up_law (inf s) f = absurd f
next_up_law (fin s m e) f = let x = fin s m e in next_of_up x (round_up 1 (exact_at 1 x +ℤ pos 1)) (round_up_law 1 (exact_at 1 x +ℤ pos 1))

next_of_down : (x d : Float) → IsDown 1 (exact_at 1 x +ℤ negsuc 0) d → IsNextDown x d
next_of_down x d D = record {
  fit = D.fit;
  no_nan = D.no_nan;
  no_other = D.no_other;
  below = λ t. (half_below (exact d) (exact x)).0 (D.not_above t);
  greatest = λ y f h o. D.greatest y f h ((half_below (exact y) (exact x)).1 o);
}

pub next_down_law : (x : Float) → T (finite x) → IsNextDown x (next_down x)
unfolding next_down
next_down_law nan f = absurd f
next_down_law (inf s) f = absurd f
next_down_law (fin s m e) f = let x = fin s m e in next_of_down x (round_down 1 (exact_at 1 x +ℤ negsuc 0)) (round_down_law 1 (exact_at 1 x +ℤ negsuc 0))

-- ---- each undoes the other, as values
pub down_after_up : (x : Float) → T (finite x) → T (fits binary64 x) → T (finite (next_up x)) → exact (next_down (next_up x)) ≡ exact x
down_after_up x f h g =
    let U = next_up_law x f in
    let u = next_up x in
    let D = next_down_law u g in
    let w = D.greatest x f h (U.above g) in
    elim (≼_or_≺ (exact (next_down u)) (exact x)) [
      | inl o ↦ ≼_antisym o w.1
      | inr o ↦ absurd (≺_not_≼ (D.below w.0) (U.least (next_down u) w.0 D.fit o).1)
    ]

pub up_after_down : (x : Float) → T (finite x) → T (fits binary64 x) → T (finite (next_down x)) → exact (next_up (next_down x)) ≡ exact x
up_after_down x f h g =
    let y = neg x in
    let u = next_up y in
    let d : next_down x ≡ neg u = next_mirror x in
    let back : next_up (neg u) ≡ neg (next_down u) = sym (neg-neg (next_up (neg u))) ∙ ap neg (sym (next_mirror u)) in
    let t : T (finite u) = subst T (ap finite d ∙ finite-neg u) g in
    ap (λ (z : Float). exact (next_up z)) d
    ∙ ap exact back
    ∙ exact-neg (next_down u)
    ∙ ap neg_ℤ (down_after_up y (subst T (sym (finite-neg x)) f) (neg-fits binary64 x h) t ∙ exact-neg x)
    ∙ neg_ℤ-neg_ℤ (exact x)

-- ---- a neighbour is a double
pub next_up-fits : (x : Float) → T (fits binary64 (next_up x))
unfolding next_up
next_up-fits nan = nan-fits binary64
next_up-fits (inf true) = double_fits true largest
next_up-fits (inf false) = inf-fits binary64 false
next_up-fits (fin s m e) = (next_up_law (fin s m e) tt).fit

pub next_down-fits : (x : Float) → T (fits binary64 (next_down x))
next_down-fits x = rw (next_mirror x) (neg-fits binary64 _ (next_up-fits _))
