-- Knuth's two-sum of two doubles is exact. Assumes nothing.
use Rattle.std.proofs.Common.{◌≡◌, ◌^◌, ◌<◌, T, ℤ, pos, ◌+ℤ◌, ◌-ℤ◌, ◌*ℤ◌, nat_abs, sym, refl, ap, ◌∙◌, subst, arith}
use lib.Ieee.{Float, binary64, fits}
use lib.Ieee.Scale.{finite, overflow}
use Rattle.exact.specs.Value.{exact, exact_at}
use Rattle.exact.specs.Nearest.{to_nearest}
use Rattle.exact.proofs.Difference.{all, differences}
use Rattle.cdouble.specs.Compensated.{◌⊕◌, ◌⊖◌, two_sum}
use Rattle.cdouble.specs.Exactness.{SumRange, IsExact}
use Rattle.error_free.proofs.Knuth.{knuth}
use Rattle.error_free.proofs.Steps.{HasExact, known, as_value, known_exactly, known_double, is_double, double_as, zero_double, in_range, add_rounded, sub_rounded, add_kept, sub_kept}

-- the parts, by their exact values
made : (a b x y : Float) (c z : ℤ) → HasExact c x → HasExact ((exact a -ℤ (c -ℤ z)) +ℤ (exact b -ℤ z)) y
    → c ≡ to_nearest 0 (exact a +ℤ exact b) → IsExact 0 (exact a +ℤ exact b) (record { hi = x; lo = y })
made a b x y c z u v e = record {
  hi_finite = u.is_finite;
  lo_finite = v.is_finite;
  whole = ap (λ (w : ℤ). w *ℤ pos (2 ^ 0) +ℤ exact_at 0 y) u.value ∙ ap (λ (w : ℤ). c *ℤ pos (2 ^ 0) +ℤ w *ℤ pos (2 ^ 0)) v.value ∙ back (exact a) (exact b) c z;
  nearest = u.value ∙ e;
}
  where
    back : (a b x z : ℤ) → x *ℤ pos (2 ^ 0) +ℤ ((a -ℤ (x -ℤ z)) +ℤ (b -ℤ z)) *ℤ pos (2 ^ 0) ≡ a +ℤ b
    back = all _ λ a a'. all _ λ b b'. all _ λ x x'. all _ λ z z'. simp differences (omega arith)

pub two_sum_exact : (a b : Float) → T (fits binary64 a) → T (fits binary64 b) → SumRange a b → IsExact 0 (exact a +ℤ exact b) (two_sum a b)
unfolding two_sum
two_sum_exact a b ha hb R =
    let u = known a R.0.is_finite ha in
    let v = known b R.1.is_finite hb in
    let K = knuth (2 ^ 2096) (exact a) (exact b) (known_exactly (2 ^ 2096) a R.0.is_finite ha R.0.cap) (known_exactly (2 ^ 2096) b R.1.is_finite hb R.1.cap) in
    let X = to_nearest 0 (exact a +ℤ exact b) in
    let x : HasExact X (a ⊕ b) = add_rounded u v (in_range (exact a +ℤ exact b) K.sum_cap) in
    let z = sub_rounded x u (in_range (X -ℤ exact a) K.back_cap) in
    let c = sub_kept u (sub_kept x z (is_double K.x_less_z)) (is_double K.a_error) in
    let d = sub_kept v z (is_double K.b_error) in
    made a b (a ⊕ b) _ X (to_nearest 0 (X -ℤ exact a)) x (add_kept c d (is_double K.error)) refl

-- of a pair whose high part is the rounded sum already it is exact however large they are
pub two_sum_again : (a b : Float) → T (finite a) → T (finite b) → T (fits binary64 a) → T (fits binary64 b) → exact a ≡ to_nearest 0 (exact a +ℤ exact b) → IsExact 0 (exact a +ℤ exact b) (two_sum a b)
unfolding two_sum
two_sum_again a b fa fb ha hb e =
    let A = exact a in
    let B = exact b in
    let u = known a fa ha in
    let v = known b fb hb in
    let x : HasExact A (a ⊕ b) = as_value (sym e) (add_rounded u v (subst (λ (w : ℤ). nat_abs w < overflow binary64) e (known_double u).small)) in
    let z : HasExact (pos 0) ((a ⊕ b) ⊖ a) = as_value (self A) (sub_kept x u (double_as (sym (self A)) zero_double)) in
    let w : HasExact (A -ℤ pos 0) ((a ⊕ b) ⊖ ((a ⊕ b) ⊖ a)) = sub_kept x z (double_as (sym (whole A)) (known_double u)) in
    let c = sub_kept u w (double_as (sym (none A)) zero_double) in
    let d = sub_kept v z (double_as (sym (whole B)) (known_double v)) in
    made a b (a ⊕ b) _ A (pos 0) x (add_kept c d (double_as (sym (rest A B)) (known_double v))) e
  where
    self : (a : ℤ) → a -ℤ a ≡ pos 0
    self = all _ λ a a'. simp differences (omega arith)

    whole : (a : ℤ) → a -ℤ pos 0 ≡ a
    whole = all _ λ a a'. simp differences (omega arith)

    none : (a : ℤ) → a -ℤ (a -ℤ pos 0) ≡ pos 0
    none = all _ λ a a'. simp differences (omega arith)

    rest : (a b : ℤ) → (a -ℤ (a -ℤ pos 0)) +ℤ (b -ℤ pos 0) ≡ b
    rest = all _ λ a a'. all _ λ b b'. simp differences (omega arith)
