-- Sums and products rounded outward: least and greatest, exact where the value is a double, no product −0, mirror images. Assumes nothing.
use mathlib.Core.Path.{◌≡◌, refl, sym, ap, ◌∙◌, subst}
use mathlib.Core.Bool.{Bool, true, false, not, cond}
use native.Mathlib.Omega.{arith}
use lib.IntN.{ℤ, pos, neg_ℤ, ◌+ℤ◌, ◌*ℤ◌, neg_ℤ-+ℤ, neg_ℤ-neg_ℤ}
use lib.Dec.{T, eqb}
use lib.Ieee.{Float, nan, inf, fin, binary64, unlike, fits, neg, mul}
use lib.Ieee.Scale.{finite}
use Rattle.exact.specs.Value.{exact, exact_at}
use Rattle.exact.proofs.Difference.{all, differences}
use Rattle.exact.proofs.Ring.{neg-*l}
use Rattle.exact.proofs.Values.{exact-neg}
use Rattle.doubles.specs.Directed.{with_zero, round_up, round_down, sum_with, sum_up, sum_down, product_with, product_up, product_down, IsUp, IsDown}
use Rattle.doubles.proofs.Directed.{round_up_law}
use Rattle.doubles.proofs.Mirror.{mirror_up, round_down_law}
use Rattle.doubles.proofs.Rounding.{up_same, down_same}
use Rattle.doubles.proofs.Bounding.{sum-finite, product_finite}

module _ (a b : Float) (f : T (finite a)) (g : T (finite b)) where
  pub sum_up_law : IsUp 0 (exact a +ℤ exact b) (sum_up a b)
  sum_up_law = subst (IsUp 0 (exact a +ℤ exact b)) (sum-finite (round_up 0) a b f g) (round_up_law 0 (exact a +ℤ exact b))

  pub sum_down_law : IsDown 0 (exact a +ℤ exact b) (sum_down a b)
  sum_down_law = subst (IsDown 0 (exact a +ℤ exact b)) (sum-finite (round_down 0) a b f g) (round_down_law 0 (exact a +ℤ exact b))

  pub product_up_law : IsUp 1074 (exact a *ℤ exact b) (product_up a b)
  product_up_law = subst (IsUp 1074 (exact a *ℤ exact b)) (product_finite (round_up 1074) a b f g) (round_up_law 1074 (exact a *ℤ exact b))

  pub product_down_law : IsDown 1074 (exact a *ℤ exact b) (product_down a b)
  product_down_law = subst (IsDown 1074 (exact a *ℤ exact b)) (product_finite (round_down 1074) a b f g) (round_down_law 1074 (exact a *ℤ exact b))

  -- ---- a value that is a double's, both ways
  module _ (x : Float) (h : T (finite x)) (k : T (fits binary64 x)) where
    at_zero : (z : ℤ) → z *ℤ pos 1 ≡ z
    at_zero = all _ λ z z'. simp differences (omega arith)

    pub sum_same : exact a +ℤ exact b ≡ exact x → (sum_up a b ≡ with_zero false x) × (sum_down a b ≡ with_zero false x)
    sum_same e =
        let s = e ∙ sym (at_zero (exact x)) in
        (sym (sum-finite (round_up 0) a b f g) ∙ ap (round_up 0) s ∙ up_same 0 x h k, sym (sum-finite (round_down 0) a b f g) ∙ ap (round_down 0) s ∙ down_same 0 x h k)

    pub product_same : exact a *ℤ exact b ≡ exact_at 1074 x → (product_up a b ≡ with_zero false x) × (product_down a b ≡ with_zero false x)
    product_same e =
        (sym (product_finite (round_up 1074) a b f g) ∙ ap (round_up 1074) e ∙ up_same 1074 x h k, sym (product_finite (round_down 1074) a b f g) ∙ ap (round_down 1074) e ∙ down_same 1074 x h k)

-- ---- a running sum that is infinite stays so
pub sum_infinite : (rounded : ℤ → Float) (s : Bool) (b : Float) → sum_with rounded (inf s) b ≡ inf s
unfolding sum_with
sum_infinite rounded s b = refl

-- ---- a product is not −0, for every pair of doubles
infinite-plus : (q s : Bool) → with_zero false (cond q nan (inf s)) ≡ cond q nan (inf s)
infinite-plus true s = refl
infinite-plus false s = refl

pub product_plus : (rounded : ℤ → Float) → ((z : ℤ) → with_zero false (rounded z) ≡ rounded z) → (a b : Float) → with_zero false (product_with rounded a b) ≡ product_with rounded a b
unfolding product_with mul
product_plus rounded plus nan b = refl
product_plus rounded plus (inf s) nan = refl
product_plus rounded plus (inf s) (inf t) = refl
product_plus rounded plus (inf s) (fin t n d) = infinite-plus (eqb n 0) (unlike s t)
product_plus rounded plus (fin s m e) nan = refl
product_plus rounded plus (fin s m e) (inf t) = infinite-plus (eqb m 0) (unlike s t)
product_plus rounded plus (fin s m e) (fin t n d) = plus (exact (fin s m e) *ℤ exact (fin t n d))

-- ---- the mirror, for every pair of doubles
pub sum_mirror : (a b : Float) → sum_up (neg a) (neg b) ≡ with_zero false (neg (sum_down a b))
unfolding sum_with neg
sum_mirror nan b = refl
sum_mirror (inf s) b = refl
sum_mirror (fin s m e) nan = refl
sum_mirror (fin s m e) (inf t) = refl
sum_mirror (fin s m e) (fin t n d) =
    let a = fin s m e in
    let b = fin t n d in
    let z = exact a +ℤ exact b in
    ap (λ (w : ℤ). round_up 0 w) (ap (λ (w : ℤ). w +ℤ exact (neg b)) (exact-neg a) ∙ ap (λ (w : ℤ). neg_ℤ (exact a) +ℤ w) (exact-neg b) ∙ sym (neg_ℤ-+ℤ (exact a) (exact b)))
    ∙ mirror_up 0 (neg_ℤ z)
    ∙ ap (λ (w : ℤ). with_zero false (neg (round_down 0 w))) (neg_ℤ-neg_ℤ z)

unlike_not : (s t : Bool) → unlike (not s) t ≡ not (unlike s t)
unlike_not true true = refl
unlike_not true false = refl
unlike_not false true = refl
unlike_not false false = refl

infinite-mirror : (q s t : Bool) → cond q nan (inf (unlike (not s) t)) ≡ with_zero false (neg (cond q nan (inf (unlike s t))))
unfolding neg
infinite-mirror true s t = refl
infinite-mirror false s t = ap inf (unlike_not s t)

pub product_mirror : (a b : Float) → product_up (neg a) b ≡ with_zero false (neg (product_down a b))
unfolding product_with neg mul
product_mirror nan b = refl
product_mirror (inf s) nan = refl
product_mirror (inf s) (inf t) = infinite-mirror false s t
product_mirror (inf s) (fin t n d) = infinite-mirror (eqb n 0) s t
product_mirror (fin s m e) nan = refl
product_mirror (fin s m e) (inf t) = infinite-mirror (eqb m 0) s t
product_mirror (fin s m e) (fin t n d) =
    let a = fin s m e in
    let b = fin t n d in
    let z = exact a *ℤ exact b in
    ap (round_up 1074) (ap (λ (w : ℤ). w *ℤ exact b) (exact-neg a) ∙ neg-*l (exact a) (exact b))
    ∙ mirror_up 1074 (neg_ℤ z)
    ∙ ap (λ (w : ℤ). with_zero false (neg (round_down 1074 w))) (neg_ℤ-neg_ℤ z)
