-- Doubles in order, infinities included: negation turns the order, and rounded sums keep it. Assumes nothing.
use mathlib.Core.Path.{◌≡◌, refl, sym, ap, ◌∙◌, subst}
use mathlib.Core.Bool.{Bool, true, false, not}
use lib.Dec.{T}
use lib.IntN.{ℤ, ◌+ℤ◌}
use lib.Ieee.{Float, nan, inf, fin, binary64, fits, neg, lt, le, eq}
use lib.Ieee.Fits.{neg-fits}
use lib.Ieee.Scale.{finite}
use Rattle.exact.specs.Value.{exact}
use Rattle.exact.specs.Integers.{◌≼◌}
use Rattle.exact.proofs.Order.{+_mono, neg-≼}
use Rattle.exact.proofs.Values.{exact-neg, finite-neg}
use Rattle.exact.proofs.Compare.{le-exact, le_top, le_bottom, le_no_nan, le_trans}
use Rattle.doubles.specs.Directed.{round_up, round_down, sum_with, sum_up, sum_down}
use Rattle.doubles.proofs.Directed.{round_up_law}
use Rattle.doubles.proofs.Mirror.{nan-neg, round_down_law}
use Rattle.doubles.proofs.Rounding.{up_mono, down_mono}
use Rattle.doubles.proofs.Bounding.{sum_takes, sum-finite}
use Rattle.gaps.proofs.Term.{Number}

-- two doubles, the first not above the second
pub record InOrder (x y : Float) : Type 0 where
  pub first_fits : T (fits binary64 x)
  pub second_fits : T (fits binary64 y)
  pub order : T (le x y)

-- ---- the first is −infinity, the second +infinity, or both are finite
pub data Ways (x y : Float) : Type 0 where
  bottom : x ≡ inf true → Ways x y
  top : y ≡ inf false → Ways x y
  between : T (finite x) → T (finite y) → exact x ≼ exact y → Ways x y

pub ways : (x y : Float) → InOrder x y → Ways x y
unfolding le lt eq
ways nan y o = absurd o.order
ways (inf true) y o = bottom refl
ways (inf false) nan o = absurd o.order
ways (inf false) (inf true) o = absurd o.order
ways (inf false) (inf false) o = top refl
ways (inf false) (fin t n d) o = absurd o.order
ways (fin s m e) nan o = absurd o.order
ways (fin s m e) (inf true) o = absurd o.order
ways (fin s m e) (inf false) o = top refl
ways (fin s m e) (fin t n d) o = between tt tt ((le-exact (fin s m e) (fin t n d) tt tt o.first_fits o.second_fits).0 o.order)

module _ (x y : Float) (o : InOrder x y) where
  numbers : Number x × Number y
  numbers = let t = le_no_nan x y o.order in (record { fit = o.first_fits; no_nan = t.0 }, record { fit = o.second_fits; no_nan = t.1 })

  -- so where one is finite the other is, unless it is the infinity on its side
  pub first_finite : (x ≡ inf true → ⊥) → T (finite y) → T (finite x)
  first_finite not-bottom f = elim (ways x y o) [
    | bottom e ↦ absurd (not-bottom e)
    | top e ↦ absurd (subst (λ (z : Float). T (finite z)) e f)
    | between g k h ↦ g
  ]

  pub second_finite : (y ≡ inf false → ⊥) → T (finite x) → T (finite y)
  second_finite not_top f = elim (ways x y o) [
    | bottom e ↦ absurd (subst (λ (z : Float). T (finite z)) e f)
    | top e ↦ absurd (not_top e)
    | between g k h ↦ k
  ]

pub order_trans : (x y z : Float) → InOrder x y → InOrder y z → InOrder x z
order_trans x y z o p =
    record { first_fits = o.first_fits; second_fits = p.second_fits; order = le_trans x y z o.first_fits o.second_fits p.second_fits o.order p.order }

at_bottom : (x y : Float) → x ≡ inf true → Number y → T (le x y)
at_bottom x y e N = subst (λ (z : Float). T (le z y)) (sym e) (le_bottom y N.no_nan)

at_top : (x y : Float) → y ≡ inf false → Number x → T (le x y)
at_top x y e N = subst (λ (z : Float). T (le x z)) (sym e) (le_top x N.no_nan)

-- ---- negation
neg-number : (x : Float) → Number x → Number (neg x)
neg-number x N = record { fit = neg-fits binary64 x N.fit; no_nan = subst (λ (t : Bool). T (not t)) (sym (nan-neg x)) N.no_nan }

pub neg_order : (x y : Float) → InOrder x y → InOrder (neg y) (neg x)
unfolding neg
neg_order x y o =
    let X = neg-number x (numbers x y o).0 in
    let Y = neg-number y (numbers x y o).1 in
    record {
      first_fits = Y.fit;
      second_fits = X.fit;
      order = elim (ways x y o) [
        | bottom e ↦ at_top (neg y) (neg x) (ap neg e) Y
        | top e ↦ at_bottom (neg y) (neg x) (ap neg e) X
        | between f g p ↦ (le-exact (neg y) (neg x) (subst T (sym (finite-neg y)) g) (subst T (sym (finite-neg x)) f) Y.fit X.fit).1 (rw (exact-neg x, exact-neg y) ((neg-≼ (exact x) (exact y)).0 p))
      ];
    }

-- ---- sums, with any rounding that gives numbers and keeps the order
module _ (rounded : ℤ → Float) (number : (z : ℤ) → Number (rounded z)) (mono : (z w : ℤ) → z ≼ w → T (le (rounded z) (rounded w))) where
  sum_number : (a b : Float) → Number a → Number b → Number (sum_with rounded a b)
  unfolding sum_with
  sum_number nan b A B = A
  sum_number (inf s) b A B = A
  sum_number (fin s m e) nan A B = B
  sum_number (fin s m e) (inf t) A B = B
  sum_number (fin s m e) (fin t n d) A B = number (exact (fin s m e) +ℤ exact (fin t n d))

  sum_order : (a b x y : Float) → InOrder a b → InOrder x y → InOrder (sum_with rounded a x) (sum_with rounded b y)
  unfolding sum_with
  sum_order a b x y o p =
      let A = sum_number a x (numbers a b o).0 (numbers x y p).0 in
      let B = sum_number b y (numbers a b o).1 (numbers x y p).1 in
      let less = sum_with rounded a x in
      let more = sum_with rounded b y in
      record {
        first_fits = A.fit;
        second_fits = B.fit;
        order = elim (ways a b o) [
          | bottom e ↦ at_bottom less more (ap (λ (z : Float). sum_with rounded z x) e) B
          | top e ↦ at_top less more (ap (λ (z : Float). sum_with rounded z y) e) A
          | between f g h ↦ elim (ways x y p) [
            | bottom e ↦ at_bottom less more (sym (sum_takes rounded a x f (ap finite e)) ∙ e) B
            | top e ↦ at_top less more (sym (sum_takes rounded b y g (ap finite e)) ∙ e) A
            | between i j k ↦
                subst (λ (z : Float). T (le less z)) (sum-finite rounded b y g j)
                (subst (λ (z : Float). T (le z (rounded (exact b +ℤ exact y)))) (sum-finite rounded a x f i) (mono (exact a +ℤ exact x) (exact b +ℤ exact y) (+_mono (exact a) (exact b) (exact x) (exact y) h k)))
          ]
        ];
      }

pub sum_up_order : (a b x y : Float) → InOrder a b → InOrder x y → InOrder (sum_up a x) (sum_up b y)
sum_up_order = sum_order (round_up 0) (λ z. let R = round_up_law 0 z in record { fit = R.fit; no_nan = R.no_nan }) (up_mono 0)

pub sum_down_order : (a b x y : Float) → InOrder a b → InOrder x y → InOrder (sum_down a x) (sum_down b y)
sum_down_order = sum_order (round_down 0) (λ z. let R = round_down_law 0 z in record { fit = R.fit; no_nan = R.no_nan }) (down_mono 0)
