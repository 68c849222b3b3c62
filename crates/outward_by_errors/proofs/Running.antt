-- Running sums with products, rounded up or down: how large they come out, and that a factor of 0 adds nothing. Assumes nothing.
use mathlib.Core.Path.{◌≡◌, sym, ap, ap₂, ◌∙◌, subst}
use mathlib.Core.Bool.{Bool, true, false, ◌&&◌}
use Prim.Native.Nat.{◌-◌, ◌^◌, ◌≤◌}
use native.Mathlib.Omega.{arith}
use lib.IntN.{ℤ, pos, ◌+ℤ◌, ◌*ℤ◌, +ℤ_idr}
use lib.Dec.{T}
use lib.Ieee.{Float, binary64, fits, eq, ne, le, neg}
use lib.Ieee.Fits.{and_l, and_r}
use lib.Ieee.Scale.{finite}
use Rattle.exact.specs.Value.{magnitude, exact}
use Rattle.exact.proofs.Compare.{eq_exact}
use Rattle.exact.proofs.Difference.{all, differences}
use Rattle.doubles.specs.Directed.{with_zero}
use Rattle.doubles.proofs.Bounding.{sum-finite}
use Rattle.doubles.proofs.Ends.{sum_up_law, sum_down_law, product_up_law, product_down_law, sum_same, product_same}
use Rattle.cdouble.specs.Compensated.{◌⊕◌, plus_zero, two_sum}
use Rattle.cdouble.specs.Exactness.{AtMost, SumRange}
use Rattle.cdouble.proofs.RoundedUp.{exact-zero, zero-fits}
use Rattle.cdouble.proofs.TwoSum.{two_sum_exact}
use Rattle.outward_by_errors.specs.Far.{Added, NotMinusZero}
use Rattle.outward_by_errors.proofs.Inexact.{round_to, sum_to, product_to, round_clear, product_clear, sum_first, sum_tested, sum_turned}
use Rattle.outward_by_errors.proofs.Limits.{Limit, tested, weaker, up_at_most, down_at_most, sum_between, product_between}

-- ---- how large, in either direction
pub product_fits : (up : Bool) (a b : Float) → T (finite a) → T (finite b) → T (fits binary64 (product_to up a b))
product_fits true a b f g = (product_up_law a b f g).fit
product_fits false a b f g = (product_down_law a b f g).fit

pub product_most : (up : Bool) (a b : Float) → AtMost 510 a → AtMost 510 b → AtMost 1020 (product_to up a b)
unfolding fits
product_most true a b ra rb = up_at_most 1074 1020 (exact a *ℤ exact b) (product_to true a b) tt (product_between 510 510 a b ra rb) (product_up_law a b ra.is_finite rb.is_finite)
product_most false a b ra rb = down_at_most 1074 1020 (exact a *ℤ exact b) (product_to false a b) tt (product_between 510 510 a b ra rb) (product_down_law a b ra.is_finite rb.is_finite)

sum_fits : (up : Bool) (a b : Float) → T (finite a) → T (finite b) → T (fits binary64 (sum_to up a b))
sum_fits true a b f g = (sum_up_law a b f g).fit
sum_fits false a b f g = (sum_down_law a b f g).fit

sum_most : (up : Bool) (a b : Float) → AtMost 1020 a → AtMost 1020 b → AtMost 1021 (sum_to up a b)
unfolding fits
sum_most true a b ra rb = up_at_most 0 1021 (exact a +ℤ exact b) (sum_to true a b) tt (sum_between 1020 a b ra rb) (sum_up_law a b ra.is_finite rb.is_finite)
sum_most false a b ra rb = down_at_most 0 1021 (exact a +ℤ exact b) (sum_to false a b) tt (sum_between 1020 a b ra rb) (sum_down_law a b ra.is_finite rb.is_finite)

-- a far product with a running sum
product_first : (p c : Float) → T (fits binary64 p) → T (fits binary64 c) → NotMinusZero p → AtMost 1020 p → AtMost 1021 c → 2 ^ (1074 - 967) ≤ magnitude p → Added p c
unfolding two_sum
product_first p c hp hc n rp rc l =
    let R : SumRange p c = (weaker 1020 1022 p (omega arith) rp, weaker 1021 1022 c (omega arith) rc) in
    record { first = weaker 1020 1021 p (omega arith) rp; second = rc; least = l; clear = sum_first p c hp hc (two_sum_exact p c hp hc R).hi_finite n }

-- two numbers whose sum is tested not to be 0
pub sum_ready : (a b : Float) {r s : Bool} {p : Float} → Limit 1022 p → T (fits binary64 a) → T (fits binary64 b) → r ≡ (le (neg p) a && le a p) → s ≡ (le (neg p) b && le b p)
    → ((r && s) && ne (a ⊕ b) plus_zero) ≡ true → SumRange a b × NotMinusZero (a ⊕ b)
unfolding two_sum
sum_ready a b {r} {s} L ha hb t u e =
    let w : T ((r && s) && ne (a ⊕ b) plus_zero) = subst T (sym e) tt in
    let y = and_l (r && s) (ne (a ⊕ b) plus_zero) w in
    let R : SumRange a b = (tested 1022 a L ha t (and_l r s y), tested 1022 b L hb u (and_r r s y)) in
    (R, sum_tested a b ha hb (two_sum_exact a b ha hb R).hi_finite (and_r (r && s) (ne (a ⊕ b) plus_zero) w))

-- ---- a number d that is 0, in a product and in a sum
module _ (d : Float) (f : T (finite d)) (hd : T (fits binary64 d)) (z : eq d plus_zero ≡ true) where
  none_exact : (v : ℤ) → exact d *ℤ v ≡ exact plus_zero *ℤ pos (2 ^ 1074)
  none_exact v = ap (λ (w : ℤ). w *ℤ v) (is ∙ exact-zero) ∙ none v (pos (2 ^ 1074)) ∙ sym (ap (λ (w : ℤ). w *ℤ pos (2 ^ 1074)) exact-zero)
    where
      is : exact d ≡ exact plus_zero
      is = (eq_exact d plus_zero f tt hd zero-fits).0 (subst T (sym z) tt)

      none : (v w : ℤ) → pos 0 *ℤ v ≡ pos 0 *ℤ w
      none = all _ λ v v'. all _ λ w w'. simp differences (omega arith)

  product_zero : (up : Bool) (b : Float) → T (finite b) → product_to up d b ≡ plus_zero
  product_zero true b g = (product_same d b f g plus_zero tt zero-fits (none_exact (exact b))).0
  product_zero false b g = (product_same d b f g plus_zero tt zero-fits (none_exact (exact b))).1

zero_more : (t : Float) → exact t +ℤ exact plus_zero ≡ exact t
zero_more t = ap (λ (w : ℤ). exact t +ℤ w) exact-zero ∙ +ℤ_idr (exact t)

sum_zero : (up : Bool) (t : Float) → T (finite t) → T (fits binary64 t) → sum_to up t plus_zero ≡ with_zero false t
sum_zero true t f h = (sum_same t plus_zero f tt t f h (zero_more t)).0
sum_zero false t f h = (sum_same t plus_zero f tt t f h (zero_more t)).1

-- the first sum of a running sum c
module _ (up : Bool) (c a b : Float) (rc : AtMost 1020 c) (ra : AtMost 510 a) (rb : AtMost 510 b) where
  abbrev product : Float
  product = product_to up a b

  abbrev sum : Float
  sum = sum_to up c product

  most : AtMost 1020 product
  most = product_most up a b ra rb

  sum_at_most : AtMost 1021 sum
  sum_at_most = sum_most up c product rc most

  fit : T (fits binary64 sum)
  fit = sum_fits up c product rc.is_finite most.is_finite

  pub first : T (fits binary64 c) → 2 ^ (1074 - 967) ≤ magnitude product → {p : Float} → p ≡ product → Added p c
  first hc l e =
      subst (λ (p : Float). Added p c) (sym e)
      (product_first product c (product_fits up a b ra.is_finite rb.is_finite) hc (product_clear up a b) most (weaker 1020 1021 c (omega arith) rc) l)

  turned : {s p : Float} → s ≡ sum_to up p c → p ≡ product → s ≡ sum
  turned e f = e ∙ ap (λ (p : Float). sum_to up p c) f ∙ sum_turned (round_to up 0) product c most.is_finite rc.is_finite

  -- ---- a second product, of d
  module _ (d : Float) (rd : AtMost 510 d) where
    abbrev second_product : Float
    second_product = product_to up d b

    pub second : 2 ^ (1074 - 967) ≤ magnitude second_product → {s p q : Float} → s ≡ sum_to up p c → p ≡ product → q ≡ second_product → Added q s
    second l {s} e f g = subst (λ (x : Float). Added x s) (sym g) (subst (Added second_product) (sym (turned e f))
        (product_first second_product sum (product_fits up d b rd.is_finite rb.is_finite) fit (product_clear up d b) (product_most up d b rd rb) sum_at_most l))

    -- the sum taken in its own order
    pub after : {r s p q : Float} → r ≡ sum_to up s q → s ≡ sum_to up p c → p ≡ product → q ≡ second_product → r ≡ sum_to up sum second_product
    after h e f g = h ∙ ap₂ (sum_to up) (turned e f) g

    pub last : {r s p q : Float} → r ≡ sum_to up q s → s ≡ sum_to up p c → p ≡ product → q ≡ second_product → r ≡ sum_to up sum second_product
    last h e f g = h ∙ ap₂ (sum_to up) g (turned e f) ∙ sum_turned (round_to up 0) second_product sum (product_most up d b rd rb).is_finite sum_at_most.is_finite

    -- ---- where d is 0
    pub nothing : T (fits binary64 d) → eq d plus_zero ≡ true → {s p : Float} → s ≡ sum_to up p c → p ≡ product → s ≡ sum_to up sum second_product
    nothing hd z e f =
        turned e f
        ∙ sym (sum_zero up sum sum_at_most.is_finite fit ∙ clear)
        ∙ ap (sum_to up sum) (sym (product_zero d rd.is_finite hd z up b rb.is_finite))
      where
        clear : NotMinusZero sum
        clear = subst NotMinusZero (sum-finite (round_to up 0) c product rc.is_finite most.is_finite) (round_clear up 0 (exact c +ℤ exact product))

-- ---- four tests joined
pub all_four : (p q r s : Bool) → (((p && q) && r) && s) ≡ true → T p × T q × T r × T s
all_four p q r s e =
    let w3 : T (((p && q) && r) && s) = subst T (sym e) tt in
    let w2 = and_l ((p && q) && r) s w3 in
    let w1 = and_l (p && q) r w2 in
    (and_l p q w1, and_r p q w1, and_r (p && q) r w2, and_r ((p && q) && r) s w3)
