-- Of a sum or product that is exact as a pair, the high part or its neighbour is the number rounded outward: both are least, or greatest. Assumes nothing.
use mathlib.Core.Path.{◌≡◌, refl, sym, ap, ◌∙◌, subst}
use mathlib.Core.Logic.{inr}
use mathlib.Core.Bool.{Bool, true, false, cond}
use Prim.Native.Nat.{ℕ}
use lib.IntN.{ℤ, pos, ◌+ℤ◌, ◌*ℤ◌}
use native.Mathlib.Nat.{le_trans}
use native.Mathlib.Omega.{arith}
use lib.Dec.{T, lit≤}
use lib.Ieee.{Float, binary64, fits}
use lib.Ieee.Fits.{add-fits, sub-fits, mul-fits}
use lib.Ieee.Scale.{finite}
use Rattle.exact.specs.Value.{exact}
use Rattle.exact.proofs.Order.{≼_refl, ≺_not_≼}
use Rattle.exact.proofs.Compare.{lt_to}
use Rattle.doubles.specs.Directed.{with_zero, round_up, round_down, sum_up, sum_down, product_up, product_down}
use Rattle.doubles.proofs.Directed.{round_up_law}
use Rattle.doubles.proofs.Mirror.{up_zero, down_zero, round_down_law}
use Rattle.doubles.proofs.Rounding.{up_unique, down_unique}
use Rattle.doubles.proofs.Bounding.{sum-finite, product_finite}
use Rattle.cdouble.specs.declared.CDouble.{CDouble}
use Rattle.cdouble.specs.Compensated.{◌⊕◌, ◌⊗◌, plus_zero, two_sum, two_product, product_error, upper, lower}
use Rattle.cdouble.specs.Exactness.{SumRange, AtMost, InRange, IsExact}
use Rattle.cdouble.proofs.RoundedUp.{upper_least, lower_greatest, exact-zero, zero-fits}
use Rattle.cdouble.proofs.TwoSum.{two_sum_exact}
use Rattle.cdouble.proofs.TwoProduct.{two_product_exact}
use Rattle.doubles.proofs.NextRank.{neighbour}
use Rattle.adjacent.specs.Fields.{Normal}
use Rattle.outward_by_errors.specs.Far.{Far, Large, Added, NotMinusZero, past}
use Rattle.outward_by_errors.proofs.Inexact.{inexact_large, sum_least, far_normal, far-zero}
use Rattle.outward_by_errors.proofs.Limits.{in_range, weaker, sum_at_most, product_at_most}
use Rattle.outward_by_errors.proofs.Neighbour.{stepped_no_zero}

-- ---- the pair's high part or its neighbour, up or down
abbrev pub end : Bool → CDouble → Float
end up c = cond up (upper c) (lower c)

pub end_is : (up : Bool) (c : CDouble) → cond (past up c.lo) (neighbour up c.hi) c.hi ≡ end up c
unfolding upper lower
end_is true c = refl
end_is false c = refl

module _ (l : ℕ) (z : ℤ) (c : CDouble) (h : T (fits binary64 c.hi)) (k : T (fits binary64 c.lo)) (E : IsExact l z c) (n : NotMinusZero c.hi) where
  no_zero : (up : Bool) → Normal c.hi (past up c.lo) → end up c ≡ with_zero false (end up c)
  no_zero up F = let e = end_is up c in sym (subst NotMinusZero e (stepped_no_zero up c.hi h n (past up c.lo) F))

  end_rounded : (up : Bool) → Normal c.hi (past up c.lo) → end up c ≡ cond up (round_up l z) (round_down l z)
  end_rounded true F = no_zero true F ∙ up_unique l z (upper c) (round_up l z) (upper_least l z c h k E) (round_up_law l z) ∙ up_zero l z
  end_rounded false F = no_zero false F ∙ down_unique l z (lower c) (round_down l z) (lower_greatest l z c h k E) (round_down_law l z) ∙ down_zero l z

-- ---- sums
module _ (a b : Float) (ha : T (fits binary64 a)) (hb : T (fits binary64 b)) (R : SumRange a b × NotMinusZero (a ⊕ b)) where
  abbrev pair : CDouble
  pair = two_sum a b

  exactly : IsExact 0 (exact a +ℤ exact b) pair
  exactly = two_sum_exact a b ha hb R.0

  lo_fits : T (fits binary64 pair.lo)
  unfolding two_sum
  lo_fits = add-fits binary64 _ _

  -- a part that is not 0 is a rest
  rest : (up : Bool) → T (past up pair.lo) → exact pair.lo ≡ pos 0 → ⊥
  rest true t e = ≺_not_≼ (lt_to plus_zero pair.lo tt exactly.lo_finite zero-fits lo_fits t) (rw (e, exact-zero) (≼_refl (pos 0)))
  rest false t e = ≺_not_≼ (lt_to pair.lo plus_zero exactly.lo_finite tt lo_fits zero-fits t) (rw (e, exact-zero) (≼_refl (pos 0)))

  normal : (up : Bool) → Normal pair.hi (past up pair.lo)
  normal up = record { is_finite = exactly.hi_finite; least = λ t. inexact_large (exact a +ℤ exact b) pair exactly (rest up t) }

  near : (up : Bool) → end up pair ≡ cond up (sum_up a b) (sum_down a b)
  unfolding two_sum
  near up = end_rounded 0 (exact a +ℤ exact b) pair (add-fits binary64 _ _) lo_fits exactly R.1 up (normal up) ∙ go up
    where
      go : (up : Bool) → cond up (round_up 0 (exact a +ℤ exact b)) (round_down 0 (exact a +ℤ exact b)) ≡ cond up (sum_up a b) (sum_down a b)
      go true = sum-finite (round_up 0) a b R.0.0.is_finite R.0.1.is_finite
      go false = sum-finite (round_down 0) a b R.0.0.is_finite R.0.1.is_finite

  module _ (c : CDouble) (e : c ≡ two_sum a b) where
    pub sum_normal : (up : Bool) → Normal c.hi (past up c.lo)
    sum_normal up = subst (λ (d : CDouble). Normal d.hi (past up d.lo)) (sym e) (normal up)

    pub sum_is : (up : Bool) → end up c ≡ cond up (sum_up a b) (sum_down a b)
    sum_is up = ap (end up) e ∙ near up

-- the sum of a far product, rounded, with another number
module _ (a b : Float) (ha : T (fits binary64 a)) (hb : T (fits binary64 b)) (A : Added a b) where
  range_of : SumRange a b × NotMinusZero (a ⊕ b)
  range_of = ((weaker 1021 1022 a (omega arith) A.first, weaker 1021 1022 b (omega arith) A.second), A.clear)

  pub added_large : (up : Bool) (c : CDouble) → c ≡ two_sum a b → Large c.hi (past up c.lo) × NotMinusZero c.hi
  unfolding two_sum
  added_large up c e = subst (λ (d : CDouble). Large d.hi (past up d.lo) × NotMinusZero d.hi) (sym e) (
    record {
      most = sum_at_most a b ha hb A.first A.second;
      least = λ t. sum_least a b (two_sum a b) A.first.is_finite A.second.is_finite ha hb (exactly a b ha hb range_of) A.least (rest a b ha hb range_of up t);
    },
    A.clear,
  )

  pub added_is : (up : Bool) (c : CDouble) → c ≡ two_sum a b → end up c ≡ cond up (sum_up a b) (sum_down a b)
  added_is up c e = sum_is a b ha hb range_of c e up

-- ---- products
module _ (a b : Float) (ha : T (fits binary64 a)) (hb : T (fits binary64 b)) (ra : AtMost 510 a) (rb : AtMost 510 b) where
  range : Far (two_product a b).hi → InRange a b
  unfolding two_product
  range F = in_range a b ha hb ra rb F

  product_end : (up : Bool) → Far (two_product a b).hi → end up (two_product a b) ≡ cond up (product_up a b) (product_down a b)
  unfolding two_product product_error
  product_end up F =
      end_rounded 1074 (exact a *ℤ exact b) (two_product a b) (mul-fits binary64 a b) (sub-fits binary64 _ _)
      (two_product_exact a b ha hb (inr (inr (range F)))) (far-zero (a ⊗ b) (mul-fits binary64 a b) F) up
      (far_normal F (past up (two_product a b).lo))
      ∙ go up
    where
      go : (up : Bool) → cond up (round_up 1074 (exact a *ℤ exact b)) (round_down 1074 (exact a *ℤ exact b)) ≡ cond up (product_up a b) (product_down a b)
      go true = product_finite (round_up 1074) a b ra.is_finite rb.is_finite
      go false = product_finite (round_down 1074) a b ra.is_finite rb.is_finite

  pub product_large : (up : Bool) (c : CDouble) → c ≡ two_product a b → Far c.hi → Large c.hi (past up c.lo) × NotMinusZero c.hi
  unfolding two_product
  product_large up c e F = (
    record { most = weaker 1020 1022 c.hi (omega arith) (subst (λ (d : CDouble). AtMost 1020 d.hi) (sym e) (product_at_most a b ha hb ra rb)); least = λ t. le_trans (lit≤ tt) F.least },
    far-zero c.hi (subst (λ (d : CDouble). T (fits binary64 d.hi)) (sym e) (mul-fits binary64 a b)) F,
  )

  pub product_is : (up : Bool) (c : CDouble) → c ≡ two_product a b → Far c.hi → end up c ≡ cond up (product_up a b) (product_down a b)
  product_is up c e F = ap (end up) e ∙ product_end up (subst (λ (d : CDouble). Far d.hi) e F)

  -- its high part may be tested
  pub product_finite_hi : (c : CDouble) → c ≡ two_product a b → T (finite c.hi)
  unfolding two_product
  product_finite_hi c e = subst (λ (d : CDouble). T (finite d.hi)) (sym e) (product_at_most a b ha hb ra rb).is_finite
