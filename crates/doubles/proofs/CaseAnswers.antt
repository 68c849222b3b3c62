-- What next up and next down answer in each case by itself: of sign + by the case's magnitude, of sign − in the mirror. Assumes nothing.
use mathlib.Core.Path.{◌≡◌, refl, sym, ap, ◌∙◌, subst}
use mathlib.Core.Logic.{inl, inr}
use mathlib.Core.Bool.{Bool, true, false, not, true≢false}
use Prim.Native.Nat.{ℕ, suc, ◌-◌, ◌^◌}
use native.Mathlib.Omega.{arith}
use lib.IntN.{pos, negsuc}
use lib.Dec.{T, lit<}
use lib.Ieee.{Float, nan, inf, fin, binary64, of_bits, fits, neg}
use lib.Ieee.Fits.{neg-fits}
use Rattle.exact.specs.Value.{sign, magnitude}
use Rattle.exact.proofs.Values.{finite-neg, neg-neg, magnitude-neg}
use Rattle.rank_arithmetic.specs.Rank.{at_rank, largest, double}
use Rattle.rank_arithmetic.proofs.Grid.{at_rank_form}
use Rattle.doubles.specs.declared.Case.{Case}
use Rattle.doubles.specs.declared.Case.TheVariants.{Nan, Infinity, Zero, SmallestSubnormal, LargestSubnormal, PowerOfTwo, Max, Rest}
use Rattle.doubles.specs.Neighbours.{next_up, next_down}
use Rattle.doubles.specs.Cases.{max, Size, InCase, First, Value, Above, Below, Up, Down, UpIn, DownIn}
use Rattle.doubles.proofs.Patterns.{exact_double}
use Rattle.doubles.proofs.Next.{next_mirror}
use Rattle.doubles.proofs.NextRank.{below_zero}
use Rattle.doubles.proofs.CaseSteps.{same, rank_is, down_is, past, below, few_rank, few_above, power_above, power_below, rest_above, rest_below}

-- ---- the sign −
size_neg : {n : ℕ} (x : Float) → Size n x → Size n (neg x)
size_neg x S = record { is_finite = rw (finite-neg x) S.is_finite; units = magnitude-neg x ∙ S.units }

in_neg : (c : Case) (x : Float) → InCase c x → InCase c (neg x)
unfolding neg
in_neg Nan x i = ap neg i
in_neg Infinity x i = (not i.0, ap neg i.1)
in_neg Zero x i = size_neg x i
in_neg SmallestSubnormal x i = size_neg x i
in_neg LargestSubnormal x i = size_neg x i
in_neg PowerOfTwo x i = (rw (finite-neg x) i.0, rw (magnitude-neg x) i.1)
in_neg Max x i = size_neg x i
in_neg Rest x i = (i.0, i.1, i.2, size_neg x i.3)

first_neg : (c : Case) (x : Float) → First c x → First c (neg x)
first_neg c x F = record { here = in_neg c x F.here; not_before = λ d l i. F.not_before d l (subst (InCase d) (neg-neg x) (in_neg d (neg x) i)) }

sign_neg : (x : Float) → sign x ≡ true → sign (neg x) ≡ false
unfolding neg
sign_neg nan e = absurd (true≢false (sym e))
sign_neg (inf s) e = ap not e
sign_neg (fin s m n) e = ap not e

abbrev AboveIn : Case → Type 0
AboveIn c = (x : Float) → T (fits binary64 x) → sign x ≡ false → First c x → Above c (magnitude x) (next_up x)

abbrev BelowIn : Case → Type 0
BelowIn c = (x : Float) → T (fits binary64 x) → sign x ≡ false → First c x → Below c (magnitude x) (next_down x)

module _ (c : Case) (a : AboveIn c) (b : BelowIn c) where
  up_in : UpIn c
  up_in x h F = go (sign x) refl
    where
      go : (s : Bool) → sign x ≡ s → Up s c (magnitude x) (next_up x)
      go false e = a x h e F
      go true e = rw (magnitude-neg x, mirrored) at (b (neg x) (neg-fits binary64 x h) (sign_neg x e) (first_neg c x F))
        where
          mirrored : next_down (neg x) ≡ neg (next_up x)
          mirrored = next_mirror (neg x) ∙ ap (λ (y : Float). neg (next_up y)) (neg-neg x)

  down_in : DownIn c
  down_in x h F = go (sign x) refl
    where
      go : (s : Bool) → sign x ≡ s → Down s c (magnitude x) (next_down x)
      go false e = b x h e F
      go true e = rw (magnitude-neg x, mirrored) at (a (neg x) (neg-fits binary64 x h) (sign_neg x e) (first_neg c x F))
        where
          mirrored : next_up (neg x) ≡ neg (next_down x)
          mirrored = sym (neg-neg (next_up (neg x))) ∙ ap neg (sym (next_mirror x))

-- ---- NaN and infinity
nan_above : AboveIn Nan
unfolding next_up
nan_above x h s F = ap next_up F.here

nan_below : BelowIn Nan
unfolding next_down
nan_below x h s F = ap next_down F.here

plus_infinity : (x : Float) → sign x ≡ false → InCase Infinity x → x ≡ inf false
plus_infinity x s i = i.1 ∙ ap inf (sym (ap sign i.1) ∙ s)

infinity_above : AboveIn Infinity
unfolding next_up
infinity_above x h s F = ap next_up (plus_infinity x s F.here)

infinity_below : BelowIn Infinity
unfolding next_down
infinity_below x h s F =
    let e = exact_double false largest (lit< tt) in
    subst (Value (pos max)) (sym (ap next_down (plus_infinity x s F.here))) (e.0, e.1 ∙ ap pos (at_rank_form 52 2045 (2 ^ 53 - 1) (inr (omega arith)) (lit< tt)))

-- ---- zero and the subnormals that have a case
zero_above : AboveIn Zero
zero_above x h s F = few_above x F.here.is_finite h s 0 (lit< tt) F.here.units

zero_below : BelowIn Zero
unfolding at_rank
zero_below x h s F =
    let f = F.here.is_finite in
    let e = exact_double true 1 (lit< tt) in
    subst (Value (negsuc 0)) (sym (ap next_down (same x f h s ∙ ap (double false) (few_rank x f h s 0 (lit< tt) F.here.units)) ∙ below_zero)) e

smallest_above : AboveIn SmallestSubnormal
smallest_above x h s F = few_above x F.here.is_finite h s 1 (lit< tt) F.here.units

smallest_below : BelowIn SmallestSubnormal
unfolding of_bits
smallest_below x h s F = let f = F.here.is_finite in down_is x f h s 0 (few_rank x f h s 1 (lit< tt) F.here.units)

largest_above : AboveIn LargestSubnormal
largest_above x h s F = few_above x F.here.is_finite h s (2 ^ 52 - 1) (lit< tt) F.here.units

largest_below : BelowIn LargestSubnormal
largest_below x h s F = below x F.here.is_finite h s 0 (2 ^ 52 - 1) (inl refl, lit< tt) F.here.units 0 (2 ^ 52 - 2) (inl refl, lit< tt) refl

-- ---- powers of two, MAX, and the rest
two_above : AboveIn PowerOfTwo
two_above x h s F j e = power_above x F.here.0 h s j e

two_below : BelowIn PowerOfTwo
two_below x h s F j e = power_below x F.here.0 h s j e

max_above : AboveIn Max
max_above x h s F =
    let f = F.here.is_finite in
    past x f h s 2045 (2 ^ 53 - 1) (inr (omega arith), lit< tt) F.here.units (ap suc (rank_is x f h s 2045 (2 ^ 53 - 1) (inr (omega arith), lit< tt) F.here.units))

max_below : BelowIn Max
max_below x h s F = below x F.here.is_finite h s 2045 (2 ^ 53 - 1) (inr (omega arith), lit< tt) F.here.units 2045 (2 ^ 53 - 2) (inr (omega arith), lit< tt) refl

others_above : AboveIn Rest
others_above x h s F m k S u = rest_above x F.here.3.is_finite h s F m k S u

others_below : BelowIn Rest
others_below x h s F m k S u = rest_below x F.here.3.is_finite h s F m k S u

-- ---- the table, of either sign
pub nan_up : UpIn Nan
nan_up = up_in Nan nan_above nan_below

pub nan_down : DownIn Nan
nan_down = down_in Nan nan_above nan_below

pub infinity_up : UpIn Infinity
infinity_up = up_in Infinity infinity_above infinity_below

pub infinity_down : DownIn Infinity
infinity_down = down_in Infinity infinity_above infinity_below

pub zero_up : UpIn Zero
zero_up = up_in Zero zero_above zero_below

pub zero_down : DownIn Zero
zero_down = down_in Zero zero_above zero_below

pub smallest_subnormal_up : UpIn SmallestSubnormal
smallest_subnormal_up = up_in SmallestSubnormal smallest_above smallest_below

pub smallest_subnormal_down : DownIn SmallestSubnormal
smallest_subnormal_down = down_in SmallestSubnormal smallest_above smallest_below

pub largest_subnormal_up : UpIn LargestSubnormal
largest_subnormal_up = up_in LargestSubnormal largest_above largest_below

pub largest_subnormal_down : DownIn LargestSubnormal
largest_subnormal_down = down_in LargestSubnormal largest_above largest_below

pub power_of_two_up : UpIn PowerOfTwo
power_of_two_up = up_in PowerOfTwo two_above two_below

pub power_of_two_down : DownIn PowerOfTwo
power_of_two_down = down_in PowerOfTwo two_above two_below

pub max_up : UpIn Max
max_up = up_in Max max_above max_below

pub max_down : DownIn Max
max_down = down_in Max max_above max_below

pub rest_up : UpIn Rest
rest_up = up_in Rest others_above others_below

pub rest_down : DownIn Rest
rest_down = down_in Rest others_above others_below
