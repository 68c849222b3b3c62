-- A large number with its share added is the next one up, and with it taken off the next one down. Assumes nothing.
use mathlib.Core.Path.{◌≡◌, refl, sym, ap, ◌∙◌, subst}
use mathlib.Core.Logic.{inl, inr}
use mathlib.Core.Bool.{Bool, true, false, not, cond}
use Prim.Native.Nat.{ℕ, suc, ◌+◌, ◌-◌, ◌*◌, ◌%◌, ◌^◌, ◌≤◌, ◌<◌}
use native.Mathlib.Nat.{le_refl, le_trans, le_of_eq, not-le_of_lt, lt_of_le_of_lt}
use native.Mathlib.Omega.{arith}
use lib.IntN.{ℤ, pos, negsuc, neg_ℤ, ◌+ℤ◌, ◌*ℤ◌, +ℤ_idr}
use lib.Dec.{T, lit<, lit≤}
use lib.Count.{count_trailing_zeros}
use lib.Ieee.{Float, fin, binary64, fits, of_bits, to_bits, of_fields, odd, size, units}
use lib.Ieee.Fits.{add-fits, sub-fits, mul-fits}
use lib.Ieee.Scale.{finite, overflow}
use Rattle.exact.specs.Value.{sign, magnitude, signed, exact}
use Rattle.exact.specs.Nearest.{nearest_units, IsNearest}
use Rattle.exact.proofs.Naturals.{le_or_lt}
use Rattle.exact.proofs.Nearest.{to_nearest_signed}
use Rattle.exact.proofs.Operations.{exactly, by_one, add_nearest, sub_nearest, mul_nearest}
use Rattle.exact.proofs.Signed.{signed_+, signed--, signed_*}
use Rattle.exact.proofs.Values.{whole, exact_abs}
use Rattle.exact.specs.Representable.{Representable}
use Rattle.exact.proofs.Signs.{minus_zero, add_minus_zero, sub_minus_zero}
use Rattle.rank_arithmetic.specs.Rank.{at_rank, infinity, double}
use Rattle.rank_arithmetic.proofs.Grid.{at_rank_form, at_rank_mono}
use Rattle.doubles.proofs.Patterns.{rank_of, pattern, ranked, finite_no_nan, exact_double, magnitude_double, double_fits}
use Rattle.doubles.proofs.Tests.{rank_bits}
use Rattle.doubles.proofs.Unique.{exact_unique}
use Rattle.doubles.proofs.FirstCase.{magnitude_rank, normal_rank}
use Rattle.doubles.proofs.NextRank.{neighbour, away, toward}
use Rattle.doubles.specs.Directed.{product_up, product_down}
use Rattle.cdouble.specs.declared.CDouble.{CDouble}
use Rattle.cdouble.specs.Compensated.{◌⊕◌, ◌⊖◌, ◌⊗◌, plus_zero, upper, lower, two_product}
use Rattle.cdouble.proofs.RoundedUp.{exact-zero, zero-fits}
use Rattle.cdouble.specs.Exactness.{AtMost}
use Rattle.outward_by_errors.specs.Far.{Far, Large, NotMinusZero, past}
use Rattle.outward_by_errors.proofs.Inexact.{not_minus_zero, is_not_minus_zero, product_to}
use Rattle.outward_by_errors.proofs.Rounded.{end_is, product_is, product_large}
use Rattle.outward_by_errors.proofs.NearestRank.{nearest_rank}
use Rattle.outward_by_errors.proofs.AddedStep.{share, away_after, away_before, toward_after, toward_before, no_more}

-- 2 ^ -53 (1 + 2 ^ -52)
abbrev pub part : Float
part = fin false 4503599627370497 (negsuc 104)

part_exact : exact part ≡ pos share
unfolding exact magnitude
part_exact = refl

part_fits : T (fits binary64 part)
unfolding fits
part_fits = tt

module _ (x a : Float) (h : T (fits binary64 x)) (R : AtMost 1022 x) (l : 2 ^ 105 ≤ magnitude x) (size : a ≡ double false (rank_of x)) where
  abbrev r : ℕ
  r = rank_of x

  abbrev f : T (finite x)
  f = R.is_finite

  is_rank : magnitude x ≡ at_rank 52 r
  is_rank = magnitude_rank x f h

  large : 2 ^ 105 ≤ at_rank 52 r
  large = subst (λ (n : ℕ). 2 ^ 105 ≤ n) is_rank l

  room : suc (suc r) < infinity
  room = elim (le_or_lt (2046 * 2 ^ 52) r) [
    | inl g ↦ absurd (not-le_of_lt (lt_of_le_of_lt R.cap (lit< tt)) (le_trans (le_of_eq (sym power)) (le_trans (at_rank_mono 52 (2046 * 2 ^ 52) r g) (le_of_eq (sym is_rank)))))
    | inr g ↦ omega (arith, g)
  ]
    where
      power : at_rank 52 (2046 * 2 ^ 52) ≡ 2 ^ 2097
      power = at_rank_form 52 2045 (2 ^ 52) (inr (le_refl (2 ^ 52))) (lit< tt)

  -- ---- the share
  abbrev n : ℕ
  n = nearest_units 53 1074 (share * at_rank 52 r)

  abbrev t : Float
  t = part ⊗ a

  a_finite : T (finite a)
  a_finite = subst (λ (y : Float). T (finite y)) (sym size) (exact_double false r (ranked x f h).small).0

  a_fits : T (fits binary64 a)
  a_fits = subst (λ (y : Float). T (fits binary64 y)) (sym size) (double_fits false r)

  share_of : exact part *ℤ exact a ≡ signed false (share * at_rank 52 r)
  share_of =
      ap (λ (z : ℤ). z *ℤ exact a) part_exact
      ∙ ap (λ (z : ℤ). pos share *ℤ z) (ap exact size ∙ (exact_double false r (ranked x f h).small).1)
      ∙ signed_* false false share (at_rank 52 r)

  small : n < overflow binary64
  small = lt_of_le_of_lt (no_more r n large refl) (subst (λ (m : ℕ). m < overflow binary64) is_rank (whole x f h).small)

  share_value : T (finite t) × (exact t ≡ pos n)
  share_value =
      let D : IsNearest 1074 (signed false (share * at_rank 52 r)) t = subst (λ (z : ℤ). IsNearest 1074 z t) share_of (mul_nearest part a tt a_finite part_fits a_fits) in
      let e = to_nearest_signed 1074 false (share * at_rank 52 r) in
      let v = D.within (rw e small) in
      (v.0, v.1 ∙ e)

  t_fits : T (fits binary64 t)
  t_fits = mul-fits binary64 part a

  -- ---- added, or taken off
  abbrev pub shifted : Bool → Float
  shifted up = cond up (x ⊕ t) (x ⊖ t)

  shifted-fits : (up : Bool) → T (fits binary64 (shifted up))
  shifted-fits true = add-fits binary64 x t
  shifted-fits false = sub-fits binary64 x t

  near : (up : Bool) → IsNearest 0 (exact x +ℤ signed (not up) n) (shifted up)
  near true = subst (λ (z : ℤ). IsNearest 0 (exact x +ℤ z) (x ⊕ t)) share_value.1 (add_nearest x t f share_value.0 h t_fits)
  near false = subst (λ (z : ℤ). IsNearest 0 (exact x +ℤ neg_ℤ z) (x ⊖ t)) share_value.1 (sub_nearest x t f share_value.0 h t_fits)

  module _ (s : Bool) (here : sign x ≡ s) where
    same : x ≡ double s r
    same = (pattern x (finite_no_nan x f) h).same ∙ ap (λ (s : Bool). double s r) here

    value : exact x ≡ signed s (at_rank 52 r)
    value = (ranked x f h).value ∙ ap (λ (s : Bool). signed s (at_rank 52 r)) here

    moved : (up : Bool) (z : ℤ) → signed s (at_rank 52 r) +ℤ signed (not up) n ≡ z → IsNearest 0 z (shifted up)
    moved up z e = subst (λ (z : ℤ). IsNearest 0 z (shifted up)) (ap (λ (z : ℤ). z +ℤ signed (not up) n) value ∙ e) (near up)

    further : (up : Bool) → signed s (at_rank 52 r) +ℤ signed (not up) n ≡ signed s (at_rank 52 r + n) → neighbour up (double s r) ≡ double s (suc r) → shifted up ≡ neighbour up x
    further up e to =
        nearest_rank s r (at_rank 52 r + n) (omega (arith, room)) (away_after r n large refl) (away_before r n large refl) (shifted up) (shifted-fits up) (moved up _ e)
        ∙ sym to ∙ ap (neighbour up) (sym same)

    nearer : (up : Bool) → signed s (at_rank 52 r) +ℤ signed (not up) n ≡ signed s (at_rank 52 r - n)
        → ((p : ℕ) → suc p < infinity → neighbour up (double s (suc p)) ≡ double s p) → shifted up ≡ neighbour up x
    nearer up e to =
        nearest_rank s p (at_rank 52 r - n) (omega (arith, back, room)) (toward_after r n large refl p back) (toward_before r n large refl p back) (shifted up) (shifted-fits up) (moved up _ e)
        ∙ sym (to (suc p) (omega (arith, back, room))) ∙ ap (neighbour up) (ap (double s) back ∙ sym same)
      where
        p : ℕ
        p = r - 2

        back : suc (suc p) ≡ r
        back = omega (arith, normal_rank x h f (le_trans (lit≤ tt) l))

  pub shifted_is : (up : Bool) → shifted up ≡ neighbour up x
  shifted_is up = go (sign x) refl up
    where
      go : (s : Bool) → sign x ≡ s → (up : Bool) → shifted up ≡ neighbour up x
      go false e true = further false e true (signed_+ false (at_rank 52 r) n) (away false r (omega (arith, room)))
      go true e false = further true e false (signed_+ true (at_rank 52 r) n) (away true r (omega (arith, room)))
      go false e false = nearer false e false (signed-- false true (at_rank 52 r) n refl (no_more r n large refl)) (toward false)
      go true e true = nearer true e true (signed-- true false (at_rank 52 r) n refl (no_more r n large refl)) (toward true)

  -- ---- the neighbour is no more than one rank nearer to 0
  pub next_least : (up : Bool) → at_rank 52 (r - 1) ≤ magnitude (neighbour up x)
  next_least up = go (sign x) refl up
    where
      back : suc (r - 1) ≡ r
      back = omega (arith, normal_rank x h f (le_trans (lit≤ tt) l))

      away_least : (s up : Bool) → sign x ≡ s → neighbour up (double s r) ≡ double s (suc r) → at_rank 52 (r - 1) ≤ magnitude (neighbour up x)
      away_least s up e to =
          le_trans (at_rank_mono 52 (r - 1) (suc r) (omega arith))
          (le_of_eq (sym (ap (λ (y : Float). magnitude (neighbour up y)) (same s e) ∙ ap magnitude to ∙ magnitude_double s (suc r) (omega (arith, room)))))

      toward_least : (s up : Bool) → sign x ≡ s → ((p : ℕ) → suc p < infinity → neighbour up (double s (suc p)) ≡ double s p) → at_rank 52 (r - 1) ≤ magnitude (neighbour up x)
      toward_least s up e to =
          let before : neighbour up x ≡ double s (r - 1) = ap (neighbour up) (same s e ∙ ap (double s) (sym back)) ∙ to (r - 1) (omega (arith, back, room)) in
          le_of_eq (sym (ap magnitude before ∙ magnitude_double s (r - 1) (omega (arith, room))))

      go : (s : Bool) → sign x ≡ s → (up : Bool) → at_rank 52 (r - 1) ≤ magnitude (neighbour up x)
      go false e true = away_least false true e (away false r (omega (arith, room)))
      go true e false = away_least true false e (away true r (omega (arith, room)))
      go false e false = toward_least false false e (toward false)
      go true e true = toward_least true true e (toward true)

-- of a far number at least half
pub half_least : (up : Bool) (x : Float) → T (fits binary64 x) → AtMost 1022 x → Far x → 2 ^ (1074 - 967) ≤ magnitude (neighbour up x)
half_least up x h R F = le_trans least (next_least x (double false (rank_of x)) h R (le_trans (lit≤ tt) F.least) refl up)
  where
    power : at_rank 52 (56 * 2 ^ 52) ≡ 2 ^ (1074 - 967)
    power = at_rank_form 52 55 (2 ^ 52) (inr (le_refl (2 ^ 52))) (lit< tt)

    least : 2 ^ (1074 - 967) ≤ at_rank 52 (rank_of x - 1)
    least = elim (le_or_lt (rank_of x) (56 * 2 ^ 52)) [
      | inl k ↦ absurd (none (at_rank_mono 52 (rank_of x) (56 * 2 ^ 52) k))
      | inr k ↦ le_trans (le_of_eq (sym power)) (at_rank_mono 52 (56 * 2 ^ 52) (rank_of x - 1) (omega (arith, k)))
    ]
      where
        none : at_rank 52 (rank_of x) ≤ at_rank 52 (56 * 2 ^ 52) → ⊥
        none g = not-le_of_lt (lit< tt) (le_trans F.least (le_trans (le_of_eq (magnitude_rank x R.is_finite h)) (le_trans g (le_of_eq power))))

-- of a far product, rounded, too
pub product_half : (a b : Float) (ha : T (fits binary64 a)) (hb : T (fits binary64 b)) (ra : AtMost 510 a) (rb : AtMost 510 b) (up : Bool) (c : CDouble) → c ≡ two_product a b → Far c.hi
    → 2 ^ (1074 - 967) ≤ magnitude (product_to up a b)
unfolding two_product
product_half a b ha hb ra rb up c e F =
    subst (λ (y : Float). 2 ^ (1074 - 967) ≤ magnitude y) (end_is up c ∙ product_is a b ha hb ra rb up c e F ∙ to_side up) (go (past up c.lo))
  where
    R : AtMost 1022 c.hi
    R = (product_large a b ha hb ra rb up c e F).0.most

    go : (s : Bool) → 2 ^ (1074 - 967) ≤ magnitude (cond s (neighbour up c.hi) c.hi)
    go true = half_least up c.hi (subst (λ (d : CDouble). T (fits binary64 d.hi)) (sym e) (mul-fits binary64 a b)) R F
    go false = le_trans (lit≤ tt) F.least

    to_side : (up : Bool) → cond up (product_up a b) (product_down a b) ≡ product_to up a b
    to_side true = refl
    to_side false = refl

-- ---- with nothing added it stays
module _ (x : Float) (f : T (finite x)) (h : T (fits binary64 x)) (n : NotMinusZero x) where
  no_more_exact : exact x +ℤ exact plus_zero ≡ exact x
  no_more_exact = ap (λ (w : ℤ). exact x +ℤ w) exact-zero ∙ +ℤ_idr (exact x)

  stays : (y : Float) → T (fits binary64 y) → IsNearest 0 (exact x +ℤ exact plus_zero) y → (y ≡ minus_zero → x ≡ minus_zero) → y ≡ x
  stays y g Y m =
      let v = exactly 0 (exact x +ℤ exact plus_zero) (exact x) y Y (no_more_exact ∙ by_one (exact x)) (subst (λ (k : ℕ). Representable 53 k) (sym (exact_abs x)) (whole x f h).representable)
      (subst (λ (k : ℕ). k < overflow binary64) (sym (exact_abs x)) (whole x f h).small) in
      sym (not_minus_zero y v.0 g (λ e. is_not_minus_zero x n (m e))) ∙ exact_unique y x v.0 g f h v.1 ∙ n

  unmoved : (up : Bool) → cond up (x ⊕ plus_zero) (x ⊖ plus_zero) ≡ x
  unfolding exact magnitude
  unmoved true = stays (x ⊕ plus_zero) (add-fits binary64 x plus_zero) (add_nearest x plus_zero f tt h zero-fits) (add_minus_zero x plus_zero h zero-fits)
  unmoved false = stays (x ⊖ plus_zero) (sub-fits binary64 x plus_zero) (sub_nearest x plus_zero f tt h zero-fits) (sub_minus_zero x plus_zero h zero-fits)

-- ---- what the code makes of a pair
part_is : of_bits binary64 0x3CA0_0000_0000_0001 ≡ part
unfolding of_bits of_fields odd count_trailing_zeros size units
part_is = refl

pub shift_is : (up : Bool) (c : CDouble) → T (fits binary64 c.hi) → Large c.hi (past up c.lo) × NotMinusZero c.hi → {step : Bool} {a y z : Float}
    → step ≡ past up c.lo
    → a ≡ double false (to_bits binary64 c.hi % 2 ^ 63)
    → y ≡ cond step (of_bits binary64 0x3CA0_0000_0000_0001 ⊗ a) plus_zero
    → z ≡ cond up (c.hi ⊕ y) (c.hi ⊖ y)
    → z ≡ cond up (upper c) (lower c)
shift_is up c h L {a = a} {y} {z} asked size more is = is ∙ go (past up c.lo) refl ∙ end_is up c
  where
    x : Float
    x = c.hi

    f : T (finite x)
    f = L.0.most.is_finite

    added : y ≡ cond (past up c.lo) (part ⊗ a) plus_zero
    added = more ∙ ap (λ (s : Bool). cond s (of_bits binary64 0x3CA0_0000_0000_0001 ⊗ a) plus_zero) asked ∙ ap (λ (p : Float). cond (past up c.lo) (p ⊗ a) plus_zero) part_is

    go : (s : Bool) → past up c.lo ≡ s → cond up (x ⊕ y) (x ⊖ y) ≡ cond (past up c.lo) (neighbour up x) x
    go true e =
        ap (λ (y : Float). cond up (x ⊕ y) (x ⊖ y)) (added ∙ ap (λ (s : Bool). cond s (part ⊗ a) plus_zero) e)
        ∙ shifted_is x a h L.0.most (L.0.least (subst T (sym e) tt)) (size ∙ ap (double false) (rank_bits x (finite_no_nan x f) h)) up
        ∙ sym (ap (λ (s : Bool). cond s (neighbour up x) x) e)
    go false e =
        ap (λ (y : Float). cond up (x ⊕ y) (x ⊖ y)) (added ∙ ap (λ (s : Bool). cond s (part ⊗ a) plus_zero) e)
        ∙ unmoved x f h L.1 up
        ∙ sym (ap (λ (s : Bool). cond s (neighbour up x) x) e)
