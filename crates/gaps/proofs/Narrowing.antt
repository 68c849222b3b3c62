-- Narrowing never lowers the outward gap: with equal rows and equal kept multipliers, ranges that lie within others have a gap that is not lower. Assumes nothing.
use mathlib.Core.Path.{◌≡◌, refl, sym, subst}
use mathlib.Core.Logic.{◌⊎◌, inl, inr}
use mathlib.Core.Bool.{Bool, true, false, not, cond, ◌&&◌}
use Prim.Native.Nat.{ℕ, zero, suc, ◌^◌, ◌≤◌, ◌<◌}
use native.Mathlib.Nat.{le_refl}
use native.Mathlib.Omega.{arith}
use lib.Dec.{T}
use lib.Pow.{pow_pos}
use lib.IntN.{ℤ, pos, ◌*ℤ◌}
use lib.Ieee.{Float, nan, inf, fin, binary64, fits, is_nan, neg, le, eq}
use lib.Ieee.Scale.{finite}
use Rattle.exact.specs.Value.{exact}
use Rattle.exact.specs.Integers.{◌≼◌, ◌≺◌}
use Rattle.exact.proofs.Order.{≼_refl, ≼_trans, ≼_or_≺, ≼_total, *_mono, *_anti}
use Rattle.exact.proofs.Compare.{le-exact, le_bottom, le_same, le_trans}
use Rattle.doubles.specs.Directed.{round_up, sum_with, sum_up, sum_down, product_up}
use Rattle.doubles.proofs.Rounding.{up_mono}
use Rattle.doubles.proofs.Bounding.{product_finite}
use Rattle.cdouble.specs.Compensated.{plus_zero}
use Rattle.cdouble.proofs.RoundedUp.{zero-fits}
use Rattle.loops.specs.Places.{all_below}
use Rattle.loops.proofs.All.{all_at, all_of}
use Rattle.gaps.specs.Rows.{Rows, Ranges, KeptRows, finite_parts}
use Rattle.gaps.specs.Sameness.{SameRows, SameKept, Within}
use Rattle.gaps.specs.Steps.{cl, cu, skipped, limited, limited_at, term, with_term, largest, right_side, difference, outward_gap}
use Rattle.gaps.proofs.Sound.{SoundRange, SoundRows, SoundRanges}
use Rattle.gaps.proofs.Sides.{scale_cancel}
use Rattle.gaps.proofs.Term.{limited-ends, product_number, low_in_term, high_in_term, term_least, term_fits, high_finite, low_finite, some_edge, limited_of}
use Rattle.gaps.proofs.Bounds.{parts_finite, cl_bounds, cu_bounds, right_side_bounds}
use Rattle.gaps.proofs.InOrder.{InOrder, order_trans, first_finite, second_finite, neg_order, sum_up_order, sum_down_order}
use Rattle.gaps.proofs.Agreement.{gap_same}
use Rattle.gaps.proofs.NeverAbove.{outward_shape}

-- ---- one variable: the ends of its coefficient, its range, and a wider one in which it is limited
record Narrowed (l u low high wide_low wide_high_lem : Float) : Type 0 where
  l_finite : T (finite l)
  u_finite : T (finite u)
  l_fits : T (fits binary64 l)
  u_fits : T (fits binary64 u)
  ends : exact l ≼ exact u
  range : SoundRange low high
  wider : SoundRange wide_low wide_high_lem
  not_lower : T (le wide_low low)
  not_higher : T (le high wide_high_lem)
  bounded : limited l u wide_low wide_high_lem ≡ true

module _ (l u low high wide_low wide_high_lem : Float) (N : Narrowed l u low high wide_low wide_high_lem) where
  open N use {l_finite, u_finite, l_fits, u_fits, ends, range, wider, not_lower, not_higher, bounded}

  low_order : InOrder wide_low low
  low_order = record { first_fits = wider.low_fits; second_fits = range.low_fits; order = not_lower }

  high_order : InOrder high wide_high_lem
  high_order = record { first_fits = range.high_fits; second_fits = wider.high_fits; order = not_higher }

  -- ---- where it needs an edge, the wider one is finite, and so is its own
  needs_high : skipped l u ≡ false → pos 0 ≺ exact u → T (finite wide_high_lem)
  needs_high = high_finite l u wide_low wide_high_lem l_finite u_finite l_fits u_fits wider bounded

  needs_low : skipped l u ≡ false → exact l ≺ pos 0 → T (finite wide_low)
  needs_low = low_finite l u wide_low wide_high_lem l_finite u_finite l_fits u_fits wider bounded

  still_limited : limited l u low high ≡ true
  still_limited =
      limited_of l u low high l_finite u_finite l_fits u_fits range λ n.
      (λ above. first_finite high wide_high_lem high_order range.high_not_bottom (needs_high n above), λ below. second_finite wide_low low low_order range.low_not_top (needs_low n below))

  -- ---- its term
  module _ (n : skipped l u ≡ false) where
    abbrev wide_term : Float
    wide_term = term l u wide_low wide_high_lem

    wide_edge : T (finite wide_low) ⊎ T (finite wide_high_lem)
    wide_edge = some_edge l u wide_low wide_high_lem l_finite u_finite l_fits u_fits wider bounded n ends

    wide_fits : T (fits binary64 wide_term)
    wide_fits = term_fits l u wide_low wide_high_lem l_finite u_finite l_fits u_fits wider wide_edge

    -- a factor between the ends meets a finite wider edge on the side to which it grows
    growing : (z : ℤ) → exact l ≼ z → z ≼ exact u → ((pos 0 ≼ z) × T (finite wide_high_lem)) ⊎ ((z ≼ pos 0) × T (finite wide_low))
    growing z p q =
        elim (≼_or_≺ (pos 0) (exact l)) [
          | inl l-up ↦
              elim (≼_or_≺ (exact u) (pos 0)) [
                | inl u-down ↦ elim wide_edge [ inl t ↦ inr (≼_trans q u-down, t) | inr t ↦ inl (≼_trans l-up p, t) ]
                | inr above ↦ inl (≼_trans l-up p, needs_high n above)
              ]
          | inr below ↦
              elim (≼_or_≺ (exact u) (pos 0)) [
                | inl u-down ↦ inr (≼_trans q u-down, needs_low n below)
                | inr above ↦ elim (≼_total (pos 0) z) [ inl up ↦ inl (up, needs_high n above) | inr down ↦ inr (down, needs_low n below) ]
              ]
        ]

    -- so its product with an edge inside is at most one of the wider term
    product_within : (c edge : Float) → T (finite c) → exact l ≼ exact c → exact c ≼ exact u → (T (finite wide_low) → T (le (product_up c wide_low) wide_term))
        → (T (finite wide_high_lem) → T (le (product_up c wide_high_lem) wide_term))
        → T (finite edge) → InOrder wide_low edge → InOrder edge wide_high_lem → T (le (product_up c edge) wide_term)
    product_within c edge f p q in_low in_high t o r =
        elim (growing (exact c) p q) [
          | inl h ↦ through wide_high_lem h.1 (*_mono (exact c) (exact edge) (exact wide_high_lem) h.0 ((le-exact edge wide_high_lem t h.1 r.first_fits r.second_fits).0 r.order)) (in_high h.1)
          | inr h ↦ through wide_low h.1 (*_anti (exact c) (exact wide_low) (exact edge) h.0 ((le-exact wide_low edge h.1 t o.first_fits o.second_fits).0 o.order)) (in_low h.1)
        ]
      where
        through : (x : Float) → T (finite x) → exact c *ℤ exact edge ≼ exact c *ℤ exact x → T (le (product_up c x) wide_term) → T (le (product_up c edge) wide_term)
        through x g h =
            le_trans (product_up c edge) (product_up c x) wide_term (product_number c edge f t).fit (product_number c x f g).fit wide_fits
            (subst (λ (z : Float). T (le (product_up c edge) z)) (product_finite (round_up 1074) c x f g)
            (subst (λ (z : Float). T (le z (round_up 1074 (exact c *ℤ exact x)))) (product_finite (round_up 1074) c edge f t) (up_mono 1074 (exact c *ℤ exact edge) (exact c *ℤ exact x) h)))

    both_within : (edge : Float) → T (finite edge) → InOrder wide_low edge → InOrder edge wide_high_lem → T (le (product_up l edge) wide_term) × T (le (product_up u edge) wide_term)
    both_within edge t o r =
        let in_low = low_in_term l u wide_low wide_high_lem l_finite u_finite l_fits u_fits wider in
        let in_high = high_in_term l u wide_low wide_high_lem l_finite u_finite l_fits u_fits wider in (
          product_within l edge l_finite (≼_refl (exact l)) ends (λ h. (in_low h).0) (λ h. (in_high h).0) t o r,
          product_within u edge u_finite ends (≼_refl (exact u)) (λ h. (in_low h).1) (λ h. (in_high h).1) t o r,
        )

    term_order : InOrder (term l u low high) wide_term
    term_order =
        let own : InOrder low high = record { first_fits = range.low_fits; second_fits = range.high_fits; order = range.ordered } in
        let edge = some_edge l u low high l_finite u_finite l_fits u_fits range still_limited n ends in
        record {
          first_fits = term_fits l u low high l_finite u_finite l_fits u_fits range edge;
          second_fits = wide_fits;
          order = term_least l u low high l_finite u_finite l_fits u_fits range wide_term edge
              (λ t. both_within low t low_order (order_trans low high wide_high_lem own high_order))
              (λ t. both_within high t (order_trans wide_low low high low_order own) high_order);
        }

  with_term_order : (x y : Float) → InOrder x y → InOrder (with_term l u low high x) (with_term l u wide_low wide_high_lem y)
  unfolding with_term
  with_term_order x y o = go (skipped l u) refl
    where
      go : (b : Bool) → skipped l u ≡ b → InOrder (cond b x (sum_up x (term l u low high))) (cond b y (sum_up y (term l u wide_low wide_high_lem)))
      go true e = o
      go false e = sum_up_order x y (term l u low high) (term l u wide_low wide_high_lem) o (term_order e)

-- ---- B is never +infinity, so that the difference is a plain sum
difference_is : (b m : Float) → T (not (is_nan b)) → (b ≡ inf false → ⊥) → difference b m ≡ sum_down b (neg m)
unfolding difference sum_with eq neg is_nan
difference_is nan m t h = absurd t
difference_is (inf true) m t h = refl
difference_is (inf false) m t h = absurd (h refl)
difference_is (fin s n e) nan t h = refl
difference_is (fin s n e) (inf true) t h = refl
difference_is (fin s n e) (inf false) t h = refl
difference_is (fin s n e) (fin r k d) t h = refl

-- ---- all variables
module _ (kept : KeptRows) (m : Rows) (sound : SoundRows m) (parts : (r : ℕ) → r < m.count → T (finite_parts (kept r))) (g h : Ranges)
    (narrow : SoundRanges m.variables g) (wide : SoundRanges m.variables h) (within : Within m.variables g h)
    (bounded : (v : ℕ) → v < m.variables → limited_at (cl kept m) (cu kept m) h v ≡ true) where
  narrowed : (v : ℕ) → v < m.variables → Narrowed (cl kept m v) (cu kept m v) (g.low v) (g.high v) (h.low v) (h.high v)
  unfolding limited
  narrowed v less =
      let l = cl kept m v in
      let u = cu kept m v in
      let both = limited-ends l u (h.low v) (h.high v) (bounded v less) in
      let f = both.0 in
      let k = both.1 in
      record {
        l_finite = f;
        u_finite = k;
        l_fits = (cl_bounds kept m sound parts v).fit;
        u_fits = (cu_bounds kept m sound parts v).fit;
        ends = scale_cancel (2 ^ 1074) (exact l) (exact u) (pow_pos 1074) (≼_trans ((cl_bounds kept m sound parts v).bound f) ((cu_bounds kept m sound parts v).bound k));
        range = narrow v less;
        wider = wide v less;
        not_lower = within.low_not_lower v less;
        not_higher = within.high_not_higher v less;
        bounded = bounded v less;
      }

  all_limited : all_below m.variables (limited_at (cl kept m) (cu kept m) g) ≡ true
  all_limited = all_of (limited_at (cl kept m) (cu kept m) g) m.variables (λ v less. still_limited _ _ _ _ _ _ (narrowed v less))

  largest_order : (k : ℕ) → k ≤ m.variables → InOrder (largest (cl kept m) (cu kept m) g k) (largest (cl kept m) (cu kept m) h k)
  unfolding largest is_nan
  largest_order zero less = record { first_fits = zero-fits; second_fits = zero-fits; order = le_same plus_zero tt zero-fits }
  largest_order (suc k) less = with_term_order _ _ _ _ _ _ (narrowed k less) _ _ (largest_order k (omega arith))

  difference_order : T (le (difference (right_side kept m m.count) (largest (cl kept m) (cu kept m) h m.variables))
      (difference (right_side kept m m.count) (largest (cl kept m) (cu kept m) g m.variables)))
  difference_order =
      let b = right_side kept m m.count in
      let B = right_side_bounds kept m sound parts in
      let own : InOrder b b = record { first_fits = B.fit; second_fits = B.fit; order = le_same b B.no_nan B.fit } in
      rw (difference_is b (largest (cl kept m) (cu kept m) h m.variables) B.no_nan B.no_other, difference_is b (largest (cl kept m) (cu kept m) g m.variables) B.no_nan B.no_other)
      (sum_down_order b b _ _ own (neg_order _ _ (largest_order m.variables (le_refl m.variables)))).order

-- ---- the gap
module _ (kept : KeptRows) (m : Rows) (sound : SoundRows m) where
  abbrev AllFinite : Type 0
  AllFinite = all_below m.count (λ r. finite_parts (kept r)) ≡ true

  abbrev AllLimited : Ranges → Type 0
  AllLimited g = all_below m.variables (limited_at (cl kept m) (cu kept m) g) ≡ true

  -- either the steps go through, or the gap is −infinity
  gap_ways : (g : Ranges) → (AllFinite × AllLimited g) ⊎ (outward_gap kept m g ≡ inf true)
  unfolding outward_gap
  gap_ways g = go (all_below m.count (λ r. finite_parts (kept r))) (all_below m.variables (limited_at (cl kept m) (cu kept m) g))
      (difference (right_side kept m m.count) (largest (cl kept m) (cu kept m) g m.variables))
    where
      go : (a b : Bool) (x : Float) → ((a ≡ true) × (b ≡ true)) ⊎ (cond (a && b) x (inf true) ≡ inf true)
      go true true x = inl (refl, refl)
      go true false x = inr refl
      go false b x = inr refl

  order_where_limited : (g h : Ranges) → SoundRanges m.variables g → SoundRanges m.variables h → Within m.variables g h
      → AllFinite → AllLimited h → T (le (outward_gap kept m h) (outward_gap kept m g))
  unfolding outward_gap
  order_where_limited g h narrow wide within all bounded =
      let parts = parts_finite kept m.count all in
      let limits = all_at (limited_at (cl kept m) (cu kept m) h) m.variables bounded in
      rw (all, bounded, all_limited kept m sound parts g h narrow wide within limits) (difference_order kept m sound parts g h narrow wide within limits)

  same_rows_narrowing : (g h : Ranges) → SoundRanges m.variables g → SoundRanges m.variables h → Within m.variables g h → T (le (outward_gap kept m h) (outward_gap kept m g))
  same_rows_narrowing g h narrow wide within = elim (gap_ways h) [
    | inl t ↦ order_where_limited g h narrow wide within t.0 t.1
    | inr e ↦ subst (λ (x : Float). T (le x (outward_gap kept m g))) (sym e) (le_bottom (outward_gap kept m g) (outward_shape kept m g sound narrow).no_nan)
  ]

-- ---- equal rows and multipliers: g is the narrower, h the wider
pub narrowing : (kept other : KeptRows) (m n : Rows) (g h : Ranges) → SoundRows m → SoundRanges m.variables g → SoundRanges m.variables h
    → SameRows m n → SameKept m.count kept other → Within m.variables g h → T (le (outward_gap other n h) (outward_gap kept m g))
narrowing kept other m n g h sound narrow wide rows same within =
    subst (λ (x : Float). T (le x (outward_gap kept m g))) (gap_same kept other m n sound rows same h) (same_rows_narrowing kept m sound g h narrow wide within)
