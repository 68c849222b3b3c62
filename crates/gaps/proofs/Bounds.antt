-- cl, cu and the right side bound the exact coefficient and the exact combined right side, each on its side. Assumes nothing.
use mathlib.Core.Path.{◌≡◌, refl, sym, subst}
use mathlib.Core.Bool.{Bool, true, false, cond}
use mathlib.Core.List.{List}
use Prim.Native.Nat.{ℕ, ◌<◌}
use native.Mathlib.Omega.{arith}
use lib.IntN.{ℤ, pos, ◌+ℤ◌, ◌*ℤ◌, +ℤ_idl, +ℤ_idr, zero-*ℤ, *ℤ-zero}
use lib.Dec.{T, eqb}
use lib.ListN.{length, get_or}
use lib.Ieee.{Float, nan}
use lib.Ieee.Fits.{and_l, and_r}
use lib.Ieee.Scale.{finite}
use Rattle.exact.specs.Value.{exact}
use Rattle.exact.specs.Integers.{Σ<}
use Rattle.exact.proofs.Difference.{all, differences}
use Rattle.exact.proofs.Sums.{Σ-*}
use Rattle.cdouble.specs.declared.CDouble.{CDouble}
use Rattle.loops.specs.Places.{all_below}
use Rattle.loops.proofs.All.{all_at}
use Rattle.multipliers.specs.declared.weighing.Multiplier.{Multiplier}
use Rattle.multipliers.specs.declared.weighing.Multiplier.TheVariants.{Zeroed, Dropped, Kept}
use Rattle.gaps.specs.Rows.{Rows, KeptRows, finite_parts}
use Rattle.gaps.specs.Steps.{add_scaled, after_entries, with_row, coefficient_after, cl, cu, with_right_side, right_side}
use Rattle.gaps.specs.ExactGap.{multiplier, entry, coefficient, combined_right_side}
use Rattle.gaps.proofs.Sound.{SoundRows}
use Rattle.gaps.proofs.Sides.{Side, upward, downward, Bounds, sum, product, bounds_zero, bounds_product, bounds_sum, bounds_run}

-- hi and lo times a number are the multiplier times it
two_parts : (z h l a : ℤ) → z +ℤ h *ℤ a +ℤ l *ℤ a ≡ z +ℤ (h +ℤ l) *ℤ a
two_parts = all _ λ z z'. all _ λ h h'. all _ λ l l'. all _ λ a a'. simp differences (omega arith)

-- a row's k-th entry if it is in the variable v, and otherwise 0
abbrev entry_at : List ℕ → List Float → ℕ → ℕ → ℤ
entry_at columns entries v k = cond (eqb (get_or columns k 0) v) (exact (get_or entries k nan)) (pos 0)

module _ (s : Side) where
  -- ---- a kept row: its multiplier times a number, and its entries in the variable v
  module _ (y : CDouble) (f : T (finite y.hi)) (g : T (finite y.lo)) where
    bounds_scaled : (a c : Float) (z : ℤ) → T (finite a) → Bounds s 1074 z c → Bounds s 1074 (z +ℤ multiplier (Kept y) *ℤ exact a) (add_scaled (sum s) (product s) y a c)
    unfolding multiplier
    bounds_scaled a c z h C =
        subst (λ (w : ℤ). Bounds s 1074 w (add_scaled (sum s) (product s) y a c)) (two_parts z (exact y.hi) (exact y.lo) (exact a))
        (bounds_sum s 1074 _ _ _ _ (bounds_sum s 1074 _ _ _ _ C (bounds_product s y.hi a f h)) (bounds_product s y.lo a g h))

    -- an entry counts if it is in the variable
    either : (q : Bool) (a c : Float) (z : ℤ) → T (finite a) → Bounds s 1074 z c
        → Bounds s 1074 (z +ℤ multiplier (Kept y) *ℤ cond q (exact a) (pos 0)) (cond q (add_scaled (sum s) (product s) y a c) c)
    either true a c z h C = bounds_scaled a c z h C
    either false a c z h C = rw (*ℤ-zero (multiplier (Kept y)), +ℤ_idr z) C

    bounds_entries : (columns : List ℕ) (entries : List Float) (v n : ℕ) (c : Float) (z : ℤ) → ((k : ℕ) → k < n → T (finite (get_or entries k nan))) → Bounds s 1074 z c
        → Bounds s 1074 (z +ℤ multiplier (Kept y) *ℤ Σ< n (entry_at columns entries v)) (after_entries (sum s) (product s) y columns entries v n c)
    unfolding after_entries
    bounds_entries columns entries v n c z h C =
        rw (Σ-* (multiplier (Kept y)) n (entry_at columns entries v))
        (bounds_run s 1074 (λ k. after_entries (sum s) (product s) y columns entries v k c) (λ k. multiplier (Kept y) *ℤ entry_at columns entries v k) z n C
        (λ k less w W. either (eqb (get_or columns k 0) v) (get_or entries k nan) _ w (h k less) W))

  -- ---- a row by its place in the set: one that is not kept adds nothing
  by_place : (x z : ℤ) (c : Float) (after : Multiplier → Float) → Bounds s 1074 z c → ((y : CDouble) → after (Zeroed y) ≡ c) → after Dropped ≡ c
      → ((y : CDouble) → T (finite y.hi) → T (finite y.lo) → Bounds s 1074 (z +ℤ multiplier (Kept y) *ℤ x) (after (Kept y)))
      → (y : Multiplier) → T (finite_parts y) → Bounds s 1074 (z +ℤ multiplier y *ℤ x) (after y)
  unfolding finite_parts multiplier
  by_place x z c after C zeroed dropped kept (Zeroed y) parts = rw (zero-*ℤ x, +ℤ_idr z, zeroed y) C
  by_place x z c after C zeroed dropped kept Dropped parts = rw (zero-*ℤ x, +ℤ_idr z, dropped) C
  by_place x z c after C zeroed dropped kept (Kept y) parts = kept y (and_l (finite y.hi) (finite y.lo) parts) (and_r (finite y.hi) (finite y.lo) parts)

-- ---- the sums over the rows
pub parts_finite : (kept : KeptRows) (count : ℕ) → all_below count (λ r. finite_parts (kept r)) ≡ true → (r : ℕ) → r < count → T (finite_parts (kept r))
parts_finite kept count all r less = subst T (sym (all_at (λ r. finite_parts (kept r)) count all r less)) tt

module _ (kept : KeptRows) (m : Rows) (sound : SoundRows m) (parts : (r : ℕ) → r < m.count → T (finite_parts (kept r))) where
  bounds_coefficient : (s : Side) (v : ℕ) → Bounds s 1074 (coefficient kept m v) (coefficient_after (sum s) (product s) kept m v m.count)
  unfolding coefficient_after coefficient with_row entry
  bounds_coefficient s v =
      rw +ℤ_idl at
      (bounds_run s 1074 (coefficient_after (sum s) (product s) kept m v) (λ r. multiplier (kept r) *ℤ entry m r v) (pos 0) m.count (bounds_zero s 1074)
      (λ r less z C.
      let columns = m.columns r in
      let entries = m.entries r in
      let c = coefficient_after (sum s) (product s) kept m v r in
      by_place s (entry m r v) z c (λ y. with_row (sum s) (product s) y columns entries v c) C (λ y. refl) refl
      (λ y f g. bounds_entries s y f g columns entries v (length columns) c z (sound.entry-finite r less) C)
      (kept r) (parts r less)))

  pub right_side_bounds : Bounds downward 1074 (combined_right_side kept m) (right_side kept m m.count)
  unfolding right_side combined_right_side with_right_side
  right_side_bounds =
      rw +ℤ_idl at
      (bounds_run downward 1074 (right_side kept m) (λ r. multiplier (kept r) *ℤ exact (m.right_sides r)) (pos 0) m.count (bounds_zero downward 1074)
      (λ r less z C.
      let b = m.right_sides r in
      let c = right_side kept m r in
      by_place downward (exact b) z c (λ y. with_right_side y b c) C (λ y. refl) refl
      (λ y f g. bounds_scaled downward y f g b c z (sound.right_side-finite r less) C)
      (kept r) (parts r less)))

  pub cl_bounds : (v : ℕ) → Bounds downward 1074 (coefficient kept m v) (cl kept m v)
  cl_bounds = bounds_coefficient downward

  pub cu_bounds : (v : ℕ) → Bounds upward 1074 (coefficient kept m v) (cu kept m v)
  cu_bounds = bounds_coefficient upward
