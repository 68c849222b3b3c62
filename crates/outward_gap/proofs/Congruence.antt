-- The outward gap sees of a set of kept rows what it has for the rows, and of ranges what they have for the variables that are not skipped. Assumes
-- nothing.
use native.Mathlib.Omega.{arith}
use mathlib.Core.Path.{◌≡◌, refl, ap, ap₂, ◌∙◌}
use mathlib.Core.Bool.{Bool, true, false, cond, ◌&&◌}
use Prim.Native.Nat.{ℕ, zero, suc, ◌<◌, ◌≤◌}
use native.Mathlib.Nat.{le_refl}
use lib.Ieee.{Float, inf}
use Rattle.doubles.specs.Directed.{sum_up, sum_down, product_up, product_down}
use Rattle.loops.proofs.All.{all_same}
use Rattle.multipliers.specs.declared.weighing.Multiplier.{Multiplier}
use Rattle.gaps.specs.Rows.{Rows, Ranges, KeptRows, finite_parts}
use Rattle.gaps.specs.Steps.{Operation, with_row, coefficient_after, cl, cu, skipped, limited, limited_at, with_term, largest, with_right_side, right_side, difference, outward_gap}

-- a variable that is skipped has its limit and its term whatever its range is
module _ (l u : Float) {low high low' high' : Float} where
  limited_unless_skipped : {t : Bool} → skipped l u ≡ t → (t ≡ false → (low ≡ low') × (high ≡ high')) → limited l u low high ≡ limited l u low' high'
  unfolding limited
  limited_unless_skipped {t = true} e ends = rw e refl
  limited_unless_skipped {t = false} e ends = ap₂ (λ (x y : Float). limited l u x y) (ends refl).0 (ends refl).1

  with_term_unless_skipped : (sum : Float) {t : Bool} → skipped l u ≡ t → (t ≡ false → (low ≡ low') × (high ≡ high')) → with_term l u low high sum ≡ with_term l u low' high' sum
  unfolding with_term
  with_term_unless_skipped sum {t = true} e ends = rw e refl
  with_term_unless_skipped sum {t = false} e ends = ap₂ (λ (x y : Float). with_term l u x y sum) (ends refl).0 (ends refl).1

module _ (m : Rows) (kept other : KeptRows) (same : (r : ℕ) → r < m.count → kept r ≡ other r) where
  coefficient_same : (sum product : Operation) (v n : ℕ) → n ≤ m.count → coefficient_after sum product kept m v n ≡ coefficient_after sum product other m v n
  unfolding coefficient_after
  coefficient_same sum product v zero within = refl
  coefficient_same sum product v (suc n) within =
      ap₂ (λ (y : Multiplier) (c : Float). with_row sum product y (m.columns n) (m.entries n) v c) (same n within) (coefficient_same sum product v n (omega arith))

  cl_same : (v : ℕ) → cl kept m v ≡ cl other m v
  cl_same v = coefficient_same sum_down product_down v m.count (le_refl m.count)

  cu_same : (v : ℕ) → cu kept m v ≡ cu other m v
  cu_same v = coefficient_same sum_up product_up v m.count (le_refl m.count)

  right_side_same : (n : ℕ) → n ≤ m.count → right_side kept m n ≡ right_side other m n
  unfolding right_side
  right_side_same zero within = refl
  right_side_same (suc n) within = ap₂ (λ (y : Multiplier) (b : Float). with_right_side y (m.right_sides n) b) (same n within) (right_side_same n (omega arith))

  -- ranges need to agree only where a variable is not skipped
  module _ (g h : Ranges) (ends : (v : ℕ) → v < m.variables → skipped (cl other m v) (cu other m v) ≡ false → (g.low v ≡ h.low v) × (g.high v ≡ h.high v)) where
    limited_same : (v : ℕ) → v < m.variables → limited_at (cl kept m) (cu kept m) g v ≡ limited_at (cl other m) (cu other m) h v
    limited_same v less =
        ap₂ (λ (l u : Float). limited l u (g.low v) (g.high v)) (cl_same v) (cu_same v) ∙ limited_unless_skipped (cl other m v) (cu other m v) refl (ends v less)

    largest_same : (n : ℕ) → n ≤ m.variables → largest (cl kept m) (cu kept m) g n ≡ largest (cl other m) (cu other m) h n
    unfolding largest
    largest_same zero within = refl
    largest_same (suc n) within =
        ap₂ (λ (l u : Float). with_term l u (g.low n) (g.high n) (largest (cl kept m) (cu kept m) g n)) (cl_same n) (cu_same n)
        ∙ ap (with_term (cl other m n) (cu other m n) (g.low n) (g.high n)) (largest_same n (omega arith))
        ∙ with_term_unless_skipped (cl other m n) (cu other m n) (largest (cl other m) (cu other m) h n) refl (ends n within)

    pub gap_same : outward_gap kept m g ≡ outward_gap other m h
    unfolding outward_gap
    gap_same =
        λ i.
        cond (all_same (λ r. finite_parts (kept r)) (λ r. finite_parts (other r)) m.count (λ r less. ap finite_parts (same r less)) i
        && all_same (limited_at (cl kept m) (cu kept m) g) (limited_at (cl other m) (cu other m) h) m.variables limited_same i)
        (difference (right_side_same m.count (le_refl m.count) i) (largest_same m.variables (le_refl m.variables) i))
        (inf true)
