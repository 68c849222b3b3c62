-- The steps put together: the gap from what the calls gave. Assumes nothing.
use mathlib.Core.Path.{◌≡◌, refl, ap, ap₂, sym, ◌∙◌}
use mathlib.Core.Bool.{Bool, true, false, not, cond, or-true}
use mathlib.Core.List.{List}
use Prim.Native.Nat.{ℕ, ◌+◌, ◌<◌}
use borrow.Author.Tests.{not-true}
use lib.Ieee.{Float, nan, inf, eq}
use lib.ListN.{length}
use Rattle.loops.proofs.Listed.{length-listed, listed_at}
use Rattle.std.proofs.Common.{zero-add}
use Rattle.doubles.specs.Directed.{sum_up, sum_down, product_up, product_down}
use Rattle.cdouble.specs.Compensated.{plus_zero}
use Rattle.loops.specs.Places.{all_below}
use Rattle.gaps.specs.Rows.{Rows, Ranges, KeptRows, finite_parts}
use Rattle.gaps.specs.Steps.{Operation, coefficient_after, cl, cu, limited_at, largest, right_side, difference, outward_gap}
use Rattle.outward_gap.specs.Ends.{ends_of}
use Rattle.outward_gap.specs.LargestWalk.{at, largest_or_infinite}
use Rattle.outward_gap.proofs.LargestWalk.{whole_window}

module _ (kept : KeptRows) (m : Rows) (g : Ranges) where
  abbrev pub AllFinite : Bool
  AllFinite = all_below m.count (λ r. finite_parts (kept r))

  pub gap_infinite : {fine : Bool} → fine ≡ AllFinite → not fine ≡ true → inf true ≡ outward_gap kept m g
  unfolding outward_gap
  gap_infinite {fine} is t = rw (sym is ∙ not-true fine t) refl

  -- M is +infinity where a variable is not limited, and then the difference is −infinity
  either_way : (b : Bool)
      → difference (right_side kept m m.count) (cond b (largest (cl kept m) (cu kept m) g m.variables) (inf false))
      ≡ cond b (difference (right_side kept m m.count) (largest (cl kept m) (cu kept m) g m.variables)) (inf true)
  unfolding difference eq
  either_way true = refl
  either_way false = rw or-true refl

  -- the window of all variables begins at the first
  end_at : (sum product : Operation) (v : ℕ) → v < m.variables → at (ends_of sum product kept m 0 m.variables m.count) v ≡ coefficient_after sum product kept m v m.count
  end_at sum product v less =
      listed_at m.variables (λ k. coefficient_after sum product kept m (0 + k) m.count) nan v less
      ∙ ap (λ (k : ℕ). coefficient_after sum product kept m k m.count) (zero-add v)

  module _ {width : ℕ} {lower upper : List Float} (all : width ≡ m.variables)
      (ends : (lower ≡ ends_of sum_down product_down kept m 0 width m.count) × (upper ≡ ends_of sum_up product_up kept m 0 width m.count)) where
    largest_is : largest_or_infinite plus_zero (at lower) (at upper) g (length lower)
        ≡ cond (all_below m.variables (limited_at (cl kept m) (cu kept m) g)) (largest (cl kept m) (cu kept m) g m.variables) (inf false)
    largest_is =
        let low : lower ≡ ends_of sum_down product_down kept m 0 m.variables m.count = ends.0 ∙ ap (λ (n : ℕ). ends_of sum_down product_down kept m 0 n m.count) all in
        let high : upper ≡ ends_of sum_up product_up kept m 0 m.variables m.count = ends.1 ∙ ap (λ (n : ℕ). ends_of sum_up product_up kept m 0 n m.count) all in
        ap (largest_or_infinite plus_zero (at lower) (at upper) g) (ap length low ∙ length-listed m.variables (λ k. coefficient_after sum_down product_down kept m (0 + k) m.count))
        ∙ whole_window (at lower) (at upper) (cl kept m) (cu kept m) g m.variables
        (λ v less. (ap (λ (xs : List Float). at xs v) low ∙ end_at sum_down product_down v less, ap (λ (xs : List Float). at xs v) high ∙ end_at sum_up product_up v less))

    pub gap_reckoned : {b most r : Float} → AllFinite ≡ true → most ≡ largest_or_infinite plus_zero (at lower) (at upper) g (length lower)
        → b ≡ right_side kept m m.count → r ≡ difference b most → r ≡ outward_gap kept m g
    unfolding outward_gap
    gap_reckoned fine most sum e =
        rw fine (e ∙ ap₂ difference sum (most ∙ largest_is) ∙ either_way (all_below m.variables (limited_at (cl kept m) (cu kept m) g)))
