-- A variable that no kept row contains: the certificate counts no term of it, and both ends of its coefficient are 0. Assumes nothing.
use native.Mathlib.Omega.{arith}
use mathlib.Core.Path.{◌≡◌, refl, ◌∙◌}
use mathlib.Core.List.{List}
use Prim.Native.Nat.{ℕ, zero, suc, ◌<◌}
use lib.ListN.{length, get_or}
use lib.Ieee.{Float}
use Rattle.doubles.specs.Directed.{sum_up, sum_down, product_up, product_down}
use Rattle.cdouble.specs.declared.CDouble.{CDouble}
use Rattle.cdouble.specs.Compensated.{plus_zero}
use Rattle.sheet.specs.Sheet.{Sheet, variables}
use Rattle.multipliers.specs.declared.weighing.Multiplier.{Multiplier}
use Rattle.multipliers.specs.declared.weighing.Multiplier.TheVariants.{Zeroed, Dropped, Kept}
use Rattle.certificate.specs.System.{System, multiplier_at, row_columns, row_entries, system_of}
use Rattle.certificate.proofs.Uncounted.{Free, Others, all_free}
use Rattle.kept.specs.Kept.{certificate_of}
use Rattle.gaps.specs.Rows.{kept_of, rows_in, rows_of}
use Rattle.gaps.specs.Steps.{Operation, after_entries, with_row, coefficient_after, cl, cu}

-- ---- a row without v adds nothing to an end of its coefficient
module _ (y : CDouble) (columns : List ℕ) (entries : List Float) (v : ℕ) where
  nothing_added : (sum product : Operation) (n : ℕ) (c : Float) → Others columns v n → after_entries sum product y columns entries v n c ≡ c
  unfolding after_entries
  nothing_added sum product zero c others = refl
  nothing_added sum product (suc n) c others =
      rw (others n (omega arith)) (nothing_added sum product n c (λ k less. others k (omega arith)))

row_adds_nothing : (sum product : Operation) (m : Multiplier) (columns : List ℕ) (entries : List Float) (v : ℕ) (c : Float) → Free m columns v → with_row sum product m columns entries v c ≡ c
unfolding with_row
row_adds_nothing sum product (Zeroed y) columns entries v c free = refl
row_adds_nothing sum product Dropped columns entries v c free = refl
row_adds_nothing sum product (Kept y) columns entries v c free = nothing_added y columns entries v sum product (length columns) c free

-- ---- the rows
module _ (m : System) (rows count v : ℕ) (sum product : Operation) where
  rows_add_nothing : (n : ℕ) → ((r : ℕ) → r < n → Free (multiplier_at m r) (row_columns m r) v) → coefficient_after sum product (multiplier_at m) (rows_in m rows count) v n ≡ plus_zero
  unfolding coefficient_after
  rows_add_nothing zero free = refl
  rows_add_nothing (suc n) free =
      row_adds_nothing sum product (multiplier_at m n) (row_columns m n) (row_entries m n) v (coefficient_after sum product (multiplier_at m) (rows_in m rows count) v n)
      (free n (omega arith))
      ∙ rows_add_nothing n (λ r less. free r (omega arith))

-- of a sheet
pub uncontained : (s : Sheet) (v : ℕ) → v < variables s → get_or (certificate_of s).lists_of.terms v 0 ≡ 0 → (cl (kept_of s) (rows_of s) v ≡ plus_zero) × (cu (kept_of s) (rows_of s) v ≡ plus_zero)
unfolding certificate_of
uncontained s v less none =
    let ends = λ (sum product : Operation).
    rows_add_nothing (system_of s) s.rows (variables s) v sum product s.rows (all_free (system_of s) s.rows (variables s) v less none) in
    (ends sum_down product_down, ends sum_up product_up)
