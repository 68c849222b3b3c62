-- The outward gap of the lists that are written of an accepted sheet is the sheet's. Assumes nothing.
use native.Mathlib.Omega.{arith}
use mathlib.Core.Path.{◌≡◌, refl, ap, ap₂, sym, ◌∙◌}
use mathlib.Core.Bool.{Bool, true, false}
use mathlib.Core.List.{List}
use Prim.Native.Nat.{ℕ, ◌+◌, ◌<◌, ◌≤◌}
use borrow.Author.Tests.{eqb-true}
use lib.Dec.{eqb}
use lib.ListN.{length, get_or}
use lib.Ieee.{Float, nan, eq}
use Rattle.loops.specs.Listed.{listed}
use Rattle.loops.proofs.Listed.{length-listed, listed_at}
use Rattle.cdouble.specs.Compensated.{plus_zero}
use Rattle.questions.specs.Limits.{most_rows, most_variables}
use Rattle.questions.specs.Rows.{RowsLie, slack_of}
use Rattle.sheet.specs.Sheet.{Sheet, variables}
use Rattle.sheet.specs.Answers.{Accepted}
use Rattle.sheet.proofs.Accepted.{AllYes, all_yes, sizes_hold}
use Rattle.sheet.proofs.Consequences.{by_row, by_variable}
use Rattle.edges.specs.Model.{model_with}
use Rattle.edges.specs.Edges.{edge, leaving_variable}
use Rattle.edges.specs.Ranges.{range_end}
use Rattle.multipliers.specs.declared.weighing.Multiplier.{Multiplier}
use Rattle.multipliers.specs.declared.weighing.Multiplier.TheVariants.{Dropped}
use Rattle.certificate.specs.System.{system_of, right_side_at, row_columns, row_entries}
use Rattle.certificate.proofs.Readable.{lie}
use Rattle.kept.specs.Kept.{certificate_of}
use Rattle.gaps.specs.Rows.{Rows, Ranges, kept_of, rows_of, ranges_in}
use Rattle.gaps.specs.Steps.{cl, cu, skipped, outward_gap}
use Rattle.verdict.proofs.Uncontained.{uncontained}
use Rattle.outward_gap.proofs.Congruence.{gap_same}

skips_zero : skipped plus_zero plus_zero ≡ true
unfolding eq
skips_zero = refl

module _ (s : Sheet) (accepted : Accepted s) where
  all : AllYes s
  all = all_yes s accepted

  pub few_variables : variables s ≤ most_variables
  few_variables =
      let h = sizes_hold s.rows s.structurals s.entry_count all.sizes_are_fine in
      omega (arith, h.rows_most, h.structurals_most)

  pub few_rows : s.rows ≤ most_rows
  few_rows = (sizes_hold s.rows s.structurals s.entry_count all.sizes_are_fine).rows_most

  pub rho_same : length s.rho_lo ≡ length s.rho_hi
  rho_same = let h = by_row s all in h.rho_lo_long ∙ sym h.rho_hi_long

  pub places_same : length s.places ≡ length s.basic
  places_same = let h = by_variable s all in h.places_long ∙ sym h.basic_long

  -- what a row's multiplier is worked out from
  pub row_read : (r : ℕ) → r < s.rows → (slack_of s.structurals r < length s.mins) × (slack_of s.structurals r < length s.maxs) × (r < length s.rho_hi) × (r < length s.rho_lo) × (r < length s.second)
  row_read r less =
      let row = by_row s all in
      let variable = by_variable s all in (
        omega (arith, variable.mins_long),
        omega (arith, variable.maxs_long),
        omega (arith, row.rho_hi_long),
        omega (arith, row.rho_lo_long),
        omega (arith, row.second_long),
      )

  pub rows_lie : RowsLie (length s.right_sides) (length s.columns) s.starts
  rows_lie =
      let row = by_row s all in
      let at = lie s accepted in
      record {
        long = at.long ∙ ap (λ (n : ℕ). n + 1) (sym row.right_sides_long);
        rises = λ r less. at.rises r (omega (arith, less, row.right_sides_long));
        inside = λ r less. omega (arith, at.inside r (omega (arith, less, row.right_sides_long)), row.columns_long);
      }

  pub entries_same : length s.entries ≡ length s.columns
  entries_same = let row = by_row s all in row.entries_long ∙ sym row.columns_long

  module _ {multipliers : List Multiplier} (list : multipliers ≡ listed s.rows (kept_of s)) where
    pub each_has : length multipliers ≡ length s.right_sides
    each_has = ap length list ∙ length-listed s.rows (kept_of s) ∙ sym (by_row s all).right_sides_long

    multiplier-is : (r : ℕ) → r < s.rows → get_or multipliers r Dropped ≡ kept_of s r
    multiplier-is r less = ap (λ (xs : List Multiplier). get_or xs r Dropped) list ∙ listed_at s.rows (kept_of s) Dropped r less

    -- so many rows over so many variables
    abbrev rows_with : ℕ → ℕ → Rows
    rows_with count n = record { count = count; variables = n; columns = row_columns (system_of s); entries = row_entries (system_of s); right_sides = right_side_at (system_of s) }

    module _ {leaving : ℕ} (leaves : leaving ≡ leaving_variable s) (terms : List ℕ)
        (counted : (v : ℕ) → v < variables s → get_or terms v 0 ≡ get_or (certificate_of s).lists_of.terms v 0) {widened said : ℕ → Bool → Bool} (same : widened ≡ said)
        {low high : List Float}
        (ends : (low ≡ listed (variables s) (range_end (model_with s widened) leaving terms false))
        × (high ≡ listed (variables s) (range_end (model_with s widened) leaving terms true))) where
      -- a variable that is not skipped has terms, so its range is written
      contained : (v : ℕ) → v < variables s → skipped (cl (kept_of s) (rows_of s) v) (cu (kept_of s) (rows_of s) v) ≡ false → eqb (get_or terms v 0) 0 ≡ false
      contained v less counts = go (eqb (get_or terms v 0) 0) refl
        where
          go : (t : Bool) → eqb (get_or terms v 0) 0 ≡ t → t ≡ false
          go false e = refl
          go true e =
              let zero = uncontained s v less (sym (counted v less) ∙ eqb-true (get_or terms v 0) 0 e) in
              sym skips_zero ∙ ap₂ skipped (sym zero.0) (sym zero.1) ∙ counts

      end_is : {xs : List Float} (up : Bool) → xs ≡ listed (variables s) (range_end (model_with s widened) leaving terms up) → (v : ℕ) → v < variables s
          → eqb (get_or terms v 0) 0 ≡ false → get_or xs v nan ≡ edge (model_with s said) (leaving_variable s) v up
      end_is up e v less has =
          ap (λ (xs : List Float). get_or xs v nan) e
          ∙ listed_at (variables s) (range_end (model_with s widened) leaving terms up) nan v less
          ∙ rw has (ap₂ (λ (w : ℕ → Bool → Bool) (u : ℕ). edge (model_with s w) u v up) same leaves)

      pub gap_is : {r : Float}
          → r ≡ outward_gap (λ r. get_or multipliers r Dropped) (rows_with (length s.right_sides) (length low)) (record { low = λ v. get_or low v nan; high = λ v. get_or high v nan })
          → r ≡ outward_gap (kept_of s) (rows_of s) (ranges_in (model_with s said) (leaving_variable s))
      gap_is e =
          let g : Ranges = record { low = λ v. get_or low v nan; high = λ v. get_or high v nan } in
          e
          ∙ ap₂ (λ (count n : ℕ). outward_gap (λ r. get_or multipliers r Dropped) (rows_with count n) g) (by_row s all).right_sides_long
          (ap length ends.0 ∙ length-listed (variables s) (range_end (model_with s widened) leaving terms false))
          ∙ gap_same (rows_of s) (λ r. get_or multipliers r Dropped) (kept_of s) multiplier-is g (ranges_in (model_with s said) (leaving_variable s))
          (λ v less counts. let has = contained v less counts in (end_is false ends.0 v less has, end_is true ends.1 v less has))
