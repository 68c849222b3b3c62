-- What a text says has the lengths that the third question asks for: where the second question's answer is yes, so is the third's. Assumes nothing.
use mathlib.Core.Path.{◌≡◌, sym, ap, ◌∙◌}
use mathlib.Core.Bool.{Bool, true, ◌&&◌}
use mathlib.Core.List.{List, map}
use Prim.Native.Nat.{ℕ, suc, ◌+◌, ◌≤◌}
use native.Mathlib.Numerals.{add-one}
use native.Mathlib.Omega.{arith}
use borrow.Author.Tests.{eq-eqb, le-leb}
use lib.Dec.{eqb}
use lib.ListN.{length, length-map}
use lib.Ieee.{Float}
use Rattle.questions.specs.Limits.{most_variables}
use Rattle.questions.specs.Questions.{sizes_fine}
use Rattle.sheet.specs.Lengths.{rows_fit, variables_fit, outputs_fit, lengths_fit, lengths_fine}
use Rattle.sheet.proofs.Accepted.{sizes_hold, RowsHold, VariablesHold}
use Rattle.repeats.proofs.Runs.{run_length}
use Rattle.text_lines.specs.Heading.{heading}
use Rattle.text_lines.specs.VariableLines.{line_at}
use Rattle.text_lists.specs.Variables.{after_variable}
use Rattle.text_lists.specs.Rows.{row_at, after_row}
use Rattle.text_lists.specs.Multipliers.{rho_at, after_rho}
use Rattle.text_lists.proofs.Reaching.{rows-count}
use Rattle.sheet_text.specs.Parts.{structural_lines_in, variable_lines_in, rows_from, row_lines_in, pairs_in, rows_reached_in, rho_lines_in}
use Rattle.sheet_text.specs.Form.{read_in}
use Rattle.sheet_text.specs.SheetIn.{lent_outputs, sheet_in}

-- ---- the answers from what they ask, over any lists
rows_do_fit : (rows n : ℕ) (starts columns : List ℕ) (entries right_sides scales rho_hi rho_lo second : List Float)
    → RowsHold rows n starts columns entries right_sides scales rho_hi rho_lo second → rows_fit rows n starts columns entries right_sides scales rho_hi rho_lo second ≡ true
unfolding rows_fit
rows_do_fit rows n starts columns entries right_sides scales rho_hi rho_lo second h =
    rw (
      eq-eqb _ _ h.starts_long,
      eq-eqb _ _ h.columns_long,
      eq-eqb _ _ h.entries_long,
      eq-eqb _ _ h.right_sides_long,
      eq-eqb _ _ h.scales_long,
      eq-eqb _ _ h.rho_hi_long,
      eq-eqb _ _ h.rho_lo_long,
      eq-eqb _ _ h.second_long,
    )

variables_do_fit : (count : ℕ) (mins maxs low high : List Float) (basic places : List ℕ) (values : List Float)
    → VariablesHold count mins maxs low high basic places values → variables_fit count mins maxs low high basic places values ≡ true
unfolding variables_fit
variables_do_fit count mins maxs low high basic places values h =
    rw (
      eq-eqb _ _ h.mins_long,
      eq-eqb _ _ h.maxs_long,
      eq-eqb _ _ h.low_long,
      eq-eqb _ _ h.high_long,
      eq-eqb _ _ h.basic_long,
      eq-eqb _ _ h.places_long,
      eq-eqb _ _ h.values_long,
    )

outputs_do_fit : (count : ℕ) → count ≤ most_variables → outputs_fit count lent_outputs ≡ true
unfolding outputs_fit
outputs_do_fit count h = rw (le-leb count most_variables h)

all_four : {a b c d : Bool} → a ≡ true → b ≡ true → c ≡ true → d ≡ true → (a && b && c && d) ≡ true
all_four h i j k = rw (h, i, j, k)

-- ---- how long the lists of a text are
pub as_long : {R A : Type 0} (f : R → A) (things : List R) {n : ℕ} → length things ≡ n → length (map f things) ≡ n
as_long f things e = rw length-map e

module _ (text : List ℕ) where
  pub structurals_long : length (structural_lines_in text) ≡ (read_in text).structurals
  unfolding structural_lines_in read_in
  structurals_long = run_length (line_at text (heading text).structurals) after_variable 0 (heading text).structurals (heading text).next

  pub variables-long : length (variable_lines_in text) ≡ (read_in text).structurals + (read_in text).rows
  unfolding variable_lines_in read_in
  variables-long = run_length (line_at text (heading text).structurals) after_variable 0 ((heading text).structurals + (heading text).rows) (heading text).next

  pub rows_long : length (row_lines_in text) ≡ (read_in text).rows
  unfolding row_lines_in read_in
  rows_long = run_length (row_at text) after_row 0 (heading text).rows _

  pub pairs-long : length (pairs_in text) ≡ (read_in text).entries
  unfolding pairs_in read_in rows_reached_in
  pairs-long = sym (rows-count text (heading text).rows (rows_from text))

  pub rhos_long : length (rho_lines_in text) ≡ (read_in text).rows
  unfolding rho_lines_in read_in
  rhos_long = run_length (rho_at text _) after_rho 0 (heading text).rows _

  rows_hold : RowsHold (sheet_in text).rows (sheet_in text).entry_count (sheet_in text).starts (sheet_in text).columns (sheet_in text).entries (sheet_in text).right_sides
      (sheet_in text).scales (sheet_in text).rho_hi (sheet_in text).rho_lo (sheet_in text).second
  unfolding sheet_in
  rows_hold =
      record {
        starts_long = ap suc (as_long _ (row_lines_in text) rows_long) ∙ sym (add-one (read_in text).rows);
        columns_long = as_long _ (pairs_in text) pairs-long;
        entries_long = as_long _ (pairs_in text) pairs-long;
        right_sides_long = as_long _ (row_lines_in text) rows_long;
        scales_long = as_long _ (row_lines_in text) rows_long;
        rho_hi_long = as_long _ (rho_lines_in text) rhos_long;
        rho_lo_long = as_long _ (rho_lines_in text) rhos_long;
        second_long = as_long _ (rho_lines_in text) rhos_long;
      }

  variables_hold : VariablesHold ((sheet_in text).structurals + (sheet_in text).rows) (sheet_in text).mins (sheet_in text).maxs (sheet_in text).low_tolerances
      (sheet_in text).high_tolerances (sheet_in text).basic (sheet_in text).places (sheet_in text).values
  unfolding sheet_in
  variables_hold =
      record {
        mins_long = as_long _ (variable_lines_in text) variables-long;
        maxs_long = as_long _ (variable_lines_in text) variables-long;
        low_long = as_long _ (variable_lines_in text) variables-long;
        high_long = as_long _ (variable_lines_in text) variables-long;
        basic_long = as_long _ (variable_lines_in text) variables-long;
        places_long = as_long _ (variable_lines_in text) variables-long;
        values_long = as_long _ (variable_lines_in text) variables-long;
      }

  integer_long : eqb (length (sheet_in text).integer) (sheet_in text).structurals ≡ true
  unfolding sheet_in
  integer_long = eq-eqb _ _ (as_long _ (structural_lines_in text) structurals_long)

  outputs_hold : sizes_fine (sheet_in text).rows (sheet_in text).structurals (sheet_in text).entry_count ≡ true
      → outputs_fit ((sheet_in text).structurals + (sheet_in text).rows) (sheet_in text).outputs ≡ true
  unfolding sheet_in
  outputs_hold e =
      let h = sizes_hold (read_in text).rows (read_in text).structurals (read_in text).entries e in
      outputs_do_fit _ (omega (arith, h.rows_most, h.structurals_most))

  -- the third question refuses no text: of any whose sizes are fine, its answer is yes
  pub lengths_are_fine : sizes_fine (sheet_in text).rows (sheet_in text).structurals (sheet_in text).entry_count ≡ true → lengths_fine (sheet_in text) ≡ true
  unfolding lengths_fit
  lengths_are_fine e =
      all_four (rows_do_fit _ _ _ _ _ _ _ _ _ _ rows_hold) (variables_do_fit _ _ _ _ _ _ _ _ variables_hold) integer_long (outputs_hold e)
