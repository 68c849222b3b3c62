-- The slices that a text was read into, cut to the lengths of its lists, hold these lists: for whoever puts the questions to them. Assumes nothing.
use mathlib.Core.Path.{◌≡◌, refl, sym, ap, ◌∙◌, subst}
use mathlib.Core.Bool.{true}
use mathlib.Core.List.{List, ◌∷◌, map}
use Prim.Native.Nat.{ℕ, ◌+◌, ◌≤◌}
use native.Mathlib.Omega.{arith}
use borrow.Author.Tests.{leb-true, eqb-true}
use lib.Dec.{leb, eqb}
use lib.ListN.{length, get_or, take}
use Rattle.std.specs.Prelude.{Option, None, Some}
use Rattle.loops.proofs.All.{and_left, and_right}
use Rattle.repeats.specs.Filled.{column, filled_from}
use Rattle.repeats.proofs.Fronts.{whole_front, behind_first}
use Rattle.text_items.specs.Words.{most_bytes}
use Rattle.text_lines.specs.declared.variable_lines.VariableLine.{VariableLine}
use Rattle.text_lines.specs.declared.row_items.Pair.{Pair}
use Rattle.text_lines.specs.declared.multiplier_lines.RhoLine.{RhoLine}
use Rattle.text_lists.specs.declared.row_lists.RowLine.{RowLine}
use Rattle.sheet_text.specs.Parts.{structural_lines_in, variable_lines_in, row_lines_in, pairs_in, rho_lines_in}
use Rattle.sheet_text.specs.Form.{form_met, read_in, follows_form}
use Rattle.sheet_text.proofs.Lengths.{structurals_long, variables-long, rows_long, pairs-long, rhos_long}

-- cut to the length n of the list
cut : {R A : Type 0} (f : R → A) (things : List R) (before : List A) (n : ℕ) → length things ≡ n → n ≤ length before → take n (column f things before) ≡ map f things
cut f things before n e h =
    ap (λ (k : ℕ). take k (column f things before)) (sym e) ∙ whole_front f things before (subst (λ (k : ℕ). k ≤ length before) (sym e) h)

module _ (text : List ℕ) where
  -- the flags of the structural variables
  pub structurals_cut : {A : Type 0} (f : VariableLine → A) (before : List A) → (read_in text).structurals ≤ length before
      → take (read_in text).structurals (column f (structural_lines_in text) before) ≡ map f (structural_lines_in text)
  structurals_cut f before h = cut f (structural_lines_in text) before (read_in text).structurals (structurals_long text) h

  -- what goes by variables
  pub variables_cut : {A : Type 0} (f : VariableLine → A) (before : List A) → (read_in text).structurals + (read_in text).rows ≤ length before
      → take ((read_in text).structurals + (read_in text).rows) (column f (variable_lines_in text) before) ≡ map f (variable_lines_in text)
  variables_cut f before h = cut f (variable_lines_in text) before ((read_in text).structurals + (read_in text).rows) (variables-long text) h

  -- what goes by rows
  pub rows_cut : {A : Type 0} (f : RowLine → A) (before : List A) → (read_in text).rows ≤ length before
      → take (read_in text).rows (column f (row_lines_in text) before) ≡ map f (row_lines_in text)
  rows_cut f before h = cut f (row_lines_in text) before (read_in text).rows (rows_long text) h

  -- the row starts, where the first place held 0
  pub starts_cut : (before : List ℕ) → (read_in text).rows + 1 ≤ length before → get_or before 0 0 ≡ 0
      → take ((read_in text).rows + 1) (filled_from 1 (λ (row : RowLine). row.end) (row_lines_in text) before) ≡ 0 ∷ map (λ (row : RowLine). row.end) (row_lines_in text)
  starts_cut before h z =
      ap (λ (k : ℕ). take (k + 1) (filled_from 1 (λ (row : RowLine). row.end) (row_lines_in text) before)) (sym (rows_long text))
      ∙ behind_first (λ (row : RowLine). row.end) (row_lines_in text) before 0 (subst (λ (k : ℕ). k + 1 ≤ length before) (sym (rows_long text)) h) z

  -- what goes by entries
  pub pairs_cut : {A : Type 0} (f : Pair → A) (before : List A) → (read_in text).entries ≤ length before
      → take (read_in text).entries (column f (pairs_in text) before) ≡ map f (pairs_in text)
  pairs_cut f before h = cut f (pairs_in text) before (read_in text).entries (pairs-long text) h

  -- the multipliers
  pub rhos_cut : {A : Type 0} (f : RhoLine → A) (before : List A) → (read_in text).rows ≤ length before
      → take (read_in text).rows (column f (rho_lines_in text) before) ≡ map f (rho_lines_in text)
  rhos_cut f before h = cut f (rho_lines_in text) before (read_in text).rows (rhos_long text) h

  -- what `follows_form` answers of the text's length and the position that was read is the first question's answer
  pub form_is : form_met (length text) (read_in text).next ≡ follows_form text
  unfolding follows_form
  form_is = refl

  -- a text that follows the form is short enough, and its last line ends where it does
  form_holds : (next : Option ℕ) → form_met (length text) next ≡ true → (length text ≤ most_bytes) × (next ≡ Some (length text))
  form_holds None e = let z : ◌≡◌ {A = ℕ} 0 1 = cc in absurd (omega arith)
  form_holds (Some n) e = (
    leb-true (length text) most_bytes (and_left (leb (length text) most_bytes) (eqb n (length text)) e),
    ap Some (eqb-true n (length text) (and_right (leb (length text) most_bytes) (eqb n (length text)) e)),
  )

  pub form_short : follows_form text ≡ true → length text ≤ most_bytes
  unfolding follows_form
  form_short e = (form_holds (read_in text).next e).0

  pub form_ends : follows_form text ≡ true → (read_in text).next ≡ Some (length text)
  unfolding follows_form
  form_ends e = (form_holds (read_in text).next e).1
