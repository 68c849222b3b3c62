-- The lists of the code's `SheetLists`, each under its own name, and the lists after a text is read. Assumes nothing.
use Rattle.std.specs.Prelude.{List, ℕ}
use Rattle.text_lists.specs.VariablesLent.{VariableLists, SameSlices as SameVariables, lent_variables, with_variables}
use Rattle.text_lists.specs.Lent.{RowLists, SameRows, lent_rows, with_rows, RhoLists, SameRhos, lent_rhos, with_rhos}
use Rattle.sheet_text.specs.declared.lent.SheetLists.{SheetLists as Slices}
use Rattle.sheet_text.specs.Parts.{structural_lines_in, variable_lines_in, row_lines_in, pairs_in, rho_lines_in}

pub record SheetLists : Type 0 where
  pub variables : VariableLists
  pub rows : RowLists
  pub rhos : RhoLists

abbrev pub lent_lists : Slices → SheetLists
lent_lists l = record { variables = lent_variables l.variables; rows = lent_rows l.rows; rhos = lent_rhos l.rhos }

-- each list is lent by the same reference as before
pub record SameSlices (old new : Slices) : Type 0 where
  pub variables_same : SameVariables old.variables new.variables
  pub rows_same : SameRows old.rows new.rows
  pub rhos_same : SameRhos old.rhos new.rhos

-- all that a text says but its widened list, stored in the lists l
abbrev pub lists_in : List ℕ → SheetLists → SheetLists
lists_in text l =
    record {
      variables = with_variables (structural_lines_in text) (variable_lines_in text) l.variables;
      rows = with_rows (row_lines_in text) (pairs_in text) l.rows;
      rhos = with_rhos (rho_lines_in text) l.rhos;
    }
