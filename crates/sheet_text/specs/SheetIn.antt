-- The sheet that a text says: document 01, "The sheet". Assumes nothing.
use Rattle.std.specs.Prelude.{List, ◌∷◌, map, ℕ}
use mir.Val.{bool_byte}
use Rattle.questions.specs.Limits.{most_variables}
use Rattle.sheet.specs.declared.outputs.Outputs.{Outputs}
use Rattle.sheet.specs.Sheet.{Sheet, sheet}
use Rattle.text_lines.specs.declared.variable_lines.VariableLine.{VariableLine}
use Rattle.text_lines.specs.declared.row_items.Pair.{Pair}
use Rattle.text_lines.specs.declared.multiplier_lines.RhoLine.{RhoLine}
use Rattle.text_lists.specs.declared.row_lists.RowLine.{RowLine}
use Rattle.sheet_text.specs.Parts.{structural_lines_in, variable_lines_in, row_lines_in, pairs_in, widened_in, rho_lines_in}
use Rattle.sheet_text.specs.Form.{read_in}

-- what is lent for the certificate of a text: a place for every variable that a sheet may have
abbrev pub lent_outputs : Outputs
lent_outputs =
    record {
      high = most_variables;
      low = most_variables;
      magnitudes = most_variables;
      terms = most_variables;
      errors = most_variables;
    }

-- the sheet; a row's entries start where those of the row before end
unfoldable pub sheet_in : List ℕ → Sheet
sheet_in text =
    let read = read_in text in
    let variables = variable_lines_in text in
    let rows = row_lines_in text in
    let pairs = pairs_in text in
    let rhos = rho_lines_in text in
    sheet
    (record { rows = read.rows; structurals = read.structurals; entries = read.entries })
    read.feasibility
    read.checked
    read.leaving_row
    read.leaving_up
    lent_outputs
    (0 ∷ map (λ (row : RowLine). row.end) rows)
    (map (λ (item : Pair). item.column) pairs)
    (map (λ (item : Pair). item.entry) pairs)
    (map (λ (row : RowLine). row.right) rows)
    (map (λ (row : RowLine). row.scale) rows)
    (map (λ (line : VariableLine). bool_byte line.integer) (structural_lines_in text))
    (map (λ (line : VariableLine). line.min) variables)
    (map (λ (line : VariableLine). line.max) variables)
    (map (λ (line : VariableLine). line.low) variables)
    (map (λ (line : VariableLine). line.high) variables)
    (map (λ (line : VariableLine). bool_byte line.basic) variables)
    (map (λ (line : VariableLine). line.place) variables)
    (map (λ (line : VariableLine). line.value) variables)
    (widened_in text)
    (map (λ (line : RhoLine). line.hi) rhos)
    (map (λ (line : RhoLine). line.lo) rhos)
    (map (λ (line : RhoLine). line.second) rhos)
