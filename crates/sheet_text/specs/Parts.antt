-- The parts of a text, "lines in the example's order": document 01, "The sheet". Each begins where the one before it ends. Assumes nothing.
use Rattle.std.specs.Prelude.{List, map, ℕ, ◌+◌, Bool, Option}
use mir.Val.{bool_byte}
use Rattle.questions.specs.declared.widened.Widened.{Widened}
use Rattle.text_items.specs.declared.words.Item.{Item}
use Rattle.text_lines.specs.declared.variable_lines.VariableLine.{VariableLine}
use Rattle.text_lines.specs.declared.row_items.Pair.{Pair}
use Rattle.text_lines.specs.declared.sided_lines.SidedLine.{SidedLine}
use Rattle.text_lines.specs.declared.multiplier_lines.RhoLine.{RhoLine}
use Rattle.text_lines.specs.Heading.{heading}
use Rattle.text_lines.specs.MultiplierLines.{multipliers_line}
use Rattle.text_lines.specs.SidedLines.{leave_line}
use Rattle.text_lists.specs.Variables.{variable_lines, variable_lines_end}
use Rattle.text_lists.specs.declared.row_lists.Reached.{Reached}
use Rattle.text_lists.specs.declared.row_lists.RowLine.{RowLine}
use Rattle.text_lists.specs.Rows.{row_lines, rows_reached, rows_pairs}
use Rattle.text_lists.specs.Widened.{item, widened_lines, widened_lines_end}
use Rattle.text_lists.specs.Multipliers.{rho_lines, rho_lines_end}

-- ---- "how many var lines (structurals) and slack … lines (rows …)": the lines of the structural variables, and of all variables
unfoldable pub structural_lines_in : List ℕ → List VariableLine
structural_lines_in text = let head = heading text in variable_lines text head.structurals head.structurals head.next

unfoldable pub variable_lines_in : List ℕ → List VariableLine
variable_lines_in text = let head = heading text in variable_lines text head.structurals (head.structurals + head.rows) head.next

-- ---- "row … lines (rows each, in row order)": where they begin, the lines, their pairs, and how far they reach
unfoldable pub rows_from : List ℕ → Option ℕ
rows_from text = let head = heading text in variable_lines_end text head.structurals (head.structurals + head.rows) head.next

unfoldable pub row_lines_in : List ℕ → List RowLine
row_lines_in text = row_lines text (heading text).rows (rows_from text)

unfoldable pub pairs_in : List ℕ → List Pair
pairs_in text = rows_pairs text (heading text).rows (rows_from text)

unfoldable pub rows_reached_in : List ℕ → Reached
rows_reached_in text = rows_reached text (heading text).rows (rows_from text)

-- ---- "`(widened J up)` or `down` lines follow the rows": their items in order, and the position after them
unfoldable pub widened_in : List ℕ → List Widened
widened_in text = map item (widened_lines text (rows_reached_in text).next)

unfoldable pub widened_end_in : List ℕ → Option ℕ
widened_end_in text = widened_lines_end text (rows_reached_in text).next

-- ---- whether the multipliers are checked, and the "rho lines (rows each, in row order)"
unfoldable pub multipliers_in : List ℕ → Item Bool
multipliers_in text = multipliers_line text (widened_end_in text)

unfoldable pub rho_lines_in : List ℕ → List RhoLine
rho_lines_in text = let checked = multipliers_in text in rho_lines text (bool_byte checked.value) (heading text).rows checked.next

-- ---- the leaving row's line, the last
unfoldable pub leave_in : List ℕ → SidedLine
leave_in text = let checked = multipliers_in text in leave_line text (rho_lines_end text (bool_byte checked.value) (heading text).rows checked.next)
