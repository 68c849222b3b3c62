-- Document 01's example sheet, line by line, and what is unfolded to read it by computation. Assumes nothing.
use mathlib.Core.List.{List, ◌++◌}
use Prim.Native.Nat.{ℕ}
use Rattle.std.specs.Prelude.{⊤}
use lib.Ieee.{Float, binary64, of_bits}
use Rattle.repeats.specs.Counted.{run, after, gather}
use Rattle.repeats.specs.Chained.{chain, chain_end}
use Rattle.text_items.specs.Text.{bytes}
use Rattle.text_items.specs.Numbers.{digit_at, digits, at_least_one, number, double}
use Rattle.text_items.specs.Words.{expect, either}
use Rattle.text_lines.specs.Heading.{heading}
use Rattle.text_lines.specs.VariableLines.{place_if, variable_from, var_line, slack_line, line_at}
use Rattle.text_lines.specs.RowLines.{row_head, pair}
use Rattle.text_lines.specs.SidedLines.{sided_line}
use Rattle.text_lines.specs.MultiplierLines.{multipliers_line, second_if, rho_line}
use Rattle.text_lists.specs.Rows.{pairs_reached, row_pairs, row_line}
use Rattle.sheet_text.specs.Parts.{structural_lines_in, variable_lines_in, row_lines_in, pairs_in, widened_in, rho_lines_in}
use Rattle.sheet_text.specs.Parts.{rows_from, rows_reached_in, widened_end_in, multipliers_in, leave_in}
use Rattle.sheet_text.specs.Form.{read_in, follows_form}
use Rattle.sheet_text.specs.SheetIn.{sheet_in}

abbrev pub sizes : List ℕ
sizes = bytes "(sheet 1 1)\n"

abbrev pub feasible : List ℕ
feasible = bytes "(feasibility 0)\n"

abbrev pub variable : List ℕ
variable = bytes "(var i 0 3FF0000000000000 0 0 (nonbasic 3FF0000000000000))\n"

abbrev pub slack : List ℕ
slack = bytes "(slack 0 0 0 0 (basic 0 4000000000000000))\n"

abbrev pub row : List ℕ
row = bytes "(row 4008000000000000 3FF0000000000000 (0 3FF0000000000000) (1 3FF0000000000000))\n"

abbrev pub unchecked : List ℕ
unchecked = bytes "(multipliers unchecked)\n"

abbrev pub rho : List ℕ
rho = bytes "(rho 3FF0000000000000 0)\n"

abbrev pub leave : List ℕ
leave = bytes "(leave 0 down)\n"

abbrev pub text : List ℕ
text = sizes ++ feasible ++ variable ++ slack ++ row ++ unchecked ++ rho ++ leave

-- the doubles on it, by their bits
abbrev pub zero : Float
zero = of_bits binary64 0

abbrev pub one : Float
one = of_bits binary64 0x3FF0000000000000

abbrev pub two : Float
two = of_bits binary64 0x4000000000000000

abbrev pub three : Float
three = of_bits binary64 0x4008000000000000

-- what is unfolded to read a line, the lists, and a whole text
unfoldable pub line_on_literals : ⊤
unfolding digit_at digits at_least_one number double expect either heading place_if variable_from var_line slack_line line_at row_head pair sided_line multipliers_line second_if rho_line
line_on_literals = tt

unfoldable pub lists_on_literals : ⊤
unfolding run after gather chain chain_end pairs_reached row_line row_pairs structural_lines_in variable_lines_in row_lines_in pairs_in widened_in rho_lines_in
lists_on_literals = tt

unfoldable pub sheet_on_literals : ⊤
unfolding line_on_literals lists_on_literals rows_from rows_reached_in widened_end_in multipliers_in leave_in read_in sheet_in follows_form
sheet_on_literals = tt
