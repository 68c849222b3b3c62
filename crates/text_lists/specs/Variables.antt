-- The lines of the variables: document 01, "The sheet". Assumes nothing.
use Rattle.std.specs.Prelude.{List, ℕ, Option}
use Rattle.repeats.specs.Counted.{run, after}
use Rattle.text_lines.specs.declared.variable_lines.VariableLine.{VariableLine}
use Rattle.text_lines.specs.VariableLines.{line_at}

-- the position after a variable's line
abbrev pub after_variable : VariableLine → Option ℕ
after_variable line = line.next

-- "how many var lines (structurals) and slack … lines (rows …)": the lines of the first `count` variables, from a position on
abbrev pub variable_lines : List ℕ → ℕ → ℕ → Option ℕ → List VariableLine
variable_lines text structurals count position = run (line_at text structurals) after_variable 0 count position

-- the position after them
abbrev pub variable_lines_end : List ℕ → ℕ → ℕ → Option ℕ → Option ℕ
variable_lines_end text structurals count position = after (line_at text structurals) after_variable 0 count position
