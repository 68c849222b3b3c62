-- The widened lines: document 01, "The sheet". Assumes nothing.
use Rattle.std.specs.Prelude.{List, ℕ, Option}
use mir.Val.{bool_byte}
use Rattle.repeats.specs.Chained.{chain, chain_end}
use Rattle.questions.specs.declared.widened.Widened.{Widened}
use Rattle.text_items.specs.Words.{most_bytes}
use Rattle.text_lines.specs.declared.sided_lines.SidedLine.{SidedLine}
use Rattle.text_lines.specs.SidedLines.{no_widened, widened_line}

-- the position after a widened line
abbrev pub after_widened : SidedLine → Option ℕ
after_widened line = line.next

-- "`(widened J up)` or `down` lines follow the rows": as many as stand at a position; a text has room for fewer than it may have bytes
abbrev pub widened_lines : List ℕ → Option ℕ → List SidedLine
widened_lines text position = chain (no_widened text) (widened_line text) after_widened most_bytes position

-- the position after them
abbrev pub widened_lines_end : List ℕ → Option ℕ → Option ℕ
widened_lines_end text position = chain_end (no_widened text) (widened_line text) after_widened most_bytes position

-- the item that a line names: "a list of variable-and-side records"
abbrev pub item : SidedLine → Widened
item line = record { variable = line.number; up = bool_byte line.up }
