-- The lines that name a side, each read at a position: document 01, "The sheet". Assumes nothing.
use Rattle.std.specs.Prelude.{ℕ, List, Bool, Option, is_none}
use Rattle.text_items.specs.Text.{bytes}
use Rattle.text_items.specs.Words.{expect, either}
use Rattle.text_items.specs.Items.{count_then}
use Rattle.text_lines.specs.declared.sided_lines.SidedLine.{SidedLine}

-- "`(widened J up)` or `down` lines follow the rows": whether none stands at a position
abbrev pub no_widened : List ℕ → Option ℕ → Bool
no_widened text position = is_none (expect text position (bytes "(widened "))

-- a word, a count, and `up` or `down`
unfoldable pub sided_line : List ℕ → Option ℕ → List ℕ → SidedLine
sided_line text position word =
    let number = count_then text (expect text position word) (bytes " ") in
    let up = either text number.next (bytes "up)\n") (bytes "down)\n") in
    record { number = number.value; up = up.value; next = up.next }

-- one such line: the variable, and whether the side is up
abbrev pub widened_line : List ℕ → Option ℕ → SidedLine
widened_line text position = sided_line text position (bytes "(widened ")

-- "leave: leaving row, direction"
abbrev pub leave_line : List ℕ → Option ℕ → SidedLine
leave_line text position = sided_line text position (bytes "(leave ")
