-- The line of a variable, read at a position: document 01, "The sheet". Assumes nothing.
use Rattle.std.specs.Prelude.{ℕ, List, Bool, false, cond, Option, ltb}
use Rattle.text_items.specs.declared.words.Item.{Item}
use Rattle.text_items.specs.Text.{bytes}
use Rattle.text_items.specs.Words.{expect, either}
use Rattle.text_items.specs.Items.{double_then, count_then}
use Rattle.text_lines.specs.declared.variable_lines.VariableLine.{VariableLine}

-- the place that stands where the variable is basic: "`basic` with place and value"; 0 for a nonbasic variable, which has none
unfoldable pub place_if : List ℕ → Option ℕ → Bool → Item ℕ
place_if text position basic =
    cond basic (count_then text position (bytes " ")) (record { value = 0; next = position })

-- "min, max, tolerances low and high, state (`nonbasic` with value, or `basic` with place and value)", after what says whether the variable
-- is integer
unfoldable pub variable_from : List ℕ → Option ℕ → Bool → VariableLine
variable_from text position integer =
    let min = double_then text position (bytes " ") in
    let max = double_then text min.next (bytes " ") in
    let low = double_then text max.next (bytes " ") in
    let high = double_then text low.next (bytes " ") in
    let basic = either text high.next (bytes "(basic ") (bytes "(nonbasic ") in
    let place = place_if text basic.next basic.value in
    let value = double_then text place.next (bytes "))\n") in
    record {
      integer = integer;
      min = min.value;
      max = max.value;
      low = low.value;
      high = high.value;
      basic = basic.value;
      place = place.value;
      value = value.value;
      next = value.next;
    }

-- "var: `i` integer or `r` real", then the rest
unfoldable pub var_line : List ℕ → Option ℕ → VariableLine
var_line text position =
    let integer = either text (expect text position (bytes "(var ")) (bytes "i ") (bytes "r ") in
    variable_from text integer.next integer.value

-- "slack: the same without the letter"; a slack is not integer
unfoldable pub slack_line : List ℕ → Option ℕ → VariableLine
slack_line text position = variable_from text (expect text position (bytes "(slack ")) false

-- the i-th variable's line: "how many var lines (structurals) and slack … lines (rows …) stand", in that order
unfoldable pub line_at : List ℕ → ℕ → ℕ → Option ℕ → VariableLine
line_at text structurals i position = cond (ltb i structurals) (var_line text position) (slack_line text position)
