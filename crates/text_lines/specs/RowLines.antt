-- The parts of a row's line, each read at a position: document 01, "The sheet". Assumes nothing.
use Rattle.std.specs.Prelude.{ℕ, List, Bool, Option, is_none, Float}
use Rattle.text_items.specs.declared.words.Item.{Item}
use Rattle.text_items.specs.Text.{bytes}
use Rattle.text_items.specs.Words.{expect}
use Rattle.text_items.specs.Numbers.{double}
use Rattle.text_items.specs.Items.{double_then, count_then}
use Rattle.text_lines.specs.declared.row_items.RowHead.{RowHead}
use Rattle.text_lines.specs.declared.row_items.Pair.{Pair}

-- a row's "right side", the one place where one is read
abbrev pub right_side : List ℕ → Option ℕ → Item Float
right_side text position = double text position

-- "row: right side, scale", before its pairs
unfoldable pub row_head : List ℕ → Option ℕ → RowHead
row_head text position =
    let right = right_side text (expect text position (bytes "(row ")) in
    let scale = double text (expect text right.next (bytes " ")) in
    record { right = right.value; scale = scale.value; next = scale.next }

-- "none or more pairs": whether none stands at a position
abbrev pub no_pair : List ℕ → Option ℕ → Bool
no_pair text position = is_none (expect text position (bytes " ("))

-- one of the "pairs of column and entry", with the space before it
unfoldable pub pair : List ℕ → Option ℕ → Pair
pair text position =
    let column = count_then text (expect text position (bytes " (")) (bytes " ") in
    let entry = double_then text column.next (bytes ")") in
    record { column = column.value; entry = entry.value; next = entry.next }

-- a row's end: "every line ended by a newline byte"
abbrev pub row_end : List ℕ → Option ℕ → Option ℕ
row_end text position = expect text position (bytes ")\n")
