-- The words of the sheet: document 01, "The sheet". A word is read at a position of the text's bytes, and comes with the position after it.
-- What does not follow the form has no position after it: whatever is read next has none either. Assumes nothing.
use Rattle.std.specs.Prelude.{ℕ, ◌+◌, List, Bool, true, false, cond, Option, None, Some, is_some, length, drop, eqb}
use Rattle.std.specs.List.{starts_with}
use Rattle.text_items.specs.declared.words.Item.{Item}

-- "in at most 65,536 bytes"
abbrev pub most_bytes : ℕ
most_bytes = 65536

-- the position after a word whose bytes stand there, one after the other
unfoldable pub expect : List ℕ → Option ℕ → List ℕ → Option ℕ
expect text None word = None
expect text (Some position) word = cond (starts_with eqb (drop position text) word) (Some (position + length word)) None

-- an item and the word after it
abbrev pub followed_by : {A : Type 0} → List ℕ → Item A → List ℕ → Item A
followed_by text item word = record { value = item.value; next = expect text item.next word }

-- one of two words: whether it is the first
unfoldable pub either : List ℕ → Option ℕ → List ℕ → List ℕ → Item Bool
either text position first second =
    cond (is_some (expect text position first))
    (record { value = true; next = expect text position first })
    (record { value = false; next = expect text position second })
