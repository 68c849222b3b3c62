-- A number of the sheet and the word after it: document 01, "The sheet". Assumes nothing.
use Rattle.std.specs.Prelude.{ℕ, List, Option, Float}
use Rattle.text_items.specs.declared.words.Item.{Item}
use Rattle.text_items.specs.Words.{followed_by}
use Rattle.text_items.specs.Numbers.{double, count}

-- a double and the word after it: "One space between items", or what ends them
abbrev pub double_then : List ℕ → Option ℕ → List ℕ → Item Float
double_then text position word = followed_by text (double text position) word

-- a count and the word after it
abbrev pub count_then : List ℕ → Option ℕ → List ℕ → Item ℕ
count_then text position word = followed_by text (count text position) word
