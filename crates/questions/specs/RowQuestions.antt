-- Document 01, "Questions put to the input": the fourth, the fifth and the sixth, put to the rows. A name that ends in At is the test at one
-- place. Assumes nothing.
use Rattle.std.specs.Prelude.{Bool, false, ◌&&◌, List, ℕ, ◌+◌, ◌-◌, leb, ltb, eqb, pos, length, get_or, Float}
use Rattle.std.specs.Float.{nan, fin}
use Rattle.std.specs.Float.Ieee.{eq}
use Rattle.loops.specs.Places.{all_below}
use Rattle.questions.specs.Questions.{all_finite}
use Rattle.questions.specs.Rows.{slack_of, part}

-- ---- 4. "Do row starts begin at 0, never fall, end at the entry count?"
abbrev pub rises_at : List ℕ → ℕ → Bool
rises_at starts r = leb (get_or starts r 0) (get_or starts (r + 1) 0)

unfoldable pub starts_fine : ℕ → ℕ → List ℕ → Bool
starts_fine rows entries starts = eqb (get_or starts 0 0) 0 && all_below rows (rises_at starts) && eqb (get_or starts rows 0) entries

-- ---- 5. "Are each row's columns strictly ascending, structural but for the last, …
abbrev pub column_fine_at : ℕ → List ℕ → ℕ → Bool
column_fine_at structurals columns k = ltb (get_or columns k 0) structurals && ltb (get_or columns k 0) (get_or columns (k + 1) 0)

-- … which must be there and is its own slack (structural count + row)?", of one row's columns
unfoldable pub row_columns_fine : ℕ → ℕ → List ℕ → Bool
row_columns_fine structurals slack columns =
    leb 1 (length columns)
    && all_below (length columns - 1) (column_fine_at structurals columns)
    && eqb (get_or columns (length columns - 1) 0) slack

-- of all rows
abbrev pub row_columns_fine_at : ℕ → List ℕ → List ℕ → ℕ → Bool
row_columns_fine_at structurals starts columns r = row_columns_fine structurals (slack_of structurals r) (part starts r columns)

unfoldable pub columns_fine : ℕ → ℕ → List ℕ → List ℕ → Bool
columns_fine rows structurals starts columns = all_below rows (row_columns_fine_at structurals starts columns)

-- ---- 6. "Are entries and right sides finite, slack entries 1?" A row's slack entry is its last
unfoldable pub slack_entry_fine : List Float → Bool
slack_entry_fine entries = eq (get_or entries (length entries - 1) nan) (fin false 1 (pos 0))

abbrev pub slack_entry_fine_at : List ℕ → List Float → ℕ → Bool
slack_entry_fine_at starts entries r = slack_entry_fine (part starts r entries)

unfoldable pub entries_fine : ℕ → List ℕ → List Float → List Float → Bool
entries_fine rows starts entries right_sides = all_finite entries && all_finite right_sides && all_below rows (slack_entry_fine_at starts entries)
