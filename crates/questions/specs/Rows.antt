-- The parts of the lent slices that belong to a row, and what row starts come to where the fourth question's answer is yes. Assumes nothing.
use Rattle.std.specs.Prelude.{◌≡◌, List, ℕ, ◌+◌, ◌-◌, ◌≤◌, ◌<◌, length, get_or, take, drop}

-- "its own slack (structural count + row)"
abbrev pub slack_of : ℕ → ℕ → ℕ
slack_of structurals row = structurals + row

-- "the part of the entries from its start to its end", of a list that goes row after row
unfoldable pub part : {A : Type 0} → List ℕ → ℕ → List A → List A
part starts row xs = take (get_or starts (row + 1) 0 - get_or starts row 0) (drop (get_or starts row 0) xs)

-- each row's part lies within lists of n columns or entries
pub record RowsLie (rows n : ℕ) (starts : List ℕ) : Type 0 where
  pub long : length starts ≡ rows + 1
  pub rises : (r : ℕ) → r < rows → get_or starts r 0 ≤ get_or starts (r + 1) 0
  pub inside : (r : ℕ) → r < rows → get_or starts (r + 1) 0 ≤ n
