-- A row of the sheet by itself. Assumes nothing.
use Rattle.std.specs.Prelude.{List, ℕ, get_or, Float}
use Rattle.std.specs.Float.{nan}
use Rattle.questions.specs.Rows.{part}
use Rattle.edges.specs.declared.rows.Row.{Row as RowSlices}

pub record Row : Type 0 where
  pub right_side : Float
  pub scale : Float
  pub columns : List ℕ
  pub entries : List Float

-- the row r of lists that go row after row
abbrev pub row_at : List ℕ → List ℕ → List Float → List Float → List Float → ℕ → Row
row_at starts columns entries right_sides scales r =
    record { right_side = get_or right_sides r nan; scale = get_or scales r nan; columns = part starts r columns; entries = part starts r entries }

-- a row as it is lent
abbrev pub lent_row : RowSlices → Row
lent_row r = record { right_side = r.right_side; scale = r.scale; columns = r.columns.now; entries = r.entries.now }
