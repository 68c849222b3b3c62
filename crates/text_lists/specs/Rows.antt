-- The rows with their pairs: document 01, "The sheet". Assumes nothing.
use Rattle.std.specs.Prelude.{List, ℕ, Option, ◌+◌, ◌-◌, length}
use Rattle.repeats.specs.Counted.{run, after, gather}
use Rattle.repeats.specs.Chained.{chain, chain_end}
use Rattle.text_items.specs.Words.{most_bytes}
use Rattle.text_lines.specs.declared.row_items.Pair.{Pair}
use Rattle.text_lines.specs.RowLines.{no_pair, pair, row_head, row_end}
use Rattle.text_lists.specs.declared.row_lists.Reached.{Reached}
use Rattle.text_lists.specs.declared.row_lists.RowLine.{RowLine}

-- the position after a pair
abbrev pub after_pair : Pair → Option ℕ
after_pair item = item.next

-- "none or more pairs of column and entry": as many as stand at a position. Before them the sheet has `first`; in all it has fewer than a text may
-- have bytes
abbrev pub pairs : List ℕ → ℕ → Option ℕ → List Pair
pairs text first position = chain (no_pair text) (pair text) after_pair (most_bytes - first) position

-- the position after them
abbrev pub pairs_end : List ℕ → ℕ → Option ℕ → Option ℕ
pairs_end text first position = chain_end (no_pair text) (pair text) after_pair (most_bytes - first) position

-- how many pairs the sheet has up to them, and the position after them
unfoldable pub pairs_reached : List ℕ → ℕ → Option ℕ → Reached
pairs_reached text first position = record { count = first + length (pairs text first position); next = pairs_end text first position }

-- the pairs of a row whose line stands at a position
unfoldable pub row_pairs : List ℕ → ℕ → Option ℕ → List Pair
row_pairs text first position = pairs text first (row_head text position).next

-- "row: right side, scale, none or more pairs of column and entry"
unfoldable pub row_line : List ℕ → ℕ → Option ℕ → RowLine
row_line text first position =
    let head = row_head text position in
    let reached = pairs_reached text first head.next in
    record { right = head.right; scale = head.scale; end = reached.count; next = row_end text reached.next }

-- the i-th row, behind all that was read before it
abbrev pub row_at : List ℕ → ℕ → Reached → RowLine
row_at text i reached = row_line text reached.count reached.next

-- its pairs
abbrev pub pairs_at : List ℕ → Reached → List Pair
pairs_at text reached = row_pairs text reached.count reached.next

-- how far the sheet is read after a row
abbrev pub after_row : RowLine → Reached
after_row row = record { count = row.end; next = row.next }

-- how far it is read before the first: no pair yet
abbrev pub no_pair_yet : Option ℕ → Reached
no_pair_yet position = record { count = 0; next = position }

-- "row … lines (rows each, in row order)", from a position on
abbrev pub row_lines : List ℕ → ℕ → Option ℕ → List RowLine
row_lines text rows position = run (row_at text) after_row 0 rows (no_pair_yet position)

-- how many pairs they have, and the position after them
abbrev pub rows_reached : List ℕ → ℕ → Option ℕ → Reached
rows_reached text rows position = after (row_at text) after_row 0 rows (no_pair_yet position)

-- the pairs of all rows, row after row
abbrev pub rows_pairs : List ℕ → ℕ → Option ℕ → List Pair
rows_pairs text rows position = gather (row_at text) after_row (pairs_at text) 0 rows (no_pair_yet position)
