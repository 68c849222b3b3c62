-- How far a list was read: the count and the position that its loop ends with, together; and a row's end counts its pairs. Assumes nothing.
use mathlib.Core.Path.{◌≡◌, refl, ap, ◌∙◌}
use mathlib.Core.List.{List}
use Prim.Native.Nat.{ℕ, ◌+◌}
use Rattle.std.specs.Prelude.{Option}
use native.Mathlib.Omega.{arith}
use lib.ListN.{length}
use Rattle.repeats.proofs.Gathers.{gather_counts}
use Rattle.text_lists.specs.declared.row_lists.Reached.{Reached}
use Rattle.text_lists.specs.declared.row_lists.RowLine.{RowLine}
use Rattle.text_lists.specs.Rows.{pairs, pairs_end, pairs_reached, row_pairs, row_line, row_at, after_row, pairs_at, no_pair_yet, rows_pairs, rows_reached}

pub pairs_reached_lem : (text : List ℕ) (first : ℕ) (position : Option ℕ) {count : ℕ} {next : Option ℕ} → count ≡ first + length (pairs text first position)
    → next ≡ pairs_end text first position → record { count = count; next = next } ≡ pairs_reached text first position
unfolding pairs_reached
pairs_reached_lem text first position h e = rw (h, e)

-- a row's end is the number of pairs before it and its own
pub row_moves : (text : List ℕ) (first : ℕ) (position : Option ℕ) {row : RowLine} → row ≡ row_line text first position → row.end ≡ first + length (row_pairs text first position)
unfolding row_line row_pairs pairs_reached
row_moves text first position e = ap (λ (row : RowLine). row.end) e

-- the last row's end is the number of all pairs
pub rows-count : (text : List ℕ) (rows : ℕ) (position : Option ℕ) → (rows_reached text rows position).count ≡ length (rows_pairs text rows position)
rows-count text rows position =
    gather_counts (row_at text) after_row (pairs_at text) (λ (reached : Reached). reached.count) (λ i σ. row_moves text σ.count σ.next refl) 0 rows (no_pair_yet position)
    ∙ omega arith
