-- The lists of the code's `RowLists` and `RhoLists`, each under its own name, and the lists after lines are stored. Assumes nothing.
use Rattle.std.specs.Prelude.{◌≡◌, ◌+◌, set, List, ℕ, Float}
use Rattle.repeats.specs.Filled.{column, filled_from}
use Rattle.text_lines.specs.declared.row_items.Pair.{Pair}
use Rattle.text_lines.specs.declared.multiplier_lines.RhoLine.{RhoLine}
use Rattle.text_lists.specs.declared.lent.RowLists.{RowLists as RowSlices}
use Rattle.text_lists.specs.declared.lent.RhoLists.{RhoLists as RhoSlices}
use Rattle.text_lists.specs.declared.row_lists.RowLine.{RowLine}

-- ---- what goes by rows, and the entries of all rows
pub record RowLists : Type 0 where
  pub right_sides : List Float
  pub scales : List Float
  pub starts : List ℕ
  pub columns : List ℕ
  pub entries : List Float

abbrev pub lent_rows : RowSlices → RowLists
lent_rows l =
    record {
      right_sides = l.right_sides.now;
      scales = l.scales.now;
      starts = l.starts.now;
      columns = l.columns.now;
      entries = l.entries.now;
    }

-- each list is lent by the same reference as before
pub record SameRows (old new : RowSlices) : Type 0 where
  pub right_sides_is : new.right_sides.ghost_name ≡ old.right_sides.ghost_name
  pub scales_is : new.scales.ghost_name ≡ old.scales.ghost_name
  pub starts_is : new.starts.ghost_name ≡ old.starts.ghost_name
  pub columns_is : new.columns.ghost_name ≡ old.columns.ghost_name
  pub entries_is : new.entries.ghost_name ≡ old.entries.ghost_name

-- the i-th row's line stored: its end is where the row after it starts
abbrev pub with_row : ℕ → RowLine → RowLists → RowLists
with_row i row l =
    record {
      right_sides = set l.right_sides i row.right;
      scales = set l.scales i row.scale;
      starts = set l.starts (i + 1) row.end;
      columns = l.columns;
      entries = l.entries;
    }

-- a pair stored as the i-th entry
abbrev pub with_pair : ℕ → Pair → RowLists → RowLists
with_pair i item l =
    record {
      right_sides = l.right_sides;
      scales = l.scales;
      starts = l.starts;
      columns = set l.columns i item.column;
      entries = set l.entries i item.entry;
    }

-- pairs stored behind the first so many
abbrev pub with_pairs : ℕ → List Pair → RowLists → RowLists
with_pairs first items l =
    record {
      right_sides = l.right_sides;
      scales = l.scales;
      starts = l.starts;
      columns = filled_from first (λ (item : Pair). item.column) items l.columns;
      entries = filled_from first (λ (item : Pair). item.entry) items l.entries;
    }

-- the lines of all rows and the pairs of all stored; the first row's start stays as it is
abbrev pub with_rows : List RowLine → List Pair → RowLists → RowLists
with_rows rows items l =
    record {
      right_sides = column (λ (row : RowLine). row.right) rows l.right_sides;
      scales = column (λ (row : RowLine). row.scale) rows l.scales;
      starts = filled_from 1 (λ (row : RowLine). row.end) rows l.starts;
      columns = column (λ (item : Pair). item.column) items l.columns;
      entries = column (λ (item : Pair). item.entry) items l.entries;
    }

-- ---- the multipliers
pub record RhoLists : Type 0 where
  pub rho_hi : List Float
  pub rho_lo : List Float
  pub second : List Float

abbrev pub lent_rhos : RhoSlices → RhoLists
lent_rhos l = record { rho_hi = l.rho_hi.now; rho_lo = l.rho_lo.now; second = l.second.now }

-- each list is lent by the same reference as before
pub record SameRhos (old new : RhoSlices) : Type 0 where
  pub rho_hi_is : new.rho_hi.ghost_name ≡ old.rho_hi.ghost_name
  pub rho_lo_is : new.rho_lo.ghost_name ≡ old.rho_lo.ghost_name
  pub second_is : new.second.ghost_name ≡ old.second.ghost_name

-- the i-th row's line stored
abbrev pub with_rho : ℕ → RhoLine → RhoLists → RhoLists
with_rho i line l = record { rho_hi = set l.rho_hi i line.hi; rho_lo = set l.rho_lo i line.lo; second = set l.second i line.second }

-- the lines of all rows stored
abbrev pub with_rhos : List RhoLine → RhoLists → RhoLists
with_rhos lines l =
    record {
      rho_hi = column (λ (line : RhoLine). line.hi) lines l.rho_hi;
      rho_lo = column (λ (line : RhoLine). line.lo) lines l.rho_lo;
      second = column (λ (line : RhoLine). line.second) lines l.second;
    }
