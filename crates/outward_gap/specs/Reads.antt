-- What the code asks of the lent lists: that they fit together. Nothing of it asks that a sheet was accepted. Assumes nothing.
use Rattle.std.specs.Prelude.{◌≡◌, List, ◌≤◌, length}
use Rattle.questions.specs.Limits.{most_variables}
use Rattle.questions.specs.Rows.{RowsLie}
use Rattle.multipliers.specs.declared.weighing.Multiplier.{Multiplier}
use Rattle.outward_gap.specs.declared.lent.Rows.{Rows as RowSlices}
use Rattle.outward_gap.specs.declared.lent.Ends.{Ends as EndSlices}

-- "row starts in order": each row has its part of the columns and of the entries, its right side and its multiplier
pub record RowsFit (s : RowSlices) (multipliers : List Multiplier) : Type 0 where
  pub lie : RowsLie (length s.right_sides.now) (length s.columns.now) s.starts.now
  pub same : length s.entries.now ≡ length s.columns.now
  pub each_has : length multipliers ≡ length s.right_sides.now

-- a range for each variable, of no more than the limits allow
pub record EndsFit (e : EndSlices) : Type 0 where
  pub both : length e.high.now ≡ length e.low.now
  pub few : length e.low.now ≤ most_variables

-- all five steps
pub record OutwardFits (s : RowSlices) (multipliers : List Multiplier) (e : EndSlices) : Type 0 where
  pub rows_fit : RowsFit s multipliers
  pub ends_fit : EndsFit e
