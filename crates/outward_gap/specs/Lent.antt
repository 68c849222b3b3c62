-- The set of kept rows, the rows and the ranges that lent lists say. Assumes nothing.
use Rattle.std.specs.Prelude.{List, ℕ, length, get_or}
use Rattle.std.specs.Float.{nan}
use Rattle.questions.specs.Rows.{part}
use Rattle.multipliers.specs.declared.weighing.Multiplier.{Multiplier}
use Rattle.multipliers.specs.declared.weighing.Multiplier.TheVariants.{Dropped}
use Rattle.gaps.specs.Rows.{Rows, Ranges, KeptRows}
use Rattle.outward_gap.specs.declared.lent.Rows.{Rows as RowSlices}
use Rattle.outward_gap.specs.declared.lent.Ends.{Ends as EndSlices}

-- of each row what the list has for it
abbrev pub kept_in : List Multiplier → KeptRows
kept_in multipliers r = get_or multipliers r Dropped

-- as many rows as there are right sides, over so many variables
abbrev pub rows_lent : RowSlices → ℕ → Rows
rows_lent s variables =
    record {
      count = length s.right_sides.now;
      variables = variables;
      columns = λ r. part s.starts.now r s.columns.now;
      entries = λ r. part s.starts.now r s.entries.now;
      right_sides = λ r. get_or s.right_sides.now r nan;
    }

abbrev pub ranges_lent : EndSlices → Ranges
ranges_lent e = record { low = λ v. get_or e.low.now v nan; high = λ v. get_or e.high.now v nan }
