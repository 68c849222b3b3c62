-- What a gap is reckoned from: rows with their right sides, ranges, and a set of kept rows with their multipliers. Assumes nothing.
use Rattle.std.specs.Prelude.{Bool, true, false, ◌&&◌, List, ℕ, Float}
use Rattle.std.specs.Float.Ieee.Scale.{finite}
use Rattle.sheet.specs.Sheet.{Sheet, variables}
use Rattle.edges.specs.Model.{Model, model_of}
use Rattle.edges.specs.Edges.{edge, leaving_variable}
use Rattle.multipliers.specs.declared.weighing.Multiplier.{Multiplier}
use Rattle.multipliers.specs.declared.weighing.Multiplier.TheVariants.{Zeroed, Dropped, Kept}
use Rattle.certificate.specs.System.{System, system_of, multiplier_at, right_side_at, row_columns, row_entries}

-- so many rows over so many variables, of each row its columns, its entries and its right side
pub record Rows : Type 0 where
  pub count : ℕ
  pub variables : ℕ
  pub columns : ℕ → List ℕ
  pub entries : ℕ → List Float
  pub right_sides : ℕ → Float

-- of each variable the ends of its range
pub record Ranges : Type 0 where
  pub low : ℕ → Float
  pub high : ℕ → Float

-- a set of kept rows: of each row `Kept` with its multiplier y, or one of the other two, which are not in the set. Any function is such a set
abbrev pub KeptRows : Type 0
KeptRows = ℕ → Multiplier

-- whether both parts of a kept y are finite
unfoldable pub finite_parts : Multiplier → Bool
finite_parts (Zeroed y) = true
finite_parts Dropped = true
finite_parts (Kept y) = finite y.hi && finite y.lo

-- ---- those of what is lent
abbrev pub rows_in : System → ℕ → ℕ → Rows
rows_in m rows count = record { count = rows; variables = count; columns = row_columns m; entries = row_entries m; right_sides = right_side_at m }

-- "The widened range runs from low to high edge"
abbrev pub ranges_in : Model → ℕ → Ranges
ranges_in m leaving = record { low = λ v. edge m leaving v false; high = λ v. edge m leaving v true }

-- ---- those of a sheet
abbrev pub rows_of : Sheet → Rows
rows_of s = rows_in (system_of s) s.rows (variables s)

abbrev pub ranges_of : Sheet → Ranges
ranges_of s = ranges_in (model_of s) (leaving_variable s)

abbrev pub kept_of : Sheet → KeptRows
kept_of s = multiplier_at (system_of s)
