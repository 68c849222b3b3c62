-- What the code reads of a model at one variable lies within the lent slices, and the variable has its marks. On an accepted sheet it does.
-- The records name the lists and not the model, so that they are the same whatever is widened. Assumes nothing.
use Rattle.std.specs.Prelude.{◌≡◌, List, ℕ, ◌+◌, ◌-◌, ◌≤◌, ◌<◌, length, get_or, Float}
use Rattle.std.specs.Float.{nan}
use Rattle.questions.specs.Limits.{most_variables}
use Rattle.sheet.specs.declared.lent.Sheet.{Sheet as Slices}
use Rattle.edges.specs.Model.{Model}
use Rattle.edges.specs.Activity.{row_magnitude}
use Rattle.edges.specs.Row.{row_at}
use Rattle.edges.specs.Rooms.{magnitude_at}

-- of the row of a slack
pub record RowReads (starts columns : List ℕ) (right_sides scales : List Float) (r : ℕ) : Type 0 where
  pub in_starts : r + 1 < length starts
  pub rises : get_or starts r 0 ≤ get_or starts (r + 1) 0
  pub inside : get_or starts (r + 1) 0 ≤ length columns
  pub in_right_sides : r < length right_sides
  pub in_scales : r < length scales

abbrev pub RowReadable : Model → ℕ → Type 0
RowReadable m r = RowReads m.starts m.columns m.right_sides m.scales r

-- of the variable v
pub record VariableReads
    (structurals : ℕ) (starts columns integer : List ℕ) (entries right_sides scales mins maxs low_tolerances high_tolerances values : List Float) (v : ℕ) : Type 0 where
  pub has_mark : v < most_variables
  pub in_mins : v < length mins
  pub in_maxs : v < length maxs
  pub in_low : v < length low_tolerances
  pub in_high : v < length high_tolerances
  pub integers : structurals ≤ length integer
  pub minimums : structurals ≤ length mins
  pub maximums : structurals ≤ length maxs
  pub values_long : structurals ≤ length values
  pub entries_long : length entries ≡ length columns
  pub row : structurals ≤ v → RowReads starts columns right_sides scales (v - structurals)

abbrev pub Readable : Model → ℕ → Type 0
Readable m v =
    VariableReads m.structurals m.starts m.columns m.integer m.entries m.right_sides m.scales m.mins m.maxs m.low_tolerances m.high_tolerances m.values v

-- the same of a sheet's lent slices, whatever is widened
abbrev pub LentReads : Slices → ℕ → Type 0
LentReads s v =
    VariableReads s.structurals s.starts.now s.columns.now s.integer.now s.entries.now s.right_sides.now s.scales.now s.mins.now s.maxs.now s.low_tolerances.now
    s.high_tolerances.now s.values.now v

-- of a row of a sheet's lent slices, its entries and the values of their variables
pub record RowAtValues (structurals : ℕ) (starts columns : List ℕ) (entries right_sides scales values : List Float) (r : ℕ) : Type 0 where
  pub row : RowReads starts columns right_sides scales r
  pub entries_long : length entries ≡ length columns
  pub values_long : structurals ≤ length values

abbrev pub LentRow : Slices → ℕ → Type 0
LentRow s r = RowAtValues s.structurals s.starts.now s.columns.now s.entries.now s.right_sides.now s.scales.now s.values.now r

-- a list has the magnitude of the row whose slack is v, if v is one
abbrev pub HasMagnitude : ℕ → (ℕ → Float) → List Float → ℕ → Type 0
HasMagnitude structurals magnitude list v = structurals ≤ v → let r = v - structurals in (r < length list) × (get_or list r nan ≡ magnitude r)

abbrev pub Known : Model → List Float → ℕ → Type 0
Known m list v = HasMagnitude m.structurals (magnitude_at m) list v

abbrev pub LentKnown : Slices → List Float → ℕ → Type 0
LentKnown s list v =
    HasMagnitude s.structurals (λ r. row_magnitude s.structurals (row_at s.starts.now s.columns.now s.entries.now s.right_sides.now s.scales.now r) s.values.now) list v
