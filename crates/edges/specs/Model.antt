-- What of the sheet a variable's edges rest on: all but the basis, the multipliers and the outputs. The widened list is what it says of each
-- variable and side: the code has that as marks. Assumes nothing.
use Rattle.std.specs.Prelude.{Bool, cond, List, ℕ, get_or, Float}
use Rattle.std.specs.Float.{nan}
use Rattle.questions.specs.declared.widened.Marks.{Marks}
use Rattle.questions.specs.Marks.{holds}
use Rattle.questions.specs.WidenedList.{is_widened}
use Rattle.sheet.specs.declared.lent.Sheet.{Sheet as Slices}
use Rattle.sheet.specs.Sheet.{Sheet}
use Rattle.tolerances.specs.declared.BoundTols.{BoundTols}

pub record Model : Type 0 where
  pub structurals : ℕ
  pub feasibility : Float
  pub starts : List ℕ
  pub columns : List ℕ
  pub entries : List Float
  pub right_sides : List Float
  pub scales : List Float
  pub integer : List ℕ
  pub mins : List Float
  pub maxs : List Float
  pub low_tolerances : List Float
  pub high_tolerances : List Float
  pub values : List Float
  -- whether the widened list holds (v, up)
  pub widened : ℕ → Bool → Bool

-- the one place where a model is made from what is lent
abbrev pub model : ℕ → Float → List ℕ → List ℕ → List Float → List Float → List Float → List ℕ → List Float → List Float → List Float → List Float → List Float → (ℕ → Bool → Bool) → Model
model structurals feasibility starts columns entries right_sides scales integer mins maxs low_tolerances high_tolerances values widened =
    record {
      structurals = structurals;
      feasibility = feasibility;
      starts = starts;
      columns = columns;
      entries = entries;
      right_sides = right_sides;
      scales = scales;
      integer = integer;
      mins = mins;
      maxs = maxs;
      low_tolerances = low_tolerances;
      high_tolerances = high_tolerances;
      values = values;
      widened = widened;
    }

-- that of the lent slices and the widened list's marks
abbrev pub lent_model : Slices → Marks → Model
lent_model s marks =
    model s.structurals s.feasibility s.starts.now s.columns.now s.entries.now s.right_sides.now s.scales.now s.integer.now s.mins.now s.maxs.now
    s.low_tolerances.now s.high_tolerances.now s.values.now (holds marks)

-- that of a sheet, with its widened list or with anything else that is said of each variable and side
abbrev pub model_with : Sheet → (ℕ → Bool → Bool) → Model
model_with s widened =
    model s.structurals s.feasibility s.starts s.columns s.entries s.right_sides s.scales s.integer s.mins s.maxs
    s.low_tolerances s.high_tolerances s.values widened

abbrev pub model_of : Sheet → Model
model_of s = model_with s (is_widened s.widened)

-- a variable's bound on the upper or the lower side
abbrev pub bound_at : List Float → List Float → ℕ → Bool → Float
bound_at mins maxs v up = cond up (get_or maxs v nan) (get_or mins v nan)

abbrev pub bound_of : Model → ℕ → Bool → Float
bound_of m v up = bound_at m.mins m.maxs v up

-- its tolerances toward each
abbrev pub tols_at : List Float → List Float → ℕ → BoundTols
tols_at low high v = record { lo = get_or low v nan; hi = get_or high v nan }

abbrev pub tols_of : Model → ℕ → BoundTols
tols_of m v = tols_at m.low_tolerances m.high_tolerances v
