-- The sheet: one field for each number and each lent slice. Document 01, "Questions put to the input" and "The sheet". Assumes nothing.
use Rattle.std.specs.Prelude.{List, ℕ, ◌+◌, T, get_or, Float}
use Rattle.std.specs.Float.{nan, binary64}
use Rattle.std.specs.Float.Ieee.{fits}
use Rattle.questions.specs.declared.widened.Widened.{Widened}
use Rattle.sheet.specs.declared.outputs.Outputs.{Outputs}

-- how many rows, structural variables and entries there are
pub record Sizes : Type 0 where
  pub rows : ℕ
  pub structurals : ℕ
  pub entries : ℕ

abbrev pub sizes : ℕ → ℕ → ℕ → Sizes
sizes rows structurals entries = record { rows = rows; structurals = structurals; entries = entries }

pub record Sheet : Type 0 where
  -- how many rows, structural variables and entries there are
  pub rows : ℕ
  pub structurals : ℕ
  pub entry_count : ℕ
  -- where each row's entries start, and where the last row's end
  pub starts : List ℕ
  -- the rows' columns and entries in stored order, row after row
  pub columns : List ℕ
  pub entries : List Float
  -- of each row
  pub right_sides : List Float
  pub scales : List Float
  pub feasibility : Float
  -- of each structural variable, whether it is integer: a flag
  pub integer : List ℕ
  -- of each variable, the slacks last: bounds, and tolerances toward each
  pub mins : List Float
  pub maxs : List Float
  pub low_tolerances : List Float
  pub high_tolerances : List Float
  -- of each variable: whether it is basic, a flag; its place then; its value
  pub basic : List ℕ
  pub places : List ℕ
  pub values : List Float
  -- "one list of variable and side", a flag that is set for up
  pub widened : List Widened
  -- whether the multipliers are checked, a flag; of each row: rho, and its second correction
  pub checked : ℕ
  pub rho_hi : List Float
  pub rho_lo : List Float
  pub second : List Float
  -- the leaving row, and whether it leaves up, a flag
  pub leaving_row : ℕ
  pub leaving_up : ℕ
  -- how many places each lent output has
  pub outputs : Outputs

-- the one place where a sheet is made from what is lent
abbrev pub sheet :
    Sizes → Float → ℕ → ℕ → ℕ → Outputs → List ℕ → List ℕ → List Float → List Float → List Float → List ℕ → List Float → List Float
    → List Float → List Float → List ℕ → List ℕ → List Float → List Widened → List Float → List Float → List Float → Sheet
sheet
    sizes feasibility checked leaving_row leaving_up outputs starts columns entries right_sides scales integer mins maxs low_tolerances
    high_tolerances basic places values widened rho_hi rho_lo second =
    record {
      rows = sizes.rows;
      structurals = sizes.structurals;
      entry_count = sizes.entries;
      starts = starts;
      columns = columns;
      entries = entries;
      right_sides = right_sides;
      scales = scales;
      feasibility = feasibility;
      integer = integer;
      mins = mins;
      maxs = maxs;
      low_tolerances = low_tolerances;
      high_tolerances = high_tolerances;
      basic = basic;
      places = places;
      values = values;
      widened = widened;
      checked = checked;
      rho_hi = rho_hi;
      rho_lo = rho_lo;
      second = second;
      leaving_row = leaving_row;
      leaving_up = leaving_up;
      outputs = outputs;
    }

-- its sizes
abbrev pub sizes_of : Sheet → Sizes
sizes_of s = sizes s.rows s.structurals s.entry_count

-- "Variables here include the slacks"
abbrev pub variables : Sheet → ℕ
variables s = s.structurals + s.rows

-- every number of a list is a double: the library's `Float` is any number, a slice's are of 64 bits
pub record AllDoubles (xs : List Float) : Type 0 where
  pub fit_at : (k : ℕ) → T (fits binary64 (get_or xs k nan))

-- every number on the sheet is
pub record Doubles (s : Sheet) : Type 0 where
  pub entries_fit : AllDoubles s.entries
  pub right_sides_fit : AllDoubles s.right_sides
  pub scales_fit : AllDoubles s.scales
  pub feasibility_fits : T (fits binary64 s.feasibility)
  pub mins_fit : AllDoubles s.mins
  pub maxs_fit : AllDoubles s.maxs
  pub low_fit : AllDoubles s.low_tolerances
  pub high_fit : AllDoubles s.high_tolerances
  pub values_fit : AllDoubles s.values
  pub rho_hi_fit : AllDoubles s.rho_hi
  pub rho_lo_fit : AllDoubles s.rho_lo
  pub second_fit : AllDoubles s.second
