-- The sheet of a case: its numbers, and the fronts of its slices. Assumes nothing.
use Rattle.std.specs.Prelude.{ℕ, List, [], ◌∷◌, ◌+◌, ◌%◌, ◌^◌, ◌-◌, cond, eqb, min, take, set, get_or}
use Rattle.std.specs.Float.{binary64}
use Rattle.std.specs.Float.Ieee.{of_bits}
use Rattle.questions.specs.declared.widened.Widened.{Widened}
use Rattle.sheet.specs.declared.outputs.Outputs.{Outputs}
use Rattle.sheet.specs.Sheet.{Sheet, sheet}
use Rattle.case_slices.specs.declared.Numbers.{Numbers}
use Rattle.case_slices.specs.declared.Slices.{Slices}
use Rattle.case_slices.specs.declared.Slice.{Slice}
use Rattle.case_slices.specs.declared.Slice.TheVariants.{Starts, Columns, Entries, RightSides, Scales, Integer, Mins, Maxs, LowTolerances, HighTolerances}
use Rattle.case_slices.specs.declared.Slice.TheVariants.{Basic, Places, Values, WidenedVars, WidenedUps, RhoHi, RhoLo, Second}
use Rattle.case_slices.specs.Slices.{number_of}

-- the numbers with one of them put, a double as its pattern, a flag as its last eight bits
abbrev pub with_number : Numbers → ℕ → ℕ → Numbers
with_number n place value =
    record {
      rows = cond (eqb place 0) value n.rows;
      structurals = cond (eqb place 1) value n.structurals;
      entries = cond (eqb place 2) value n.entries;
      feasibility = cond (eqb place 3) (of_bits binary64 value) n.feasibility;
      checked = cond (eqb place 4) (value % 256) n.checked;
      leaving_row = cond (eqb place 5) value n.leaving_row;
      leaving_up = cond (eqb place 6) (value % 256) n.leaving_up;
    }

-- a list with a value put at a place, where the slice is this one
abbrev pub put_if : {A : Type 0} → Slice → Slice → ℕ → A → List A → List A
put_if slice this place value xs = cond (eqb (number_of slice) (number_of this)) (set xs place value) xs

-- the widened item at a place
abbrev pub item_at : Slices → ℕ → Widened
item_at s place = get_or s.widened place (record { variable = 0; up = 0 })

-- the slices with a value put at a place of one of them, a double as its pattern, a flag as its last eight bits
abbrev pub with_value : Slices → Slice → ℕ → ℕ → Slices
with_value s slice place value =
    record {
      starts = put_if slice Starts place value s.starts;
      columns = put_if slice Columns place value s.columns;
      entries = put_if slice Entries place (of_bits binary64 value) s.entries;
      right_sides = put_if slice RightSides place (of_bits binary64 value) s.right_sides;
      scales = put_if slice Scales place (of_bits binary64 value) s.scales;
      integer = put_if slice Integer place (value % 256) s.integer;
      mins = put_if slice Mins place (of_bits binary64 value) s.mins;
      maxs = put_if slice Maxs place (of_bits binary64 value) s.maxs;
      low_tolerances = put_if slice LowTolerances place (of_bits binary64 value) s.low_tolerances;
      high_tolerances = put_if slice HighTolerances place (of_bits binary64 value) s.high_tolerances;
      basic = put_if slice Basic place (value % 256) s.basic;
      places = put_if slice Places place value s.places;
      values = put_if slice Values place (of_bits binary64 value) s.values;
      widened =
          put_if slice WidenedUps place (record { variable = (item_at s place).variable; up = value % 256 })
          (put_if slice WidenedVars place (record { variable = value; up = (item_at s place).up }) s.widened);
      rho_hi = put_if slice RhoHi place (of_bits binary64 value) s.rho_hi;
      rho_lo = put_if slice RhoLo place (of_bits binary64 value) s.rho_lo;
      second = put_if slice Second place (of_bits binary64 value) s.second;
    }

-- a sum, no more than a `usize` holds
abbrev pub held : ℕ → ℕ → ℕ
held a b = min (a + b) (2 ^ 64 - 1)

-- the length of each slice, by its number, for how many rows, structural variables, entries, variables and widened items there are
abbrev pub lengths_for : ℕ → ℕ → ℕ → ℕ → ℕ → List ℕ
lengths_for r s e v w = held r 1 ∷ e ∷ e ∷ r ∷ r ∷ s ∷ v ∷ v ∷ v ∷ v ∷ v ∷ v ∷ v ∷ w ∷ w ∷ r ∷ r ∷ r ∷ []

-- the same of a sheet's numbers
abbrev pub lengths : Numbers → ℕ → List ℕ
lengths n widened = lengths_for n.rows n.structurals n.entries (held n.rows n.structurals) widened

-- the front of a slice, of its length
abbrev pub front : {A : Type 0} → List ℕ → List A → Slice → List A
front {A} ls xs slice = take (get_or ls (number_of slice) 0) xs

-- the widened list: the front of its items, as long as the length of its variables says
abbrev pub recorded : Slices → List ℕ → List Widened
recorded s ls = front ls s.widened WidenedVars

-- the sheet of numbers, of a widened list, and of the front of each slice, as long as its length says
abbrev pub lent : Slices → Numbers → List ℕ → List Widened → Outputs → Sheet
lent s n ls widened outputs =
    sheet (record { rows = n.rows; structurals = n.structurals; entries = n.entries }) n.feasibility n.checked n.leaving_row n.leaving_up outputs
    (front ls s.starts Starts) (front ls s.columns Columns) (front ls s.entries Entries) (front ls s.right_sides RightSides) (front ls s.scales Scales) (front ls s.integer Integer)
    (front ls s.mins Mins) (front ls s.maxs Maxs) (front ls s.low_tolerances LowTolerances) (front ls s.high_tolerances HighTolerances) (front ls s.basic Basic) (front ls s.places Places)
    (front ls s.values Values) widened (front ls s.rho_hi RhoHi) (front ls s.rho_lo RhoLo) (front ls s.second Second)
