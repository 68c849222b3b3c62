-- The lists of the code's `VariableLists`, each under its own name, and the lists after lines are stored. Assumes nothing.
use Rattle.std.specs.Prelude.{◌≡◌, cond, ltb, set, List, ℕ, Float}
use mir.Val.{bool_byte}
use Rattle.repeats.specs.Filled.{column}
use Rattle.text_lines.specs.declared.variable_lines.VariableLine.{VariableLine}
use Rattle.text_lists.specs.declared.variables_lent.VariableLists.{VariableLists as Slices}

-- ---- what is said of each variable
pub record VariableLists : Type 0 where
  pub integer : List ℕ
  pub mins : List Float
  pub maxs : List Float
  pub low_tolerances : List Float
  pub high_tolerances : List Float
  pub basic : List ℕ
  pub places : List ℕ
  pub values : List Float

abbrev pub lent_variables : Slices → VariableLists
lent_variables l =
    record {
      integer = l.integer.now;
      mins = l.mins.now;
      maxs = l.maxs.now;
      low_tolerances = l.low_tolerances.now;
      high_tolerances = l.high_tolerances.now;
      basic = l.basic.now;
      places = l.places.now;
      values = l.values.now;
    }

-- each list is lent by the same reference as before
pub record SameSlices (old new : Slices) : Type 0 where
  pub integer_is : new.integer.ghost_name ≡ old.integer.ghost_name
  pub mins_is : new.mins.ghost_name ≡ old.mins.ghost_name
  pub maxs_is : new.maxs.ghost_name ≡ old.maxs.ghost_name
  pub low_tolerances_is : new.low_tolerances.ghost_name ≡ old.low_tolerances.ghost_name
  pub high_tolerances_is : new.high_tolerances.ghost_name ≡ old.high_tolerances.ghost_name
  pub basic_is : new.basic.ghost_name ≡ old.basic.ghost_name
  pub places_is : new.places.ghost_name ≡ old.places.ghost_name
  pub values_is : new.values.ghost_name ≡ old.values.ghost_name

-- the line of the i-th variable stored: whether it is integer only if it is structural
abbrev pub with_variable : ℕ → ℕ → VariableLine → VariableLists → VariableLists
with_variable structurals i line l =
    record {
      integer = cond (ltb i structurals) (set l.integer i (bool_byte line.integer)) l.integer;
      mins = set l.mins i line.min;
      maxs = set l.maxs i line.max;
      low_tolerances = set l.low_tolerances i line.low;
      high_tolerances = set l.high_tolerances i line.high;
      basic = set l.basic i (bool_byte line.basic);
      places = set l.places i line.place;
      values = set l.values i line.value;
    }

-- the lines of the structural variables, and of all, stored from the front on
abbrev pub with_variables : List VariableLine → List VariableLine → VariableLists → VariableLists
with_variables structural lines l =
    record {
      integer = column (λ (line : VariableLine). bool_byte line.integer) structural l.integer;
      mins = column (λ (line : VariableLine). line.min) lines l.mins;
      maxs = column (λ (line : VariableLine). line.max) lines l.maxs;
      low_tolerances = column (λ (line : VariableLine). line.low) lines l.low_tolerances;
      high_tolerances = column (λ (line : VariableLine). line.high) lines l.high_tolerances;
      basic = column (λ (line : VariableLine). bool_byte line.basic) lines l.basic;
      places = column (λ (line : VariableLine). line.place) lines l.places;
      values = column (λ (line : VariableLine). line.value) lines l.values;
    }
