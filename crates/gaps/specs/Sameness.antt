-- What narrowing compares: document 01, "The words of the third demand", its last paragraph. Assumes nothing.
use Rattle.std.specs.Prelude.{◌≡◌, false, ℕ, ◌<◌, T, length, get_or, Float}
use Rattle.std.specs.Float.{nan}
use Rattle.std.specs.Float.Ieee.{le}
use Rattle.doubles.specs.Directed.{with_zero}
use Rattle.multipliers.specs.declared.weighing.Multiplier.{Multiplier}
use Rattle.multipliers.specs.declared.weighing.Multiplier.TheVariants.{Zeroed, Dropped, Kept}
use Rattle.gaps.specs.Rows.{Rows, Ranges, KeptRows}

-- "Here −0 agrees with +0, and NaN with NaN"
abbrev pub Agree : Float → Float → Type 0
Agree a b = with_zero false a ≡ with_zero false b

-- "Rows are equal if row and structural counts and, row by row, columns, entries and right sides agree": with the row count, the count of all
-- variables says the same as the structural one
pub record SameRows (m n : Rows) : Type 0 where
  pub count_same : n.count ≡ m.count
  pub variables_same : n.variables ≡ m.variables
  pub columns_same : (r : ℕ) → r < m.count → n.columns r ≡ m.columns r
  pub entries_agree : (r : ℕ) → r < m.count → (k : ℕ) → k < length (m.columns r) → Agree (get_or (n.entries r) k nan) (get_or (m.entries r) k nan)
  pub right_sides_agree : (r : ℕ) → r < m.count → Agree (n.right_sides r) (m.right_sides r)

-- "Kept multipliers are equal if the same rows are kept and their hi and lo agree", of one row …
unfoldable pub SameMultiplier : Multiplier → Multiplier → Type 0
SameMultiplier (Kept y) (Kept z) = Agree y.hi z.hi × Agree y.lo z.lo
SameMultiplier (Kept y) (Zeroed z) = ⊥
SameMultiplier (Kept y) Dropped = ⊥
SameMultiplier (Zeroed y) (Kept z) = ⊥
SameMultiplier (Zeroed y) (Zeroed z) = Unit {0}
SameMultiplier (Zeroed y) Dropped = Unit {0}
SameMultiplier Dropped (Kept z) = ⊥
SameMultiplier Dropped (Zeroed z) = Unit {0}
SameMultiplier Dropped Dropped = Unit {0}

-- … and of the first n
abbrev pub SameKept : ℕ → KeptRows → KeptRows → Type 0
SameKept n kept other = (r : ℕ) → r < n → SameMultiplier (kept r) (other r)

-- "One range lies within another if its low edge is not lower and its high edge not higher": g within h, at each of so many variables
pub record Within (variables : ℕ) (g h : Ranges) : Type 0 where
  pub low_not_lower : (v : ℕ) → v < variables → T (le (h.low v) (g.low v))
  pub high_not_higher : (v : ℕ) → v < variables → T (le (g.high v) (h.high v))
