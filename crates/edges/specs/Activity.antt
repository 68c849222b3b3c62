-- A row at the sheet's values: `row_activity`, `row_terms` and `slack_room`, the Rust's operations in its order. Assumes nothing.
use Rattle.std.specs.Prelude.{cond, List, ℕ, zero, suc, ◌-◌, ltb, length, get_or, Float}
use Rattle.std.specs.Float.{nan}
use Rattle.doubles.specs.Compare.{absolute}
use Rattle.cdouble.specs.Compensated.{◌⊕◌, ◌⊗◌, plus_zero}
use Rattle.tolerances.specs.Tolerances.{trimmed_room}
use Rattle.edges.specs.declared.activity.Activity.{Activity}
use Rattle.edges.specs.Row.{Row}

abbrev pub activity : Float → Float → Activity
activity lhs magnitude = record { lhs = lhs; magnitude = magnitude }

-- one entry more, of the column v and the coefficient coeff: only a structural one counts
abbrev pub with_entry : ℕ → List Float → ℕ → Float → Activity → Activity
with_entry structurals values v coeff a =
    cond (ltb v structurals) (activity (a.lhs ⊕ coeff ⊗ get_or values v nan) (a.magnitude ⊕ absolute (coeff ⊗ get_or values v nan))) a

-- the first n entries of a row
unfoldable pub after_entries : ℕ → List Float → List ℕ → List Float → ℕ → Activity → Activity
after_entries structurals values columns entries zero a = a
after_entries structurals values columns entries (suc n) a =
    with_entry structurals values (get_or columns n 0) (get_or entries n nan) (after_entries structurals values columns entries n a)

-- `row_activity`, of a row's right side, columns and entries: "The closure of `row_activity`: the value list"
unfoldable pub row_activity : ℕ → Float → List ℕ → List Float → List Float → Activity
row_activity structurals right_side columns entries values =
    after_entries structurals values columns entries (length columns) (activity plus_zero (absolute right_side))

-- the magnitude of a row by itself
abbrev pub row_magnitude : ℕ → Row → List Float → Float
row_magnitude structurals row values = (row_activity structurals row.right_side row.columns row.entries values).magnitude

-- `row_terms`: the entries but the slack's
abbrev pub row_terms : List ℕ → ℕ
row_terms columns = length columns - 1

-- "`slack_room(r)`: (slack_tol − slack_margin).max(0), both from tol = feasibility times scale, the magnitude of `row_activity` and `row_terms`", of one row
unfoldable pub slack_room : ℕ → Float → Row → List Float → Float
slack_room structurals feasibility row values =
    trimmed_room (feasibility ⊗ row.scale) (row_activity structurals row.right_side row.columns row.entries values).magnitude (row_terms row.columns)
