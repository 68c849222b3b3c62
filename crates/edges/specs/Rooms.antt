-- How far a bound may move out: document 01, "Tolerances and edges". Assumes nothing.
use Rattle.std.specs.Prelude.{Bool, true, false, cond, ℕ, ◌-◌, ltb, Float}
use Rattle.cdouble.specs.Compensated.{plus_zero}
use Rattle.tolerances.specs.declared.BoundTols.{BoundTols}
use Rattle.tolerances.specs.Tolerances.{toward}
use Rattle.edges.specs.Model.{Model, tols_of}
use Rattle.edges.specs.Row.{Row, row_at}
use Rattle.edges.specs.Activity.{row_magnitude, slack_room}

-- the row r, and the room of its slack
abbrev pub row_of : Model → ℕ → Row
row_of m r = row_at m.starts m.columns m.entries m.right_sides m.scales r

abbrev pub slack_room_at : Model → ℕ → Float
slack_room_at m r = slack_room m.structurals m.feasibility (row_of m r) m.values

-- the magnitude of the row r at the values, on which that room rests
abbrev pub magnitude_at : Model → ℕ → Float
magnitude_at m r = row_magnitude m.structurals (row_of m r) m.values

-- the rooms of a variable's two bounds where they are not widened: "for a structural variable its tolerance toward that side; else `slack_room`"
abbrev pub rooms : Float → Float → BoundTols
rooms low high = record { lo = low; hi = high }

abbrev pub own_rooms : Model → ℕ → BoundTols
own_rooms m v = cond (ltb v m.structurals) (tols_of m v) (let room = slack_room_at m (v - m.structurals) in rooms room room)

-- "`widening_room(var, up)`: 0 if the widened list holds (var, up)", else its own; and of both bounds
unfoldable pub widening_room : Model → ℕ → Bool → Float
widening_room m v up = cond (m.widened v up) plus_zero (toward (own_rooms m v) up)

abbrev pub widening_rooms : Model → ℕ → BoundTols
widening_rooms m v = rooms (widening_room m v false) (widening_room m v true)
