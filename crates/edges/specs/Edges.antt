-- The edges of a variable: document 01, "Tolerances and edges". Assumes nothing.
use Rattle.std.specs.Prelude.{Bool, true, false, cond, ℕ, eqb, length, Float}
use Rattle.std.specs.Float.Ieee.Scale.{finite}
use Rattle.sheet.specs.Sheet.{Sheet}
use Rattle.tolerances.specs.Tolerances.{toward}
use Rattle.tolerances.specs.BandEdge.{band_edge}
use Rattle.edges.specs.Model.{Model, model_of, bound_of, tols_of}
use Rattle.edges.specs.Variables.{holds_on_bounds, holder_from}
use Rattle.edges.specs.Rooms.{widening_room}

-- "The leaving variable is the one whose basis place has the leaving row's number"
abbrev pub leaving_variable : Sheet → ℕ
leaving_variable s = holder_from s.basic s.places s.leaving_row 0 (length s.basic)

-- "Low and high edge of a variable: an infinite bound is its own edge; the leaving variable takes its tolerance toward each side; one that
-- `holds_on_bounds` takes its bounds; any other `band_edge` with its widening room"
unfoldable pub edge : Model → ℕ → ℕ → Bool → Float
edge m leaving v up =
    cond (finite (bound_of m v up))
    (cond (eqb v leaving) (band_edge (bound_of m v up) (toward (tols_of m v) up) up)
    (cond (holds_on_bounds m.structurals m.integer m.mins m.maxs v) (bound_of m v up)
    (band_edge (bound_of m v up) (widening_room m v up) up)))
    (bound_of m v up)

-- "The widened range runs from low to high edge"
abbrev pub low_edge : Sheet → ℕ → Float
low_edge s v = edge (model_of s) (leaving_variable s) v false

abbrev pub high_edge : Sheet → ℕ → Float
high_edge s v = edge (model_of s) (leaving_variable s) v true
