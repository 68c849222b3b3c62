-- What is written to lists of the variables that a kept row contains: of a slack its row's magnitude, and of any the range that the outward
-- reckoning reads. Assumes nothing.
use Rattle.std.specs.Prelude.{Bool, cond, List, ℕ, ◌+◌, eqb, get_or, Float}
use Rattle.cdouble.specs.Compensated.{plus_zero}
use Rattle.edges.specs.Model.{Model}
use Rattle.edges.specs.Rooms.{magnitude_at}
use Rattle.edges.specs.Edges.{edge}

-- the magnitude of the row r; 0 where no term is counted of its slack, since no kept row contains it then and its room is not read
abbrev pub magnitude_in : Model → List ℕ → ℕ → Float
magnitude_in m terms r = cond (eqb (get_or terms (m.structurals + r) 0) 0) plus_zero (magnitude_at m r)

-- the end of a variable's range; 0 where no term is counted of the variable, since no kept row contains it then and its range is not read
abbrev pub range_end : Model → ℕ → List ℕ → Bool → ℕ → Float
range_end m leaving terms up v = cond (eqb (get_or terms v 0) 0) plus_zero (edge m leaving v up)
