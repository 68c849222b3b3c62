-- What the code asks of the lent slices, whatever is widened. On an accepted sheet it holds. Assumes nothing.
use Rattle.std.specs.Prelude.{ℕ, ◌<◌, length}
use Rattle.edges.specs.Model.{Model}
use Rattle.edges.specs.RoomReads.{Readable}

-- the slack that leaves is a variable
abbrev pub LeavingFits : Model → ℕ → Type 0
LeavingFits m leaving = Readable m leaving × (leaving < length m.values)
