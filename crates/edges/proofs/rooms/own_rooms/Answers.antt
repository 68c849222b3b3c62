-- `own_rooms` meets its contract. Assumes nothing.
use native.Mathlib.Omega.{arith}
use Rattle.edges.specs.Model.{lent_model}
use Rattle.edges.proofs.Known.{rooms_known}
use Rattle.edges.proofs.rooms.own_rooms.Goals as goal

pub bounds-row_magnitudes-r : goal.bounds-row_magnitudes-r
bounds-row_magnitudes-r c = (c.requires.known (omega arith)).0

pub returns : goal.returns
returns c =
    λ marks.
    rooms_known (lent_model c.args.s.now marks) c.args.v c.args.row_magnitudes.now c.requires.known c.if-v-s.false c.row_of-row.ensures.row c.slack_room-room.ensures
