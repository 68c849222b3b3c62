-- `widening_rooms` meets its contract. Assumes nothing.
use mathlib.Core.Path.{refl}
use Rattle.tolerances.specs.Tolerances.{toward}
use Rattle.edges.specs.Rooms.{widening_room}
use Rattle.edges.proofs.rooms.widening_rooms.Goals as goal

pub returns : goal.returns
unfolding widening_room toward
returns c =
    rw (c.unless_widened.ensures, c.unless_widened-2.ensures, c.holds-low.ensures, c.holds-high.ensures, c.own_rooms-rooms.ensures c.args.marks.now) refl
