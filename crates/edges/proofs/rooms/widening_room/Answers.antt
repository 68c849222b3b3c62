-- `widening_room` meets its contract. Assumes nothing.
use mathlib.Core.Path.{sym, ap, ◌∙◌}
use Rattle.loops.proofs.Branches.{when_false}
use Rattle.tolerances.specs.declared.BoundTols.{BoundTols}
use Rattle.tolerances.specs.Tolerances.{toward}
use Rattle.edges.specs.Rooms.{widening_room}
use Rattle.edges.proofs.rooms.widening_room.Goals as goal

pub returns : goal.returns
unfolding widening_room
returns c =
    when_false _ (c.toward.ensures ∙ ap (λ (t : BoundTols). toward t c.args.up) (c.own_rooms.ensures c.args.marks.now)) (sym c.holds.ensures ∙ c.if-holds.false)
