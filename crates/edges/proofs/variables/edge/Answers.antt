-- `edge` meets its contract. Assumes nothing.
use mathlib.Core.Path.{ap, ◌∙◌}
use mathlib.Core.Bool.{not}
use Rattle.tolerances.specs.declared.BoundTols.{BoundTols}
use Rattle.tolerances.specs.Tolerances.{toward}
use Rattle.edges.specs.Model.{lent_model}
use Rattle.edges.proofs.Tests.{edge_infinite, edge_leaving, edge_on_bounds, edge_widened}
use Rattle.edges.proofs.variables.edge.Goals as goal

pub returns-then-not-is_finite : goal.returns-then-not-is_finite
returns-then-not-is_finite c =
    edge_infinite (lent_model c.args.s.now c.args.marks.now) c.args.leaving c.args.v c.args.up c.bound_of-bound.ensures c.is_finite.ensures (ap not c.if-not-is_finite.true)

pub returns-then-v-leaving : goal.returns-then-v-leaving
returns-then-v-leaving c =
    edge_leaving (lent_model c.args.s.now c.args.marks.now) c.args.leaving c.args.v c.args.up c.bound_of-bound.ensures c.is_finite.ensures (ap not c.if-not-is_finite.false)
    c.if-v-leaving.true (c.toward.ensures ∙ ap (λ (t : BoundTols). toward t c.args.up) c.tolerances_of-tols.ensures) c.band_edge.ensures.0

pub returns-then-holds_on_bounds : goal.returns-then-holds_on_bounds
returns-then-holds_on_bounds c =
    edge_on_bounds (lent_model c.args.s.now c.args.marks.now) c.args.leaving c.args.v c.args.up c.bound_of-bound.ensures c.is_finite.ensures (ap not c.if-not-is_finite.false)
    c.if-v-leaving.false c.holds_on_bounds.ensures c.if-holds_on_bounds.true

pub returns : goal.returns
returns c =
    edge_widened (lent_model c.args.s.now c.args.marks.now) c.args.leaving c.args.v c.args.up c.bound_of-bound.ensures c.is_finite.ensures (ap not c.if-not-is_finite.false)
    c.if-v-leaving.false c.holds_on_bounds.ensures c.if-holds_on_bounds.false c.widening_room-room.ensures c.band_edge-2.ensures.0
