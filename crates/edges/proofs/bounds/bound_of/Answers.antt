-- `bound_of` meets its contract. Assumes nothing.
use mathlib.Core.Path.{refl}
use Rattle.loops.proofs.Branches.{when_true, when_false}
use Rattle.edges.proofs.bounds.bound_of.Goals as goal

pub returns-then-up : goal.returns-then-up
returns-then-up c = when_true _ refl c.if-up.true

pub returns-else-up : goal.returns-else-up
returns-else-up c = when_false _ refl c.if-up.false
