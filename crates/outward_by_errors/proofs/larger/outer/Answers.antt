-- `outer` meets its contract. Assumes nothing.
use mathlib.Core.Path.{refl}
use lib.Ieee.{of_bits}
use Rattle.loops.proofs.Branches.{when_true, when_false}
use Rattle.outward_by_errors.proofs.larger.outer.Goals as goal

pub returns-then-e : goal.returns-then-e
unfolding of_bits
returns-then-e c = when_true _ refl c.if-e.true

pub returns-else-e : goal.returns-else-e
unfolding of_bits
returns-else-e c = when_false _ refl c.if-e.false
