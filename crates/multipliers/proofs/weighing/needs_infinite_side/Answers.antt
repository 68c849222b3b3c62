-- `needs_infinite_side` meets its contract. Assumes nothing.
use mathlib.Core.Path.{refl}
use lib.Ieee.{of_bits}
use Rattle.loops.proofs.Branches.{when_true, when_false}
use Rattle.multipliers.proofs.weighing.needs_infinite_side.Goals as goal

pub returns-then-y_value : goal.returns-then-y_value
unfolding of_bits
returns-then-y_value c = when_true _ refl c.if-y_value.true

pub returns-else-y_value : goal.returns-else-y_value
unfolding of_bits
returns-else-y_value c = when_false _ refl c.if-y_value.false
