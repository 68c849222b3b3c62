-- `difference` meets its contract. Assumes nothing.
use mathlib.Core.Path.{refl}
use lib.Ieee.{of_bits}
use Rattle.loops.proofs.Branches.{when_true, when_false}
use Rattle.gaps.specs.Steps.{difference}
use Rattle.outward_gap.proofs.reckoning.difference.Goals as goal

pub returns-then-b-m : goal.returns-then-b-m
unfolding of_bits difference
returns-then-b-m c = when_true _ refl c.if-b-m.true

pub returns-else-b-m : goal.returns-else-b-m
unfolding of_bits difference
returns-else-b-m c = when_false _ c.rounded_sum.ensures c.if-b-m.false
