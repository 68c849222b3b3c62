-- `largest_value` meets its contract. Assumes nothing.
use lib.Ieee.{of_bits}
use Rattle.outward_gap.proofs.LargestWalk.{first_variable, next_variable, walk_ends, all_walked}
use Rattle.outward_gap.proofs.largest.largest_value.Goals as goal

pub loop-v-init : goal.loop-v-init
loop-v-init c = first_variable _ _ _ _ _

pub returns-in_default : goal.returns-in_default
unfolding of_bits
returns-in_default c = walk_ends c.loop-v.invariant c.loop-v-test.true c.step.ensures c.in_default.is

pub loop-v-preserved : goal.loop-v-preserved
loop-v-preserved c = next_variable c.loop-v.invariant c.loop-v-test.true c.step.ensures c.in-Some.is

pub returns : goal.returns
returns c = all_walked c.loop-v.invariant c.loop-v-test.false
