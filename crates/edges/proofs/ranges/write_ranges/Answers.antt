-- `write_ranges` meets its contract. Assumes nothing.
use mathlib.Core.Path.{refl}
use Rattle.loops.proofs.Listed.{none_filled, one_filled, all_filled}
use Rattle.edges.proofs.ranges.write_ranges.Goals as goal

pub loop-v-init : goal.loop-v-init
loop-v-init c = (none_filled c.args.low.now refl, none_filled c.args.high.now c.requires.lengths.0)

pub loop-v-preserved : goal.loop-v-preserved
loop-v-preserved c = (
  one_filled c.loop-v.invariant.0 c.loop-v-test.true c.range_of-ends.ensures.0,
  one_filled c.loop-v.invariant.1 c.loop-v-test.true c.range_of-ends.ensures.1,
)

pub returns : goal.returns
returns c = (all_filled c.loop-v.invariant.0 c.loop-v-test.false, all_filled c.loop-v.invariant.1 c.loop-v-test.false)
