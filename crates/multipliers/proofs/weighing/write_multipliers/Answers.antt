-- `write_multipliers` meets its contract. Assumes nothing.
use mathlib.Core.Path.{refl}
use Rattle.loops.proofs.Listed.{none_filled, one_filled, all_filled}
use Rattle.multipliers.proofs.weighing.write_multipliers.Goals as goal

pub loop-r-init : goal.loop-r-init
loop-r-init c = none_filled c.args.multipliers.now refl

pub loop-r-preserved : goal.loop-r-preserved
loop-r-preserved c = one_filled c.loop-r.invariant c.loop-r-test.true c.multiplier_at.ensures

pub returns : goal.returns
returns c = all_filled c.loop-r.invariant c.loop-r-test.false
