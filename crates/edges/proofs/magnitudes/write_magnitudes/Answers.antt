-- `write_magnitudes` meets its contract. Assumes nothing.
use mathlib.Core.Path.{refl}
use Rattle.loops.proofs.Listed.{none_filled, one_filled, all_filled}
use Rattle.edges.proofs.magnitudes.write_magnitudes.Goals as goal

pub loop-r-init : goal.loop-r-init
loop-r-init c = λ marks. none_filled c.args.row_magnitudes.now refl

pub loop-r-preserved : goal.loop-r-preserved
loop-r-preserved c = λ marks. one_filled (c.loop-r.invariant marks) c.loop-r-test.true (c.magnitude_of.ensures marks)

pub returns : goal.returns
returns c = λ marks. all_filled (c.loop-r.invariant marks) c.loop-r-test.false
