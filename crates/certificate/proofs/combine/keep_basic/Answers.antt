-- `keep_basic` meets its contract. Assumes nothing.
use native.Mathlib.Omega.{arith}
use Rattle.certificate.proofs.Keeping.{none_kept, one_kept, all_kept}
use Rattle.certificate.proofs.combine.keep_basic.Goals as goal

pub loop-v-init : goal.loop-v-init
loop-v-init c = none_kept c.args.basic.now c.args.errors.now

pub loop-v-preserved : goal.loop-v-preserved
loop-v-preserved c = one_kept c.loop-v.invariant (omega arith) (omega arith) c.if_basic.ensures

pub returns : goal.returns
returns c = all_kept c.loop-v.invariant (omega arith)
