-- `all_plain` meets its contract. Assumes nothing.
use lib.ListN.{length}
use Rattle.loops.proofs.All.{none_asked, one_asked}
use Rattle.loops.proofs.Turns.{done}
use Rattle.questions.specs.Questions.{plain_at, all_plain}
use Rattle.questions.proofs.lists.all_plain.Goals as goal

pub loop-x-init : goal.loop-x-init
loop-x-init c = none_asked (plain_at c.args.xs.now) (length c.args.xs.now)

pub loop-x-preserved : goal.loop-x-preserved
loop-x-preserved c = one_asked (plain_at c.args.xs.now) c.loop-x.invariant c.loop-x-test.true c.is_plain-fine.ensures

pub returns : goal.returns
unfolding all_plain
returns c = done c.loop-x.invariant c.loop-x-test.false
