-- `all_finite` meets its contract. Assumes nothing.
use lib.ListN.{length}
use Rattle.loops.proofs.All.{none_asked, one_asked}
use Rattle.loops.proofs.Turns.{done}
use Rattle.questions.specs.Questions.{finite_at, all_finite}
use Rattle.questions.proofs.lists.all_finite.Goals as goal

pub loop-x-init : goal.loop-x-init
loop-x-init c = none_asked (finite_at c.args.xs.now) (length c.args.xs.now)

pub loop-x-preserved : goal.loop-x-preserved
loop-x-preserved c = one_asked (finite_at c.args.xs.now) c.loop-x.invariant c.loop-x-test.true c.is_finite-fine.ensures

pub returns : goal.returns
unfolding all_finite
returns c = done c.loop-x.invariant c.loop-x-test.false
