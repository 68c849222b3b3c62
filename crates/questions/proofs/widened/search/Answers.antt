-- `search` meets its contract. Assumes nothing.
use Rattle.questions.proofs.Searched.{first, next, stop, done}
use Rattle.questions.proofs.widened.search.Goals as goal

pub loop-w-init : goal.loop-w-init
loop-w-init c = rw c.none-marks.ensures (first c.args.count c.args.list.now)

pub returns-then-not-marks : goal.returns-then-not-marks
returns-then-not-marks c = stop c.args.count c.args.list.now c.loop-w.marks c.loop-w.w-index c.loop-w.invariant c.if-not-marks.true

pub loop-w-preserved : goal.loop-w-preserved
loop-w-preserved c =
    next c.args.count c.args.list.now c.loop-w.marks c.note.new.self c.loop-w.w-index _ c.loop-w-test.true c.loop-w.invariant c.note.ensures

pub returns : goal.returns
returns c = done c.args.count c.args.list.now c.loop-w.marks c.loop-w.w-index c.loop-w-test.false c.loop-w.invariant
