-- `search` meets its contract. Assumes nothing.
use Rattle.questions.proofs.Searched.{Left}
use Rattle.questions.proofs.widened.search.Given as goal

abbrev pub invariant-loop-w : goal.invariant-loop-w
invariant-loop-w l = Left l.count l.list l.marks l.w-index
