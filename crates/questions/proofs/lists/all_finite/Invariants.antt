-- The tests of the numbers before the one that is due. Assumes nothing.
use lib.ListN.{length}
use Rattle.loops.specs.Places.{all_below}
use Rattle.loops.proofs.Turns.{Turn}
use Rattle.questions.specs.Questions.{finite_at}
use Rattle.questions.proofs.lists.all_finite.Given as goal

abbrev pub invariant-loop-x : goal.invariant-loop-x
invariant-loop-x l = Turn (λ k. all_below k (finite_at l.xs)) (length l.xs) l.x-index l.fine
