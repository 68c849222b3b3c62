-- The tests of the variables before the one that is due. Assumes nothing.
use lib.ListN.{length}
use Rattle.loops.specs.Places.{all_below}
use Rattle.loops.proofs.Turns.{Turn}
use Rattle.questions.specs.PlaceQuestions.{place_fine_at}
use Rattle.questions.proofs.basis.places_fine.Given as goal

abbrev pub invariant-loop-flag : goal.invariant-loop-flag
invariant-loop-flag l = Turn (λ k. all_below k (place_fine_at l.rows l.basic l.places)) (length l.basic) (length l.yielded) l.fine
