-- `tally` meets its contract. Assumes nothing.
use lib.ListN.{length}
use Rattle.questions.proofs.Tallies.{Counted}
use Rattle.questions.proofs.basis.tally.Given as goal

abbrev pub invariant-loop-flag : goal.invariant-loop-flag
invariant-loop-flag l = Counted l.rows l.basic l.places l.initial.counts (length l.yielded) l.counts
