-- `add_terms` meets its contract. Assumes nothing.
use lib.ListN.{length}
use Rattle.certificate.specs.Added.{after_terms}
use Rattle.sheet.specs.Outputs.{SameSlices, lent_lists}
use Rattle.loops.proofs.Turns.{Turn}
use Rattle.certificate.proofs.kept_terms.add_terms.Given as goal

abbrev pub invariant-loop-v : goal.invariant-loop-v
invariant-loop-v l =
    SameSlices l.initial.l l.l × Turn (λ n. after_terms l.y l.columns l.entries n (lent_lists l.initial.l)) (length l.columns) (length l.yielded) (lent_lists l.l)
