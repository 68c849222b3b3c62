-- `add_errors` meets its contract. Assumes nothing.
use lib.ListN.{length}
use Rattle.certificate.specs.Added.{after_errors}
use Rattle.certificate.specs.Everywhere.{everyone}
use Rattle.loops.proofs.Turns.{Turn}
use Rattle.certificate.proofs.adding.add_errors.Given as goal

abbrev pub invariant-loop-v : goal.invariant-loop-v
invariant-loop-v l = Turn (λ n. after_errors l.distance (everyone l.fn.count) l.columns l.entries n l.initial.errors) (length l.columns) (length l.yielded) l.errors
