-- The entries before the one that is due are added. Assumes nothing.
use lib.ListN.{length}
use Rattle.loops.proofs.Turns.{UpTo}
use Rattle.outward_gap.proofs.Entries.{Entered}
use Rattle.outward_gap.proofs.coefficients.add_terms.Given as goal

abbrev pub invariant-loop-v : goal.invariant-loop-v
invariant-loop-v l = UpTo (Entered l.first l.fn.y l.columns l.entries l.initial.lower l.initial.upper l.lower l.upper) (length l.columns) (length l.yielded)
