-- The sum over the variables before `v`. Assumes nothing.
use lib.ListN.{length}
use Rattle.outward_gap.specs.Lent.{ranges_lent}
use Rattle.outward_gap.specs.LargestWalk.{at}
use Rattle.outward_gap.proofs.LargestWalk.{Walking}
use Rattle.outward_gap.proofs.largest.largest_value.Given as goal

abbrev pub invariant-loop-v : goal.invariant-loop-v
invariant-loop-v l = Walking l.before (at l.lower) (at l.upper) (ranges_lent l.ends) (length l.lower) l.v l.sum
