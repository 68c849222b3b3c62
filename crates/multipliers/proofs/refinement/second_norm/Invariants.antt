-- `second_norm` meets its contract. Assumes nothing.
use lib.Ieee.{nan}
use lib.ListN.{length, get_or}
use Rattle.multipliers.specs.Refinement.{finite_max_norm}
use Rattle.loops.proofs.Turns.{Turn}
use Rattle.multipliers.proofs.refinement.second_norm.Given as goal

abbrev pub invariant-loop-x : goal.invariant-loop-x
invariant-loop-x l = Turn (finite_max_norm (λ k. get_or l.second k nan)) (length l.second) l.x-index l.norm
