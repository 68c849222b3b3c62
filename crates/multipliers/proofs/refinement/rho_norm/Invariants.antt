-- `rho_norm` meets its contract. Assumes nothing.
use lib.ListN.{length}
use Rattle.cdouble.specs.Compensated.{value}
use Rattle.multipliers.specs.Refinement.{finite_max_norm, rho_at}
use Rattle.loops.proofs.Turns.{Turn}
use Rattle.multipliers.proofs.refinement.rho_norm.Given as goal

abbrev pub invariant-loop-hi : goal.invariant-loop-hi
invariant-loop-hi l = Turn (finite_max_norm (λ k. value (rho_at l.rho_hi l.rho_lo k))) (length l.rho_hi) (length l.yielded) l.norm
