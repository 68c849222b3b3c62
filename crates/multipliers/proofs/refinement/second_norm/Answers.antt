-- `second_norm` meets its contract. Assumes nothing.
use lib.Ieee.{of_bits, nan}
use lib.ListN.{length, get_or}
use mathlib.Core.Path.{refl}
use native.Mathlib.Omega.{arith}
use Rattle.multipliers.specs.Refinement.{finite_max_norm}
use Rattle.loops.proofs.Turns.{first}
use Rattle.multipliers.proofs.Turns.{next_number}
use Rattle.multipliers.proofs.refinement.second_norm.Goals as goal

pub loop-x-init : goal.loop-x-init
unfolding finite_max_norm of_bits
loop-x-init c = first (finite_max_norm (λ k. get_or c.args.second.now k nan)) (length c.args.second.now)

pub loop-x-preserved : goal.loop-x-preserved
loop-x-preserved c = next_number (λ k. get_or c.args.second.now k nan) (length c.args.second.now) c.loop-x.invariant (omega arith) c.norm_with-norm.ensures refl
