-- `rho_norm` meets its contract. Assumes nothing.
use lib.Ieee.{of_bits, nan}
use lib.ListN.{length, length-append}
use Rattle.std.proofs.lemmas.Slice.Zip.{zip_turn}
use Rattle.cdouble.specs.Compensated.{value}
use Rattle.multipliers.specs.Refinement.{finite_max_norm, rho_at}
use Rattle.loops.proofs.Turns.{first}
use Rattle.multipliers.proofs.Turns.{next_number}
use Rattle.multipliers.proofs.refinement.rho_norm.Goals as goal

pub loop-hi-init : goal.loop-hi-init
unfolding finite_max_norm of_bits
loop-hi-init c = first (finite_max_norm (λ k. value (rho_at c.args.rho_hi.now c.args.rho_lo.now k))) (length c.args.rho_hi.now)

pub loop-hi-preserved : goal.loop-hi-preserved
loop-hi-preserved c =
    let t =
    zip_turn c.args.rho_hi.now c.args.rho_lo.now c.loop-hi.yielded c.into_iter-hi-iterator.result c.loop-hi.hi-iterator c.next.new.self _
    (cc) (cc) c.loop-hi.yielded_by _ c.in-Some.is c.next.ensures.steps in
    rw length-append
    (next_number (λ k. value (rho_at c.args.rho_hi.now c.args.rho_lo.now k)) (length c.args.rho_hi.now) c.loop-hi.invariant t.0 c.norm_with-norm.ensures
    (rw (t.2 nan, t.3 nan) at c.value.ensures))
