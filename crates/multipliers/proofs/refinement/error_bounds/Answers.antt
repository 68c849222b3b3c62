-- `error_bounds` meets its contract. Assumes nothing.
use Rattle.multipliers.proofs.Branches.{bounds_unchecked, bounds_checked}
use Rattle.multipliers.proofs.refinement.error_bounds.Goals as goal

pub returns-then-s-eq0 : goal.returns-then-s-eq0
returns-then-s-eq0 c = bounds_unchecked c.args.s.now.checked c.args.s.now.rho_hi.now c.args.s.now.rho_lo.now c.args.s.now.second.now c.if-s-eq0.true

pub returns : goal.returns
returns c =
    bounds_checked c.args.s.now.checked c.args.s.now.rho_hi.now c.args.s.now.rho_lo.now c.args.s.now.second.now c.if-s-eq0.false c.rho_norm.ensures c.second_norm.ensures c.norms_converge.ensures
