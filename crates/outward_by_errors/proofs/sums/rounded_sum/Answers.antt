-- `rounded_sum` meets its contract. Assumes nothing.
use lib.Ieee.{of_bits}
use Rattle.doubles.proofs.Tests.{fit}
use Rattle.outward_by_errors.proofs.Limits.{most_addend}
use Rattle.outward_by_errors.proofs.Running.{sum_ready}
use Rattle.outward_by_errors.proofs.sums.rounded_sum.Goals as goal

pub near_sum-requires : goal.near_sum-requires
unfolding of_bits
near_sum-requires g c = sum_ready c.args.a c.args.b most_addend (fit c.args.a c.well_formed.0.1) (fit c.args.b c.well_formed.1.0.1) c.within.ensures c.within-2.ensures c.if-within-a.true
