-- `abs_up` meets its contract. Assumes nothing.
use Rattle.std.proofs.Common.{◌+ℤ◌, refl}
use lib.Ieee.{of_bits}
use Rattle.exact.specs.Value.{exact}
use Rattle.doubles.specs.Directed.{IsUp}
use Rattle.doubles.proofs.Tests.{fit}
use Rattle.cdouble.specs.Compensated.{abs_up}
use Rattle.cdouble.specs.Exactness.{SumRange, abs_ℤ}
use Rattle.cdouble.proofs.Consequences.{abs_up-in_range}
use Rattle.cdouble.proofs.Contracts.{carried, abs_up_is}
use Rattle.cdouble.proofs.CDouble.abs_up.Goals as goal
use Rattle.cdouble.proofs.CDouble.abs_up.Lts as lts
use Rattle.cdouble.proofs.CDouble.abs_up.Reads as reads
use Rattle.cdouble.proofs.CDouble.abs_up.Tie as tie

law : (c : lts.Start tie.the-claims reads.Pre reads.Post) → let p = c.args.self in SumRange p.hi p.lo → IsUp 0 (abs_ℤ (exact p.hi +ℤ exact p.lo)) (abs_up p)
law c = abs_up-in_range c.args.self (fit c.args.self.hi c.well_formed.0.1.1.0.1) (fit c.args.self.lo c.well_formed.0.1.1.1.0.1)

pub returns-then-value : goal.returns-then-value
unfolding of_bits
returns-then-value c = carried (IsUp 0 _) (abs_up_is c.args.self c.value.ensures c.if-value.true c.neg.ensures c.rounded.ensures.0) (law c.before.before.before.before)

pub returns-else-value : goal.returns-else-value
unfolding of_bits
returns-else-value c = carried (IsUp 0 _) (abs_up_is c.args.self c.value.ensures c.if-value.false refl c.rounded-else-value.ensures.0) (law c.before.before.before)
