-- `mul_up` meets its contract. Assumes nothing.
use Rattle.std.proofs.Common.{◌≡◌, ◌*ℤ◌, T, sym, subst}
use lib.Ieee.{Float, of_bits}
use lib.Ieee.Scale.{finite}
use Rattle.exact.specs.Value.{exact}
use Rattle.doubles.specs.Directed.{IsUp}
use Rattle.doubles.proofs.Tests.{fit}
use Rattle.cdouble.specs.Compensated.{mul_up}
use Rattle.cdouble.proofs.Consequences.{mul_up_least}
use Rattle.cdouble.proofs.Contracts.{carried}
use Rattle.outward_by_errors.proofs.ZeroFactor.{zero_factor}
use Rattle.outward_by_errors.proofs.upward.mul_up.Goals as goal

least : (a b : Float) {r : Float} → r ≡ mul_up a b → (r ≡ mul_up a b) × (T (finite a) × T (finite b) → IsUp 1074 (exact a *ℤ exact b) r)
least a b e = carried (IsUp 1074 (exact a *ℤ exact b)) e (λ f. mul_up_least a b f.0 f.1)

pub returns-then-a-b : goal.returns-then-a-b
unfolding of_bits
returns-then-a-b c = least c.args.a c.args.b (zero_factor c.args.a c.args.b (fit c.args.a c.well_formed.0.1) (fit c.args.b c.well_formed.1.0.1) (subst T (sym c.if-a-b.true) tt))

pub returns-else-a-b : goal.returns-else-a-b
unfolding mul_up
returns-else-a-b c = least c.args.a c.args.b c.product_bounds.ensures.1
