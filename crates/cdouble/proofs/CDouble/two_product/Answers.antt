-- `two_product` meets its contract. Assumes nothing.
use Rattle.std.proofs.Common.{◌*ℤ◌}
use Rattle.exact.specs.Value.{exact}
use Rattle.doubles.proofs.Tests.{fit}
use Rattle.cdouble.specs.Exactness.{IsExact}
use Rattle.cdouble.proofs.Contracts.{carried}
use Rattle.cdouble.proofs.TwoProduct.{two_product_exact}
use Rattle.cdouble.proofs.CDouble.two_product.Goals as goal

pub returns : goal.returns
returns c = carried (IsExact 1074 (exact c.args.a *ℤ exact c.args.b)) c.halved_product.ensures
    (two_product_exact c.args.a c.args.b (fit c.args.a c.well_formed.0.1) (fit c.args.b c.well_formed.1.0.1))
