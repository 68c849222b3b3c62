-- `product_bounds` meets its contract. Assumes nothing.
use Rattle.doubles.proofs.Tests.{fit}
use Rattle.outward_by_errors.proofs.Limits.{both_tested, most_factor}
use Rattle.outward_by_errors.proofs.products.product_bounds.Goals as goal

pub near_product-requires : goal.near_product-requires
near_product-requires c =
    let t = both_tested 510 c.args.a c.args.b most_factor (fit c.args.a c.well_formed.0.1) (fit c.args.b c.well_formed.1.0.1) c.within.ensures c.within-2.ensures c.if-within.true in
    (c.split.ensures.0, c.split-then-within.ensures.0, t.0, t.1)
