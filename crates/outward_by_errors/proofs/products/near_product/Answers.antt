-- `near_product` meets its contract. Assumes nothing.
use mathlib.Core.Path.{sym, subst}
use lib.Dec.{T}
use Rattle.doubles.proofs.Tests.{fit}
use Rattle.outward_by_errors.proofs.Rounded.{product_finite_hi}
use Rattle.outward_by_errors.proofs.products.near_product.Goals as goal

pub far-requires : goal.far-requires
far-requires c =
    product_finite_hi c.args.a c.args.b (fit c.args.a c.well_formed.0.1) (fit c.args.b c.well_formed.1.1.0.1) c.requires.2 c.requires.3 c.halved_product-p.result c.halved_product-p.ensures

pub far_bounds-requires : goal.far_bounds-requires
far_bounds-requires c = (c.halved_product-p.ensures, c.requires.2, c.requires.3, c.far.ensures (subst T (sym c.if-far.true) tt))
