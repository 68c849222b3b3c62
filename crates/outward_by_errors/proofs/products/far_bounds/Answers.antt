-- `far_bounds` meets its contract. Assumes nothing.
use mathlib.Core.Bool.{true, false}
use mathlib.Core.Path.{◌∙◌}
use Rattle.doubles.proofs.Tests.{fit}
use Rattle.outward_by_errors.proofs.Rounded.{product_large, product_is}
use Rattle.outward_by_errors.proofs.products.far_bounds.Goals as goal

pub shifted-requires : goal.shifted-requires
shifted-requires c = product_large c.args.a c.args.b (fit c.args.a c.well_formed.0.1) (fit c.args.b c.well_formed.1.0.1) c.requires.1 c.requires.2 false c.args.p c.requires.0 c.requires.3

pub shifted-requires-2 : goal.shifted-requires-2
shifted-requires-2 c = product_large c.args.a c.args.b (fit c.args.a c.well_formed.0.1) (fit c.args.b c.well_formed.1.0.1) c.requires.1 c.requires.2 true c.args.p c.requires.0 c.requires.3

pub returns : goal.returns
returns c =
    let rounded = product_is c.args.a c.args.b (fit c.args.a c.well_formed.0.1) (fit c.args.b c.well_formed.1.0.1) c.requires.1 c.requires.2 in
    (c.shifted.ensures ∙ rounded false c.args.p c.requires.0 c.requires.3, c.shifted-2.ensures ∙ rounded true c.args.p c.requires.0 c.requires.3)
