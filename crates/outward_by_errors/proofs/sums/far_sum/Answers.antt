-- `far_sum` meets its contract. Assumes nothing.
use mathlib.Core.Path.{◌∙◌}
use Rattle.doubles.proofs.Tests.{fit}
use Rattle.outward_by_errors.proofs.Rounded.{added_large, added_is}
use Rattle.outward_by_errors.proofs.sums.far_sum.Goals as goal

pub shifted-requires : goal.shifted-requires
shifted-requires g c = added_large c.args.a c.args.b (fit c.args.a c.well_formed.0.1) (fit c.args.b c.well_formed.1.0.1) c.requires _ c.two_sum.result c.two_sum.ensures.0

pub returns : goal.returns
returns g c = c.shifted.ensures ∙ added_is c.args.a c.args.b (fit c.args.a c.well_formed.0.1) (fit c.args.b c.well_formed.1.0.1) c.requires _ c.two_sum.result c.two_sum.ensures.0
