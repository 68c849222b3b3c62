-- `near_sum` meets its contract. Assumes nothing.
use mathlib.Core.Path.{◌∙◌}
use Rattle.doubles.proofs.Tests.{fit}
use Rattle.outward_by_errors.proofs.Rounded.{sum_normal, sum_is}
use Rattle.outward_by_errors.proofs.sums.near_sum.Goals as goal

pub outward-requires : goal.outward-requires
outward-requires g c = sum_normal c.args.a c.args.b (fit c.args.a c.well_formed.0.1) (fit c.args.b c.well_formed.1.0.1) c.requires c.two_sum.result c.two_sum.ensures.0 _

pub returns : goal.returns
returns g c = c.outward.ensures ∙ sum_is c.args.a c.args.b (fit c.args.a c.well_formed.0.1) (fit c.args.b c.well_formed.1.0.1) c.requires c.two_sum.result c.two_sum.ensures.0 _
