-- `far` meets its contract. Assumes nothing.
use lib.Dec.{leb→le}
use Rattle.doubles.proofs.Patterns.{finite_no_nan}
use Rattle.doubles.proofs.Tests.{fit}
use Rattle.outward_by_errors.proofs.Limits.{far_tested}
use Rattle.outward_by_errors.proofs.ranges.far.Goals as goal

pub float_to_bits-result : goal.float_to_bits-result
float_to_bits-result c = finite_no_nan c.args.x c.requires

pub returns : goal.returns
returns c = λ t. far_tested c.args.x c.requires (fit c.args.x c.well_formed.0.1) (leb→le _ _ t)
