-- `Parts::of` meets its contract. Assumes nothing.
use Rattle.doubles.proofs.Patterns.{finite_no_nan}
use Rattle.doubles.proofs.Tests.{fit}
use Rattle.doubles.proofs.Bounding.{parts}
use Rattle.outward_by_ranks.proofs.outward.Parts.of.Goals as goal

pub float_to_bits-bits : goal.float_to_bits-bits
float_to_bits-bits c = finite_no_nan c.args.a c.requires

pub returns : goal.returns
returns c = let p = parts c.args.a c.requires (fit c.args.a c.well_formed.0.1) in (p.small, p.value)
