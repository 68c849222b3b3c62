-- `fields_of` meets its contract: the pattern is taken apart as the library does. Assumes nothing.
use Rattle.doubles.proofs.Tests.{fit}
use Rattle.adjacent.proofs.FieldNext.{laid, read}
use Rattle.adjacent.proofs.fields.fields_of.Goals as goal

pub returns : goal.returns
returns c = (laid c.f64_to_bits_with_nan-b.result, read c.args.x (fit c.args.x c.well_formed.0.1) c.f64_to_bits_with_nan-b.ensures)
