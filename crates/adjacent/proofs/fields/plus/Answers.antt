-- `plus` meets its contract: exponent and digits make up the pattern. Assumes nothing.
use Rattle.adjacent.proofs.FieldNext.{written}
use Rattle.adjacent.proofs.fields.plus.Goals as goal

pub float_from_bits-result : goal.float_from_bits-result
float_from_bits-result c = (written c.args.exponent c.args.digits c.requires).0

pub returns : goal.returns
returns c = (written c.args.exponent c.args.digits c.requires).1
