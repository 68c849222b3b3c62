-- `without` meets its contract. Assumes nothing.
use Rattle.rank_arithmetic.proofs.Widths.{cut_all}
use Rattle.rank_arithmetic.proofs.digits.without.Goals as goal

pub returns-else-c-lt128 : goal.returns-else-c-lt128
returns-else-c-lt128 c = cut_all c.args.n c.args.c c.ranges.n.fits c.if-c-lt128.false
