-- `rank_sum` meets its contract: a far second rank only moves the upper bound, and a near one is added to the first at its exponent. Assumes nothing.
use Rattle.rank_arithmetic.proofs.RankSums.{Operands, Aligned, far-sum, sum_rankable, sum_bounds}
use Rattle.rank_arithmetic.proofs.ranks.rank_sum.Goals as goal
use Rattle.rank_arithmetic.proofs.ranks.rank_sum.Lts as lts
use Rattle.rank_arithmetic.proofs.ranks.rank_sum.Reads as reads
use Rattle.rank_arithmetic.proofs.ranks.rank_sum.Tie as tie

operands : (c : lts.After-exponent2 tie.the-claims reads.Pre reads.Post) → Operands c.args.r c.args.t c.exponent-j.result c.exponent-k.result
operands c =
    record { positive = c.requires.0; ordered = c.requires.1; finite = c.requires.2; first_exponent = c.exponent-j.ensures; second_exponent = c.exponent-k.ensures }

aligned : (c : goal.After-from-second) → let a = c.args in Aligned a.r a.t c.exponent-j.result c.exponent-k.result c.from.result c.from-second.result
aligned c = record { operands = operands c.before.before.before; close = c.if-d-gt55.false; first_significand = c.from.ensures; second_significand = c.from-second.ensures }

pub returns-then-d-gt55 : goal.returns-then-d-gt55
returns-then-d-gt55 c = far-sum (operands c.before.before) c.if-d-gt55.true c.capped.ensures

pub wide_ranks-requires : goal.wide_ranks-requires
wide_ranks-requires c = sum_rankable (aligned c)

pub returns : goal.returns
returns c = sum_bounds (aligned c.before) c.wide_ranks.ensures
