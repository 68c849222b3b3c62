-- `rank_difference` meets its contract: a far second rank only moves the lower bound, and a near one is taken from the first at its exponent. Assumes nothing.
use native.Mathlib.Omega.{arith}
use native.Mathlib.Nat.{le_of_lt}
use Rattle.rank_arithmetic.proofs.RankSums.{Operands, Aligned, far-difference, second_less, difference_rankable, difference_bounds}
use Rattle.rank_arithmetic.proofs.ranks.rank_difference.Goals as goal
use Rattle.rank_arithmetic.proofs.ranks.rank_difference.Lts as lts
use Rattle.rank_arithmetic.proofs.ranks.rank_difference.Reads as reads
use Rattle.rank_arithmetic.proofs.ranks.rank_difference.Tie as tie

operands : (c : lts.After-exponent2 tie.the-claims reads.Pre reads.Post) → Operands c.args.r c.args.t c.exponent-j.result c.exponent-k.result
operands c =
    record { positive = c.requires.0; ordered = le_of_lt c.requires.1; finite = c.requires.2; first_exponent = c.exponent-j.ensures; second_exponent = c.exponent-k.ensures }

aligned : (c : goal.After-from-second) → let a = c.args in Aligned a.r a.t c.exponent-j.result c.exponent-k.result c.from.result c.from-second.result
aligned c = record { operands = operands c.before.before.before; close = c.if-d-gt55.false; first_significand = c.from.ensures; second_significand = c.from-second.ensures }

pub returns-then-d-gt55 : goal.returns-then-d-gt55
returns-then-d-gt55 c = far-difference (operands c.before.before) c.if-d-gt55.true c.requires.1 c.capped.ensures

pub overflow_sub-first : goal.overflow_sub-first
overflow_sub-first c = omega (arith, second_less (aligned c) c.requires.1)

pub wide_ranks-requires : goal.wide_ranks-requires
wide_ranks-requires c = difference_rankable (aligned c) c.requires.1

pub returns : goal.returns
returns c = difference_bounds (aligned c.before) c.requires.1 c.wide_ranks.ensures
