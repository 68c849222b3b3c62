-- `signed_sum` meets its contract: in each case the sum is a sign and a magnitude whose bounds are known. Assumes nothing.
use mathlib.Core.Bool.{false}
use Prim.Native.Nat.{◌+◌, ◌-◌}
use Rattle.rank_arithmetic.specs.Rank.{at_rank}
use Rattle.doubles.proofs.Bounding.{bounds, between_zero, between_self, sum-zero, sum_like, sum_unlike, sum_none}
use Rattle.outward_by_ranks.proofs.outward.signed_sum.Goals as goal

pub returns-then-t-eq0 : goal.returns-then-t-eq0
returns-then-t-eq0 c = let a = c.args in
    bounds 0 a.first.below (at_rank 52 a.first.rank) (between_self a.first.rank c.requires.1) (sum-zero a.first.below a.second.below a.first.rank a.second.rank c.if-t-eq0.true) c.spread.ensures

pub returns-then-first-second : goal.returns-then-first-second
returns-then-first-second c = let a = c.args in
    bounds 0 a.first.below (at_rank 52 a.first.rank + at_rank 52 a.second.rank) c.rank_sum.ensures (sum_like a.first.below a.second.below a.first.rank a.second.rank c.if-first-second.true)
    c.spread-then-first-second.ensures

pub returns-then-t-r : goal.returns-then-t-r
returns-then-t-r c = let a = c.args in
    bounds 0 a.first.below (at_rank 52 a.first.rank - at_rank 52 a.second.rank) c.rank_difference.ensures
    (sum_unlike a.first.below a.second.below a.first.rank a.second.rank c.if-first-second.false c.if-t-r.true) c.spread-then-t-r.ensures

pub returns-else-t-r : goal.returns-else-t-r
returns-else-t-r c = let a = c.args in
    bounds 0 false 0 (between_zero 0) (sum_none a.first.below a.second.below a.first.rank a.second.rank c.if-first-second.false c.requires.0 c.if-t-r.false) c.zero.ensures
