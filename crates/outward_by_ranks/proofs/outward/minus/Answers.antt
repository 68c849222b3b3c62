-- `minus` meets its contract: of the negative doubles only the one of rank 0 is a zero. Assumes nothing.
use mathlib.Core.Bool.{true, false}
use mathlib.Core.Path.{sym, ap, ◌∙◌}
use Prim.Native.Nat.{ℕ}
use native.Mathlib.Omega.{arith}
use Rattle.doubles.specs.Directed.{with_zero}
use Rattle.rank_arithmetic.specs.Rank.{double}
use Rattle.doubles.proofs.Zero.{zero_plus, with_zero_rank}
use Rattle.outward_by_ranks.proofs.outward.minus.Goals as goal

pub returns-then-r-eq0 : goal.returns-then-r-eq0
returns-then-r-eq0 c = c.positive.ensures ∙ sym (ap (λ (r : ℕ). with_zero false (double true r)) c.if-r-eq0.true ∙ zero_plus true)

pub returns-else-r-eq0 : goal.returns-else-r-eq0
returns-else-r-eq0 c = c.negative.ensures ∙ sym (with_zero_rank false true c.args.r (omega arith) c.requires)
