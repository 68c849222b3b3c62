-- `wide_ranks` meets its contract: the width says how many digits are dropped, and what is left of them moves the upper bound. Assumes nothing.
use native.Mathlib.Omega.{arith}
use mathlib.Core.Path.{ap, ◌∙◌}
use Prim.Native.Nat.{ℕ, ◌+◌, ◌-◌}
use Rattle.rank_arithmetic.proofs.WideRanks.{Scaled, width_le, exponent_le, word_fits, shift_fits, shift_bounds, cut_fits, whole_fits, cut_bounds}
use Rattle.rank_arithmetic.proofs.ranks.wide_ranks.Goals as goal

scaled : (c : goal.After-saturating_sub-k) → Scaled c.args.n c.args.s c.args.l c.saturating_sub-k.result
scaled c =
    record { rankable = c.requires; exponent = c.saturating_sub-k.ensures ∙ ap (λ (x : ℕ). x + c.args.s - (c.args.l + 53)) c.width.ensures }

pub overflow_add-e : goal.overflow_add-e
overflow_add-e c = omega (arith, width_le c.args.n c.args.s c.args.l c.requires)

pub overflow_add-t : goal.overflow_add-t
overflow_add-t c = omega (arith, exponent_le (scaled c))

pub overflow_mul-f : goal.overflow_mul-f
overflow_mul-f c = omega (arith, exponent_le (scaled c))

pub overflow_cast-whole : goal.overflow_cast-whole
overflow_cast-whole c = record { fits = word_fits (scaled c.before) c.if-t-s.true }

pub overflow_add-f : goal.overflow_add-f
overflow_add-f c = record { fits = shift_fits (scaled c.before) c.if-t-s.true }

pub without-cut-requires : goal.without-cut-requires
without-cut-requires c = cut_fits (scaled c.before) c.if-t-s.false

pub overflow_add-f-else-t-s : goal.overflow_add-f-else-t-s
overflow_add-f-else-t-s c = record { fits = whole_fits (scaled c.before.before.before) c.if-t-s.false c.without-cut.ensures }

pub returns-then-t-s : goal.returns-then-t-s
returns-then-t-s c = shift_bounds (scaled c.before.before) c.if-t-s.true c.capped.ensures

pub returns-else-t-s : goal.returns-else-t-s
returns-else-t-s c = cut_bounds (scaled c.before.before.before.before) c.if-t-s.false c.without-cut.ensures c.capped-else-t-s.ensures
