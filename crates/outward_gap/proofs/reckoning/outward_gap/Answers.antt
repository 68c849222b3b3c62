-- `outward_gap` meets its contract. Assumes nothing.
use mathlib.Core.Path.{ap, sym, ◌∙◌}
use mathlib.Core.Bool.{not}
use lib.Ieee.{of_bits}
use lib.ListN.{length}
use Rattle.std.proofs.lemmas.List.{take-replicate}
use Rattle.loops.specs.Places.{all_below}
use Rattle.gaps.specs.Rows.{finite_parts}
use Rattle.outward_gap.specs.Lent.{kept_in, ranges_lent, rows_lent}
use Rattle.outward_gap.proofs.Gap.{gap_infinite}
use Rattle.outward_gap.proofs.reckoning.outward_gap.Goals as goal

pub returns-then-not-all_finite_parts : goal.returns-then-not-all_finite_parts
unfolding of_bits
returns-then-not-all_finite_parts c =
    gap_infinite (kept_in c.args.multipliers.now) (rows_lent c.args.rows.now (length c.args.ends.now.low.now)) (ranges_lent c.args.ends.now)
    (c.all_finite_parts.ensures ∙ ap (λ k. all_below k (λ r. finite_parts (kept_in c.args.multipliers.now r))) c.requires.rows_fit.each_has) (ap not c.if-not-all_finite_parts.true)

pub gap_in-requires-clause-cleared : goal.gap_in-requires-clause-cleared
unfolding of_bits
gap_in-requires-clause-cleared c = (take-replicate _ _ _ c.requires.ends_fit.few, take-replicate _ _ _ c.requires.ends_fit.few)

pub gap_in-requires-clause-finite : goal.gap_in-requires-clause-finite
gap_in-requires-clause-finite c = sym c.all_finite_parts.ensures ∙ c.if-not-all_finite_parts.false
