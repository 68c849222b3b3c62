-- `gap_in` meets its contract. Assumes nothing.
use mathlib.Core.Path.{ap, sym, ◌∙◌}
use lib.Ieee.{of_bits}
use lib.ListN.{length, length-replicate}
use Prim.Native.Nat.{ℕ}
use Rattle.loops.specs.Places.{all_below}
use Rattle.gaps.specs.Rows.{finite_parts}
use Rattle.outward_gap.specs.Lent.{kept_in, ranges_lent, rows_lent}
use Rattle.outward_gap.proofs.Gap.{gap_reckoned}
use Rattle.outward_gap.proofs.reckoning.gap_in.Goals as goal

pub returns : goal.returns
unfolding of_bits
returns c =
    gap_reckoned (kept_in c.args.multipliers.now) (rows_lent c.args.rows.now (length c.args.ends.now.low.now)) (ranges_lent c.args.ends.now)
    (ap length c.requires.cleared.0 ∙ length-replicate _ _) (c.add_rows.ensures _)
    (ap (λ (k : ℕ). all_below k (λ r. finite_parts (kept_in c.args.multipliers.now r))) (sym c.requires.fits.rows_fit.each_has) ∙ c.requires.finite)
    c.largest_value-m.ensures (c.right_side.ensures _) c.difference.ensures
