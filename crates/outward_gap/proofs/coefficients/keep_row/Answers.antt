-- `keep_row` meets its contract. Assumes nothing.
use Rattle.doubles.specs.Directed.{sum_up, sum_down, product_up, product_down}
use Rattle.outward_gap.proofs.Entries.{row_left, row_kept}
use Rattle.outward_gap.proofs.coefficients.keep_row.Goals as goal

pub returns-in-Kept : goal.returns-in-Kept
returns-in-Kept c = (
  row_kept sum_down product_down c.args.first c.args.columns.now c.args.entries.now c.args.lower.now c.in-Kept.is c.add_terms.ensures.0,
  row_kept sum_up product_up c.args.first c.args.columns.now c.args.entries.now c.args.upper.now c.in-Kept.is c.add_terms.ensures.1,
)

pub returns-in_default : goal.returns-in_default
returns-in_default c = (
  row_left sum_down product_down c.args.first c.args.m c.args.columns.now c.args.entries.now c.args.lower.now c.in_default.not-Kept,
  row_left sum_up product_up c.args.first c.args.m c.args.columns.now c.args.entries.now c.args.upper.now c.in_default.not-Kept,
)
