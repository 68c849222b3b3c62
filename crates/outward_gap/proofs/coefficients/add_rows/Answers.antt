-- `add_rows` meets its contract. Assumes nothing.
use native.Mathlib.Omega.{arith}
use Rattle.questions.specs.Rows.{part}
use Rattle.outward_gap.specs.Lent.{kept_in, rows_lent}
use Rattle.outward_gap.proofs.Entries.{parts_same, first_row, next_row, summed_long}
use Rattle.outward_gap.proofs.coefficients.add_rows.Goals as goal

pub loop-r-init : goal.loop-r-init
loop-r-init c = λ variables. first_row (kept_in c.args.multipliers.now) (rows_lent c.args.rows.now variables) c.args.first c.requires.cleared

pub keep_row-requires : goal.keep_row-requires
unfolding part
keep_row-requires c = (parts_same c.args.rows.now.starts.now c.loop-r.r _ _ c.requires.rows_fit.same, summed_long (c.loop-r.invariant 0))

pub loop-r-preserved : goal.loop-r-preserved
unfolding part
loop-r-preserved c = λ variables. next_row (c.loop-r.invariant variables) (omega (arith, c.requires.rows_fit.each_has)) c.keep_row.ensures
