-- `add_row` meets its contract. Assumes nothing.
use native.Mathlib.Omega.{arith}
use Rattle.questions.specs.Rows.{part}
use Rattle.certificate.proofs.Rows.{row_fits, errors_fit, sums_fit, row_added}
use Rattle.certificate.proofs.combine.add_row.Goals as goal

pub keep_row-requires : goal.keep_row-requires
unfolding part
keep_row-requires c = row_fits c.requires.goes_on

pub spread_row-requires : goal.spread_row-requires
unfolding part
spread_row-requires c = errors_fit c.requires.goes_on

pub summed-requires : goal.summed-requires
unfolding part
summed-requires c = sums_fit c.requires.goes_on

pub returns-clause-value : goal.returns-clause-value
unfolding part
returns-clause-value c = row_added c.requires.goes_on (c.requires.weighed.at _ (omega arith)) c.abs.ensures c.spreads-spread.ensures c.keep_row.ensures.value c.spread_row.ensures c.summed.ensures
