-- `rows_fit` meets its contract. Assumes nothing.
use mathlib.Core.Path.{refl}
use Rattle.sheet.specs.Lengths.{rows_fit}
use Rattle.sheet.proofs.answers.rows_fit.Goals as goal

pub returns : goal.returns
unfolding rows_fit
returns c = refl
