-- `variables_fit` meets its contract. Assumes nothing.
use mathlib.Core.Path.{refl}
use Rattle.sheet.specs.Lengths.{variables_fit}
use Rattle.sheet.proofs.answers.variables_fit.Goals as goal

pub returns : goal.returns
unfolding variables_fit
returns c = refl
