-- `outputs_fit` meets its contract. Assumes nothing.
use mathlib.Core.Path.{refl}
use Rattle.sheet.specs.Lengths.{outputs_fit}
use Rattle.sheet.proofs.answers.outputs_fit.Goals as goal

pub returns : goal.returns
unfolding outputs_fit
returns c = refl
