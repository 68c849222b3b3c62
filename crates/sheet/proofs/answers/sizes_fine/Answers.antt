-- `sizes_fine` meets its contract. Assumes nothing.
use mathlib.Core.Path.{refl}
use Rattle.questions.specs.Questions.{sizes_fine}
use Rattle.sheet.proofs.answers.sizes_fine.Goals as goal

pub returns : goal.returns
unfolding sizes_fine
returns c = refl
