-- `leaving_row_fine` meets its contract. Assumes nothing.
use mathlib.Core.Path.{refl}
use Rattle.questions.specs.Questions.{leaving_row_fine}
use Rattle.questions.proofs.lists.leaving_row_fine.Goals as goal

pub returns : goal.returns
unfolding leaving_row_fine
returns c = refl
