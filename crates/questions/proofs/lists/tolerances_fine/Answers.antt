-- `tolerances_fine` meets its contract. Assumes nothing.
use mathlib.Core.Path.{refl}
use Rattle.questions.specs.Questions.{tolerances_fine}
use Rattle.questions.proofs.lists.tolerances_fine.Goals as goal

pub returns : goal.returns
unfolding tolerances_fine
returns c = rw (c.all_plain.ensures, c.all_plain-2.ensures, c.is_plain.ensures, c.all_plain-3.ensures, c.products_finite.ensures) refl
