-- `entries_fine` meets its contract. Assumes nothing.
use mathlib.Core.Path.{refl}
use Rattle.questions.specs.RowQuestions.{entries_fine}
use Rattle.questions.proofs.rows.entries_fine.Goals as goal

pub returns : goal.returns
unfolding entries_fine
returns c = rw (c.all_finite.ensures, c.all_finite-2.ensures, c.slack_entries_fine.ensures) refl
