-- `starts_fine` meets its contract. Assumes nothing.
use mathlib.Core.Path.{refl}
use Rattle.questions.specs.RowQuestions.{starts_fine}
use Rattle.questions.proofs.RowTests.{starts_rise}
use Rattle.questions.proofs.rows.starts_fine.Goals as goal

pub returns : goal.returns
unfolding starts_fine
returns c = rw (starts_rise c.args.rows c.args.starts.now c.is_sorted.result c.requires c.is_sorted.ensures.cases) refl
