-- `row_part` meets its contract. Assumes nothing.
use mathlib.Core.Path.{refl}
use Rattle.questions.specs.Rows.{part}
use Rattle.questions.proofs.rows.row_part.Goals as goal

pub returns : goal.returns
unfolding part
returns g c = refl
