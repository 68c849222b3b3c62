-- `range_fine` meets its contract. Assumes nothing.
use mathlib.Core.Path.{refl}
use lib.Ieee.{of_bits}
use Rattle.questions.specs.Questions.{range_fine}
use Rattle.questions.proofs.lists.range_fine.Goals as goal

pub returns : goal.returns
unfolding range_fine of_bits
returns c = refl
