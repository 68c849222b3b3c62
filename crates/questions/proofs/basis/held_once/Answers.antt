-- `held_once` meets its contract. Assumes nothing.
use mathlib.Core.Path.{◌∙◌}
use Rattle.questions.proofs.Tallies.{ones}
use Rattle.questions.proofs.basis.held_once.Goals as goal

pub returns : goal.returns
returns c = c.all_one.ensures ∙ ones c.requires c.tally.ensures
