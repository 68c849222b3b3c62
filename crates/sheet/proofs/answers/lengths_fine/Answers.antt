-- `lengths_fine` meets its contract. Assumes nothing.
use lib.ListN.{length}
use lib.Dec.{eqb}
use Rattle.sheet.specs.Lengths.{lengths_fit}
use Rattle.sheet.proofs.Ask.{together}
use Rattle.sheet.proofs.answers.lengths_fine.Goals as goal

pub returns : goal.returns
unfolding lengths_fit
returns c = λ widened. together (eqb (length c.args.s.now.integer.now) c.args.s.now.structurals) c.rows_fit.ensures c.variables_fit.ensures c.outputs_fit.ensures
