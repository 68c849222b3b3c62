-- `walk_over` meets its contract. Assumes nothing.
use Rattle.sheet.specs.Outputs.{lent_lists}
use Rattle.edges.specs.Model.{lent_model}
use Rattle.walk.proofs.Turns.{Walking}
use Rattle.walk.proofs.steps.walk_over.Given as goal

abbrev pub invariant-walk : goal.invariant-walk
invariant-walk l = Walking (lent_model l.s l.marks) l.leaving l.estimated (lent_lists l.l) l.errors l.first l.last l.fn.before l.variables l.w
