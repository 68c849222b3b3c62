-- `put_line` meets its contract: the opening, the value and the end, one after the other. Assumes nothing.
use Rattle.printer.proofs.Storing.{then}
use Rattle.printer.specs.Answer.{line}
use Rattle.printer.proofs.line.put_line.Goals as goal

pub returns-clause-stored : goal.returns-clause-stored
unfolding line
returns-clause-stored g c = then c.put_text-start.ensures.stored (then c.put-end.ensures.stored c.put_text.ensures.stored)
