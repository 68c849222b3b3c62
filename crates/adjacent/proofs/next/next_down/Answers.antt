-- `next_down` meets its contract: of sign − it is the other neighbour of the magnitude, negated. Assumes nothing.
use mathlib.Core.Path.{ap, ◌∙◌}
use lib.Ieee.{neg}
use Rattle.adjacent.proofs.FieldNext.{negative_down}
use Rattle.adjacent.proofs.next.next_down.Goals as goal

pub returns-then-f : goal.returns-then-f
returns-then-f c = ap neg c.above.ensures ∙ negative_down c.fields_of-f.result c.args.x c.if-f.true c.fields_of-f.ensures.1
