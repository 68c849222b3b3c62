-- `next_up` meets its contract: of sign − it is the other neighbour of the magnitude, negated. Assumes nothing.
use mathlib.Core.Path.{ap, ◌∙◌}
use lib.Ieee.{neg}
use Rattle.adjacent.proofs.FieldNext.{negative_up}
use Rattle.adjacent.proofs.next.next_up.Goals as goal

pub returns-then-f : goal.returns-then-f
returns-then-f c = ap neg c.below.ensures ∙ negative_up c.fields_of-f.result c.args.x c.if-f.true c.fields_of-f.ensures.1
