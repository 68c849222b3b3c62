-- `outward` meets its contract: a neighbour where the low part lies there. Assumes nothing.
use mathlib.Core.Path.{ap, ◌∙◌}
use mathlib.Core.Bool.{Bool, cond}
use Rattle.doubles.proofs.NextRank.{neighbour}
use Rattle.outward_by_errors.proofs.Rounded.{end_is}
use Rattle.outward_by_errors.proofs.stepped.outward.Goals as goal

pub returns : goal.returns
returns g c = c.stepped.ensures ∙ ap (λ (step : Bool). cond step (neighbour _ c.args.s.hi) c.args.s.hi) c.past.ensures ∙ end_is _ c.args.s
