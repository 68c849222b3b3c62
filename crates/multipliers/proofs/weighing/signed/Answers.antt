-- `signed` meets its contract. Assumes nothing.
use mathlib.Core.Path.{ap, ◌∙◌}
use Rattle.loops.proofs.Branches.{when_true, when_false}
use Rattle.cdouble.specs.Compensated.{normalized}
use Rattle.multipliers.specs.Multipliers.{signed}
use Rattle.multipliers.proofs.weighing.signed.Goals.{then-leaving_up, else-leaving_up}
use Rattle.multipliers.proofs.weighing.signed.Goals as goal

pub returns : goal.returns
unfolding signed
returns c =
    c.normalized.ensures.0
    ∙ ap normalized
    (elim c.if-leaving_up.branch [
      | then-leaving_up w ↦ when_true _ (w.y-is ∙ w.neg-y.ensures) w.if-leaving_up.true
      | else-leaving_up w ↦ when_false _ w.y-is w.if-leaving_up.false
    ])
