-- `weighed_plain` meets its contract. Assumes nothing.
use mathlib.Core.Path.{refl}
use Rattle.judgement.specs.Gap.{weighed_plain}
use Rattle.judgement.proofs.weighed.weighed_plain.Goals as goal

pub returns : goal.returns
unfolding weighed_plain
returns c = refl
