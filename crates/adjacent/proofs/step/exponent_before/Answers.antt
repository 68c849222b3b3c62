-- `exponent_before` meets its contract. Assumes nothing.
use mathlib.Core.Path.{refl}
use Rattle.adjacent.proofs.step.exponent_before.Goals as goal

pub returns : goal.returns
returns c = refl
