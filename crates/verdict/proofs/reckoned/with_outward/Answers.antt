-- `with_outward` meets its contract. Assumes nothing.
use lib.Ieee.{lt, of_bits}
use mathlib.Core.Path.{refl}
use Rattle.verdict.proofs.reckoned.with_outward.Goals as goal

pub returns : goal.returns
unfolding lt of_bits
returns c = refl
