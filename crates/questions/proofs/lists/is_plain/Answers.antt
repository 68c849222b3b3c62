-- `is_plain` meets its contract. Assumes nothing.
use mathlib.Core.Path.{ap, ◌∙◌}
use Prim.Native.Nat.{ℕ}
use lib.Dec.{ltb}
use Rattle.rank_arithmetic.specs.Rank.{infinity}
use Rattle.doubles.proofs.Tests.{fit}
use Rattle.questions.proofs.Tests.{plain_bits}
use Rattle.questions.proofs.lists.is_plain.Goals as goal

pub returns : goal.returns
returns c = ap (λ (b : ℕ). ltb b infinity) c.f64_to_bits_with_nan.ensures ∙ plain_bits c.args.x (fit c.args.x c.well_formed.0.1)
