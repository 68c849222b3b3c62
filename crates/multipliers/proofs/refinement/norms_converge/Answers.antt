-- `norms_converge` meets its contract. Assumes nothing.
use lib.Ieee.{of_bits}
use mathlib.Core.Path.{ap, sym, ◌∙◌}
use Rattle.std.proofs.Common.{Some}
use Rattle.multipliers.specs.Refinement.{converges}
use Rattle.multipliers.proofs.refinement.norms_converge.Goals as goal

pub returns-in-Some-Some : goal.returns-in-Some-Some
unfolding of_bits
returns-in-Some-Some c = ap (converges (Some c.in-Some-Some.x)) (sym c.in-Some-Some.is-1) ∙ ap (λ n. converges n c.args.second_norm) (sym c.in-Some-Some.is-0)
