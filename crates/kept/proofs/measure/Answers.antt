-- `measure` meets its contract. Assumes nothing.
use native.Mathlib.Omega.{arith}
use mathlib.Core.Path.{ap, ◌∙◌}
use Prim.Native.Nat.{ℕ}
use Rattle.loops.specs.Listed.{listed}
use Rattle.edges.specs.Model.{lent_model}
use Rattle.edges.specs.Ranges.{magnitude_in}
use Rattle.kept.proofs.measure.Goals as goal

pub write_magnitudes-requires-clause-readable : goal.write_magnitudes-requires-clause-readable
write_magnitudes-requires-clause-readable c = λ r less. c.requires.readable r (omega (arith, c.requires.each_has))

pub returns : goal.returns
returns c =
    λ marks.
    c.write_magnitudes.ensures marks
    ∙ ap (λ (n : ℕ). listed n (magnitude_in (lent_model c.args.s.now marks) c.args.l.now.terms.now)) c.requires.each_has
