-- `summed` meets its contract. Assumes nothing.
use mathlib.Core.Path.{refl, ap, sym}
use lib.Ieee.{of_bits}
use Rattle.multipliers.specs.declared.weighing.Multiplier.{Multiplier}
use Rattle.certificate.specs.Added.{summed}
use Rattle.certificate.proofs.adding.summed.Goals as goal

pub returns-in-Kept : goal.returns-in-Kept
unfolding summed
returns-in-Kept c = rw (c.in-Kept.is, c.add_scaled.ensures, c.abs.ensures, c.value-in-Kept.ensures) refl

pub returns-then-value : goal.returns-then-value
unfolding summed of_bits
returns-then-value c = rw (c.in-Zeroed.is, ← c.value.ensures, c.if-value.true) refl

pub returns-else-value : goal.returns-else-value
unfolding summed of_bits
returns-else-value c = rw (c.in-Zeroed.is, ← c.value.ensures, c.if-value.false) refl

pub returns-in-Dropped : goal.returns-in-Dropped
unfolding summed
returns-in-Dropped c = ap (λ (m : Multiplier). summed m c.args.right_side c.args.n c.args.c) (sym c.in-Dropped.is)
