-- The multipliers of the rows before `r` are written. Assumes nothing.
use lib.ListN.{length}
use Rattle.loops.proofs.Turns.{UpTo}
use Rattle.loops.proofs.Listed.{Filled}
use Rattle.multipliers.specs.Lent.{lent_multiplier}
use Rattle.multipliers.specs.declared.weighing.Multiplier.TheVariants.{Dropped}
use Rattle.multipliers.proofs.weighing.write_multipliers.Given as goal

abbrev pub invariant-loop-r : goal.invariant-loop-r
invariant-loop-r l = UpTo (Filled Dropped (length l.initial.multipliers) (lent_multiplier l.s l.estimated) l.multipliers) (length l.initial.multipliers) l.r
