-- The right side of the rows before the one that is due. Assumes nothing.
use Prim.Native.Nat.{ℕ}
use lib.ListN.{length}
use Rattle.loops.proofs.Turns.{Turn}
use Rattle.gaps.specs.Steps.{right_side}
use Rattle.outward_gap.specs.Lent.{kept_in, rows_lent}
use Rattle.outward_gap.proofs.right_sides.right_side.Given as goal

abbrev pub invariant-loop-m : goal.invariant-loop-m
invariant-loop-m l = (variables : ℕ) → Turn (right_side (kept_in l.multipliers) (rows_lent l.rows variables)) (length l.multipliers) (length l.yielded) l.sum
