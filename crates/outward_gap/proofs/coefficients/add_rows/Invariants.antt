-- The rows before `r` are added. Assumes nothing.
use Prim.Native.Nat.{ℕ}
use lib.ListN.{length}
use Rattle.loops.proofs.Turns.{UpTo}
use Rattle.outward_gap.specs.Lent.{kept_in, rows_lent}
use Rattle.outward_gap.proofs.Entries.{Summed}
use Rattle.outward_gap.proofs.coefficients.add_rows.Given as goal

abbrev pub invariant-loop-r : goal.invariant-loop-r
invariant-loop-r l =
    (variables : ℕ) → UpTo (Summed (kept_in l.multipliers) (rows_lent l.rows variables) l.first (length l.initial.lower) l.lower l.upper) (length l.rows.right_sides.now) l.r
