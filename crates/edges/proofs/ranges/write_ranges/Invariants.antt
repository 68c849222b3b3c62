-- The edges of the variables before `v` are written. Assumes nothing.
use mathlib.Core.Bool.{true, false}
use lib.ListN.{length}
use lib.Ieee.{nan}
use Rattle.loops.proofs.Turns.{UpTo}
use Rattle.loops.proofs.Listed.{Filled}
use Rattle.edges.specs.Model.{lent_model}
use Rattle.edges.specs.Ranges.{range_end}
use Rattle.edges.proofs.ranges.write_ranges.Given as goal

abbrev pub invariant-loop-v : goal.invariant-loop-v
invariant-loop-v l =
    UpTo (Filled nan (length l.initial.low) (range_end (lent_model l.s l.marks) l.leaving l.terms false) l.low) (length l.initial.low) l.v
    × UpTo (Filled nan (length l.initial.low) (range_end (lent_model l.s l.marks) l.leaving l.terms true) l.high) (length l.initial.low) l.v
