-- The magnitudes of the rows before `r` are written. Assumes nothing.
use lib.ListN.{length}
use lib.Ieee.{nan}
use Rattle.loops.proofs.Turns.{UpTo}
use Rattle.loops.proofs.Listed.{Filled}
use Rattle.questions.specs.declared.widened.Marks.{Marks}
use Rattle.edges.specs.Model.{lent_model}
use Rattle.edges.specs.Ranges.{magnitude_in}
use Rattle.edges.proofs.magnitudes.write_magnitudes.Given as goal

abbrev pub invariant-loop-r : goal.invariant-loop-r
invariant-loop-r l =
    (marks : Marks) → UpTo (Filled nan (length l.initial.row_magnitudes) (magnitude_in (lent_model l.s marks) l.terms) l.row_magnitudes) (length l.initial.row_magnitudes) l.r
