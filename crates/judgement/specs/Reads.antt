-- What the code asks of the lent slices. On an accepted sheet it holds. Assumes nothing.
use Rattle.std.specs.Prelude.{List, ℕ, Float}
use Rattle.certificate.specs.declared.adding.Sums.{Sums}
use Rattle.sheet.specs.Outputs.{Lists}
use Rattle.edges.specs.Model.{Model}
use Rattle.walk.specs.Walk.{started}
use Rattle.walk.specs.Reads.{WalkFits}
use Rattle.judgement.specs.CutReads.{LeavingFits}

-- a judgement over count variables, with the rows' magnitudes
pub record JudgeFits (m : Model) (row_magnitudes : List Float) (count leaving : ℕ) (l : Lists) (errors : List Float) (c : Sums) : Type 0 where
  pub walk_fits : WalkFits m row_magnitudes 0 count l errors (started c)
  pub leaving_fits : LeavingFits m leaving
