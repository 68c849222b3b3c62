-- What the code asks of the lent slices and of the counts. On an accepted sheet it holds. Assumes nothing.
use Rattle.std.specs.Prelude.{◌≡◌, false, List, ℕ, ◌+◌, ◌-◌, ◌<◌, ◌^◌, Float}
use Rattle.std.specs.Float.Ieee.{eq}
use Rattle.cdouble.specs.Compensated.{plus_zero, value}
use Rattle.sheet.specs.Outputs.{Lists}
use Rattle.certificate.specs.Added.{pair_at}
use Rattle.certificate.specs.Reads.{Lent}
use Rattle.edges.specs.Model.{Model}
use Rattle.edges.specs.RoomReads.{Known, Readable}
use Rattle.walk.specs.declared.states.Walk.{Walk}

-- a walk from first to last on this state, each of whose counts may go up by one at each variable; the magnitudes' list has those of the rows
-- whose slacks have a coefficient that is not 0, since the walk asks for the edges of no other variable
pub record WalkFits (m : Model) (row_magnitudes : List Float) (first last : ℕ) (l : Lists) (errors : List Float) (w : Walk) : Type 0 where
  pub readable : (v : ℕ) → v < last → Readable m v
  pub known : (v : ℕ) → v < last → eq (value (pair_at l.high l.low v)) plus_zero ≡ false → Known m row_magnitudes v
  pub lent : Lent last l errors
  pub terms_small : w.terms + (last - first) < 2 ^ 64
  pub zero_small : w.zero_within_error + (last - first) < 2 ^ 64
  pub bounded_small : w.bounded + (last - first) < 2 ^ 64
