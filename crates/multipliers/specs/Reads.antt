-- What the code reads of one row lies within the lent slices. On an accepted sheet it does. Assumes nothing.
use Rattle.std.specs.Prelude.{ℕ, ◌<◌, length}
use Rattle.questions.specs.Rows.{slack_of}
use Rattle.sheet.specs.declared.lent.Sheet.{Sheet as Slices}

pub record MultiplierRead (s : Slices) (r : ℕ) : Type 0 where
  pub in_mins : slack_of s.structurals r < length s.mins.now
  pub in_maxs : slack_of s.structurals r < length s.maxs.now
  pub in_rho_hi : r < length s.rho_hi.now
  pub in_rho_lo : r < length s.rho_lo.now
  pub in_second : r < length s.second.now
