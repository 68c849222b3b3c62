-- What the code asks of the counts. On an accepted sheet it holds. Assumes nothing.
use Rattle.std.specs.Prelude.{◌+◌, ◌<◌, ◌^◌}
use Rattle.walk.specs.declared.states.Walk.{Walk}

-- the counts may go up by one
pub record Small (w : Walk) : Type 0 where
  pub terms_small : w.terms + 1 < 2 ^ 64
  pub zero-small : w.zero_within_error + 1 < 2 ^ 64
  pub bounded_small : w.bounded + 1 < 2 ^ 64
