-- Flags of one byte. Assumes nothing.
use Rattle.std.specs.Prelude.{Bool, not, ℕ, eqb}

-- "a byte flag is set unless 0"
abbrev pub is_set : ℕ → Bool
is_set flag = not (eqb flag 0)
