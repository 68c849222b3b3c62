-- The digits of hexadecimal numbers. Assumes nothing.
use Rattle.std.specs.Prelude.{ℕ, ◌-◌, Option, None, Some, cond, ltb}

-- the value of one of the "digits 0-9A-F"; no other byte has one
abbrev pub digit_of : ℕ → Option ℕ
digit_of c =
    cond (ltb c 48) None
    (cond (ltb c 58) (Some (c - 48))
    (cond (ltb c 65) None
    (cond (ltb c 71) (Some (c - 55)) None)))
