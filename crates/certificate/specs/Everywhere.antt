-- The errors added for every variable, as if each were in the basis, and those of the basis kept afterwards: which variables are in the basis is
-- then asked once for each variable, and not once for each entry. Assumes nothing.
use Rattle.std.specs.Prelude.{cond, List, ℕ, get_or, replicate, Float}
use Rattle.cdouble.specs.Compensated.{plus_zero}
use Rattle.questions.specs.Flags.{is_set}
use Rattle.loops.specs.Listed.{each_place}
use Rattle.certificate.specs.System.{System}

-- the flags of a basis that has every variable
abbrev pub everyone : ℕ → List ℕ
everyone count = replicate count 1

-- a system with that basis
abbrev pub everywhere : ℕ → System → System
everywhere count m = record m { basic = everyone count }

-- an error by its variable's flag: 0 if it is not in the basis
abbrev pub if_basic : ℕ → Float → Float
if_basic flag error = cond (is_set flag) error plus_zero

-- that of the variable v, which stays if there is no flag of it
abbrev pub kept_at : List ℕ → ℕ → Float → Float
kept_at basic v error = if_basic (get_or basic v 1) error

-- all errors
abbrev pub basic_only : List ℕ → List Float → List Float
basic_only basic errors = each_place (kept_at basic) errors
