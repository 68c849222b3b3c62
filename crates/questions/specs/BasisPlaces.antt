-- Which variables hold a basis place. Assumes nothing.
use Rattle.std.specs.Prelude.{Bool, ◌&&◌, cond, List, ℕ, zero, suc, ◌+◌, eqb, get_or}
use Rattle.questions.specs.Flags.{is_set}

-- whether the variable v is basic at the place p
abbrev pub holds_place : List ℕ → List ℕ → ℕ → ℕ → Bool
holds_place basic places p v = is_set (get_or basic v 0) && eqb (get_or places v 0) p

-- how many of the first n variables are basic at the place p
unfoldable pub holders : List ℕ → List ℕ → ℕ → ℕ → ℕ
holders basic places zero p = 0
holders basic places (suc n) p = holders basic places n p + cond (holds_place basic places p n) 1 0
