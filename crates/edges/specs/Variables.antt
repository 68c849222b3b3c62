-- Which variables are integer, kept on their bounds, or hold a basis place: document 01, "Tolerances and edges". Assumes nothing.
use Rattle.std.specs.Prelude.{Bool, cond, ◌&&◌, ◌||◌, List, ℕ, zero, suc, ltb, get_or, Float}
use Rattle.std.specs.Float.{nan}
use Rattle.std.specs.Float.Ieee.{eq}
use Rattle.questions.specs.Flags.{is_set}
use Rattle.questions.specs.BasisPlaces.{holds_place}

-- `is_integer`: "Domains Integer and Boolean are both "integer"", slacks are not
abbrev pub is_integer : ℕ → List ℕ → ℕ → Bool
is_integer structurals integer v = ltb v structurals && is_set (get_or integer v 0)

-- `holds_on_bounds`: an integer variable, and a structural one that its bounds fix
unfoldable pub holds_on_bounds : ℕ → List ℕ → List Float → List Float → ℕ → Bool
holds_on_bounds structurals integer mins maxs v =
    is_integer structurals integer v || (ltb v structurals && eq (get_or mins v nan) (get_or maxs v nan))

-- the first of the variables from v on, n of them, that holds the place p; the one after them where none does
unfoldable pub holder_from : List ℕ → List ℕ → ℕ → ℕ → ℕ → ℕ
holder_from basic places p v zero = v
holder_from basic places p v (suc n) = cond (holds_place basic places p v) v (holder_from basic places p (suc v) n)
