-- Document 01, "Questions put to the input": the ninth, put to the basis. A name that ends in At is the test at one place. Assumes nothing.
use Rattle.std.specs.Prelude.{Bool, not, ◌&&◌, ◌||◌, List, ℕ, ltb, eqb, length, get_or}
use Rattle.questions.specs.Flags.{is_set}
use Rattle.loops.specs.Places.{all_below}
use Rattle.questions.specs.BasisPlaces.{holders}

-- ---- 9. "Is each basis place 0 to rows − 1 held by just one variable, …
abbrev pub held_once_at : List ℕ → List ℕ → ℕ → Bool
held_once_at basic places p = eqb (holders basic places (length basic) p) 1

-- … and no other place by any?"
abbrev pub place_fine_at : ℕ → List ℕ → List ℕ → ℕ → Bool
place_fine_at rows basic places v = not (is_set (get_or basic v 0)) || ltb (get_or places v 0) rows

unfoldable pub basis_fine : ℕ → List ℕ → List ℕ → Bool
basis_fine rows basic places = all_below (length basic) (place_fine_at rows basic places) && all_below rows (held_once_at basic places)
