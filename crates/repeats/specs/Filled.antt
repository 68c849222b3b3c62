-- Slices that values are stored in, one after the other; a store beyond the slice's end is left out. Assumes nothing.
use Rattle.std.specs.Prelude.{List, map, ℕ}
use Rattle.std.proofs.lemmas.List.Edits.{sets}

-- a slice with one value of each thing, from a place on
abbrev pub filled_from : {R A : Type 0} → ℕ → (R → A) → List R → List A → List A
filled_from place f things before = sets before place (map f things)

-- from the front on
abbrev pub column : {R A : Type 0} → (R → A) → List R → List A → List A
column f things before = filled_from 0 f things before
