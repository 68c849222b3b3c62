-- A text put into a list of bytes at a place; what would stand beyond the list's end is left out. Assumes nothing.
use Rattle.std.specs.Prelude.{◌≡◌, List, ℕ, ◌+◌, length}
use Rattle.std.proofs.lemmas.List.Edits.{sets}

-- `after` is `before` with the text from the place `from` on, and `next` is the place after the text
pub record Stored (before after : List ℕ) (from next : ℕ) (text : List ℕ) : Type 0 where
  pub place : next ≡ from + length text
  pub list : after ≡ sets before from text
