-- The search of a widened list, item by item. Assumes nothing.
use mathlib.Core.Path.{◌≡◌, refl, ap, sym, ◌∙◌}
use mathlib.Core.Bool.{false}
use mathlib.Core.List.{List}
use Prim.Native.Nat.{ℕ, ◌+◌, ◌<◌, ◌≤◌}
use lib.ListN.{length, get_or, drop}
use Rattle.std.proofs.lemmas.List.{at_drop_more, drop_all}
use Rattle.questions.specs.declared.widened.Widened.{Widened}
use Rattle.questions.specs.declared.widened.Marks.{Marks}
use Rattle.questions.specs.Marks.{no_marks, noted, marks_from, marks_of}
use Rattle.questions.proofs.Marked.{from_stays}

module _ (count : ℕ) (items : List Widened) where
  -- the items from the place k on, with the marks so far, give what all items give
  abbrev pub Left : Marks → ℕ → Type 0
  Left m k = marks_from count m (drop k items) ≡ marks_of count items

  pub first : Left no_marks 0
  unfolding marks_of
  first = refl

  pub next : (m more : Marks) (k : ℕ) (w : Widened) → k < length items → Left m k → more ≡ noted count (get_or items k w) m → Left more (k + 1)
  unfolding marks_from
  next m more k w less left is = rw is (sym (at_drop_more (marks_from count m) items k w less) ∙ left)

  -- marks that are not fine stay as they are
  pub stop : (m : Marks) (k : ℕ) → Left m k → m.fine ≡ false → m ≡ marks_of count items
  stop m k left refused = sym (from_stays count m refused (drop k items)) ∙ left

  pub done : (m : Marks) (k : ℕ) → length items ≤ k → Left m k → m ≡ marks_of count items
  unfolding marks_from
  done m k over left = sym (ap (marks_from count m) (drop_all k items over)) ∙ left
