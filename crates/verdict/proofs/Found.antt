-- What marks say of a sheet with the list that they were found in; and that marks which pass the eleventh question, or don't, are those of some list.
-- Assumes nothing.
use native.Mathlib.Omega.{arith}
use mathlib.Core.Path.{◌≡◌, refl, ap, ◌∙◌}
use mathlib.Core.Bool.{Bool, true, false}
use mathlib.Core.List.{List, [], ◌∷◌}
use Prim.Native.Nat.{ℕ, ◌+◌}
use borrow.Author.Tests.{le-ltb}
use Rattle.questions.specs.declared.widened.Widened.{Widened}
use Rattle.questions.specs.declared.widened.Marks.{Marks}
use Rattle.questions.specs.Questions.{sizes_fine}
use Rattle.questions.specs.WidenedList.{is_widened, widened_fine}
use Rattle.questions.specs.Marks.{count_of, holds, marks_of}
use Rattle.questions.proofs.Counts.{count_most, count_is}
use Rattle.questions.proofs.Marked.{marks_fine, marks_are}

module _ (rows structurals entries : ℕ) (sizes : sizes_fine rows structurals entries ≡ true) {m : Marks} (list : List Widened) (found : m ≡ marks_of (count_of rows structurals) list) where
  pub fine_is : m.fine ≡ widened_fine (structurals + rows) list
  fine_is =
      ap (λ (x : Marks). x.fine) found
      ∙ marks_fine (count_of rows structurals) (count_most rows structurals) list
      ∙ ap (λ (n : ℕ). widened_fine n list) (count_is rows structurals entries sizes)

  pub said : widened_fine (structurals + rows) list ≡ true → holds m ≡ is_widened list
  said fine =
      ap holds found
      ∙ marks_are (count_of rows structurals) (count_most rows structurals) list (ap (λ (n : ℕ). widened_fine n list) (count_is rows structurals entries sizes) ∙ fine)

-- a list that is fine, or one whose item names no variable
unfoldable pub some_list : Bool → ℕ → List Widened
some_list true count = []
some_list false count = record { variable = count; up = 0 } ∷ []

pub some_fine : (fine : Bool) (count : ℕ) → fine ≡ widened_fine count (some_list fine count)
unfolding widened_fine some_list
some_fine true count = refl
some_fine false count = rw (le-ltb count count (omega arith)) refl
