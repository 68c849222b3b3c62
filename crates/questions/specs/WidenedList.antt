-- The widened list, and the eleventh question: document 01, "`widened`: a list of variable-and-side records", and "Questions put to the input".
-- Assumes nothing.
use Rattle.std.specs.Prelude.{Bool, true, not, ◌&&◌, List, [], ◌∷◌, ℕ, ltb, eqb}
use Rattle.std.specs.Bool.{beq}
use Rattle.std.specs.List.{list_any}
use Rattle.questions.specs.Flags.{is_set}
use Rattle.questions.specs.declared.widened.Widened.{Widened}

-- whether an item is (v, up)
abbrev pub is_item : ℕ → Bool → Widened → Bool
is_item v up w = eqb w.variable v && beq (is_set w.up) up

-- whether the widened list holds (v, up)
abbrev pub is_widened : List Widened → ℕ → Bool → Bool
is_widened list v up = list_any (is_item v up) list

-- 11. "Does each widened item name a variable, no (variable, side) twice?": of so many variables
unfoldable pub widened_fine : ℕ → List Widened → Bool
widened_fine count [] = true
widened_fine count (w ∷ ws) = ltb w.variable count && not (is_widened ws w.variable (is_set w.up)) && widened_fine count ws
