-- The widened list as marks: one for each variable and side, and whether the eleventh question passes. The laws that the marks say what the list
-- says stand in proofs/Marked.antt. Assumes nothing.
use Rattle.std.specs.Prelude.{Bool, true, false, not, cond, ◌&&◌, List, [], ◌∷◌, ℕ, ◌+◌, ◌*◌, ltb, leb, get_or, set, replicate}
use Rattle.questions.specs.Limits.{most_rows, most_structurals, most_variables}
use Rattle.questions.specs.Flags.{is_set}
use Rattle.questions.specs.declared.widened.Widened.{Widened}
use Rattle.questions.specs.declared.widened.Marks.{Marks}

abbrev pub marks : List Bool → Bool → Marks
marks places fine = record { places = places; fine = fine }

-- two marks for each variable, down and up
abbrev pub mark_of : ℕ → Bool → ℕ
mark_of v up = 2 * v + cond up 1 0

-- whether the mark of (v, up) is set
abbrev pub holds : Marks → ℕ → Bool → Bool
holds m v up = get_or m.places (mark_of v up) false

-- of a list with no item
abbrev pub no_marks : Marks
no_marks = marks (replicate (2 * most_variables) false) true

-- one item more, of a sheet with so many variables; after one that names no variable, or comes twice, nothing is marked
unfoldable pub noted : ℕ → Widened → Marks → Marks
noted count w m =
    cond (m.fine && ltb w.variable count)
    (marks (set m.places (mark_of w.variable (is_set w.up)) true) (not (holds m w.variable (is_set w.up))))
    (marks m.places false)

-- the items one after the other
unfoldable pub marks_from : ℕ → Marks → List Widened → Marks
marks_from count m [] = m
marks_from count m (w ∷ ws) = marks_from count (noted count w m) ws

unfoldable pub marks_of : ℕ → List Widened → Marks
marks_of count list = marks_from count no_marks list

-- how many variables a sheet of so many rows and structural variables has, the slacks among them; none where the second question refuses its size
abbrev pub count_of : ℕ → ℕ → ℕ
count_of rows structurals = cond (leb rows most_rows && leb structurals most_structurals) (structurals + rows) 0
