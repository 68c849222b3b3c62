-- The first "no" of document 01's questions, and the sheets that no question refuses. Assumes nothing.
use Rattle.std.specs.Prelude.{◌≡◌, Bool, true, false, cond, ℕ, Result, Ok, Err}
use Rattle.sheet.specs.declared.numbers.Refusal.{Refusal}
use Rattle.sheet.specs.declared.numbers.Refusal.TheVariants.{Sizes, Lengths, RowStarts, Columns, Entries, Bounds, Tolerances, Basis, Values, Widened, LeavingRow}
use Rattle.sheet.specs.Numbers.{number_of}
use Rattle.sheet.specs.Sheet.{Sheet, variables}
use Rattle.sheet.specs.Lengths.{lengths_fine}
use Rattle.questions.specs.Questions.{sizes_fine, all_finite, bounds_fine, tolerances_fine, leaving_row_fine}
use Rattle.questions.specs.RowQuestions.{starts_fine, columns_fine, entries_fine}
use Rattle.questions.specs.PlaceQuestions.{basis_fine}
use Rattle.questions.specs.WidenedList.{widened_fine}

-- one question's answer: its refusal where it is no
abbrev pub answer_to : Bool → Refusal → Result (Unit {0}) Refusal
answer_to fine refusal = cond fine (Ok tt) (Err refusal)

-- the number n where a question's answer is no, else what the later questions say
unfoldable pub ask : Bool → ℕ → ℕ → ℕ
ask true n later = later
ask false n later = n

-- "Over the whole input, in this order; the first "no" gives its number"
unfoldable pub first_no : Sheet → ℕ
first_no s =
    ask (sizes_fine s.rows s.structurals s.entry_count) (number_of Sizes)
    (ask (lengths_fine s) (number_of Lengths)
    (ask (starts_fine s.rows s.entry_count s.starts) (number_of RowStarts)
    (ask (columns_fine s.rows s.structurals s.starts s.columns) (number_of Columns)
    (ask (entries_fine s.rows s.starts s.entries s.right_sides) (number_of Entries)
    (ask (bounds_fine s.mins s.maxs) (number_of Bounds)
    (ask (tolerances_fine s.feasibility s.scales s.low_tolerances s.high_tolerances) (number_of Tolerances)
    (ask (basis_fine s.rows s.basic s.places) (number_of Basis)
    (ask (all_finite s.values) (number_of Values)
    (ask (widened_fine (variables s) s.widened) (number_of Widened)
    (ask (leaving_row_fine s.rows s.leaving_row) (number_of LeavingRow)
    0))))))))))

-- "An accepted sheet … is one that no question refuses"
abbrev pub Accepted : Sheet → Type 0
Accepted s = first_no s ≡ 0
