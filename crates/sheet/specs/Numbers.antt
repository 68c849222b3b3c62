-- The number of each answer to document 01's questions. Assumes nothing.
use Rattle.std.specs.Prelude.{ℕ, eqb, cond, Result, Ok, Err}
use Rattle.sheet.specs.declared.numbers.Refusal.{Refusal}
use Rattle.sheet.specs.declared.numbers.Refusal.TheVariants.{Form, Sizes, Lengths, RowStarts, Columns, Entries, Bounds, Tolerances, Basis, Values, Widened, LeavingRow}

-- 01's number of each refusal
abbrev pub number_of : Refusal → ℕ
number_of Form = 1
number_of Sizes = 2
number_of Lengths = 3
number_of RowStarts = 4
number_of Columns = 5
number_of Entries = 6
number_of Bounds = 7
number_of Tolerances = 8
number_of Basis = 9
number_of Values = 10
number_of Widened = 11
number_of LeavingRow = 12

-- 01's number of an answer, 0 where no question refuses
abbrev pub answer_number : {A : Type 0} → Result A Refusal → ℕ
answer_number (Ok _) = 0
answer_number (Err refusal) = number_of refusal

-- an answer with the refusal's number in place of the refusal
abbrev pub numbered : {A : Type 0} → Result A Refusal → Result A ℕ
numbered (Ok x) = Ok x
numbered (Err refusal) = Err (number_of refusal)

-- that answer where the first "no" has this number, 0 where there is none
abbrev pub answered : {A : Type 0} → ℕ → A → Result A ℕ
answered number x = cond (eqb number 0) (Ok x) (Err number)
