-- The verdict on a text: document 01, "Questions put to the input". Assumes nothing.
use Rattle.std.specs.Prelude.{cond, List, ℕ, Result, Err}
use Rattle.questions.specs.declared.widened.Widened.{Widened}
use Rattle.printer.specs.Answer.{answer_text}
use Rattle.sheet.specs.declared.numbers.Refusal.TheVariants.{Form}
use Rattle.sheet.specs.Numbers.{number_of}
use Rattle.sheet.specs.Sheet.{Sheet, sheet, sizes}
use Rattle.verdict.specs.declared.Verdict.{Verdict}
use Rattle.verdict.specs.Verdict.{verdict}
use Rattle.sheet_text.specs.Form.{follows_form}
use Rattle.sheet_text.specs.declared.Read.{Read}
use Rattle.sheet_text.specs.Lent.{SheetLists}
use Rattle.sheet_text.specs.SheetIn.{lent_outputs, sheet_in}

-- the sheet with these lists and this widened list, of what was read apart from them
abbrev pub sheet_with : Read → SheetLists → List Widened → Sheet
sheet_with r l widened =
    sheet (sizes r.rows r.structurals r.entries) r.feasibility r.checked r.leaving_row r.leaving_up lent_outputs
    l.rows.starts l.rows.columns l.rows.entries l.rows.right_sides l.rows.scales l.variables.integer l.variables.mins l.variables.maxs l.variables.low_tolerances
    l.variables.high_tolerances l.variables.basic l.variables.places l.variables.values widened l.rhos.rho_hi l.rhos.rho_lo l.rhos.second

-- "1. Does the file follow the sheet form, in at most 65,536 bytes?", then the other questions and the verdict on the sheet that it says
unfoldable pub text_verdict : List ℕ → Result Verdict ℕ
text_verdict text = cond (follows_form text) (verdict (sheet_in text)) (Err (number_of Form))

-- "From standard input `weigh` prints this …; on refusal one line"
unfoldable pub text_answer : List ℕ → List ℕ
text_answer text = answer_text (text_verdict text)

-- no answer is longer
abbrev pub most_answer : ℕ
most_answer = 256
