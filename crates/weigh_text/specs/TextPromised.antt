-- What `weigh_text` promises of its answer to a text. Assumes nothing.
use Rattle.std.specs.Prelude.{◌≡◌, ◌≤◌, List, ℕ, T, length}
use Rattle.printer.specs.Answer.{written_if_fits}
use Rattle.kept.specs.Kept.{after}
use Rattle.verdict.specs.Promised.{Promised}
use Rattle.sheet_text.specs.Form.{follows_form}
use Rattle.sheet_text.specs.SheetIn.{sheet_in}
use Rattle.weigh_text.specs.TextVerdict.{most_answer, text_answer, text_verdict}
use Rattle.sheet.specs.Outputs.{Lent}

-- of a text, what is lent for the answer, before and now, and how many bytes the answer has
pub record TextPromised (text before now : List ℕ) (count : ℕ) : Type 0 where
  -- "From standard input `weigh` prints this …; on refusal one line": at the front of what is lent, and nothing where it does not fit
  pub out_is : now ≡ written_if_fits (text_answer text) before
  pub count_is : count ≡ length (text_answer text)
  pub at_most : count ≤ most_answer
  -- what is printed of a text that follows the form is an answer to the sheet that it says, of which all is promised that is of a lent sheet's,
  -- whatever memory the certificate goes to
  pub answer_promised : T (follows_form text) → (memory : Lent) → Promised (sheet_in text) memory (after (sheet_in text) memory) (text_verdict text)
