-- The answer to a text from its verdict, how long it is, and what is promised of it. Assumes nothing.
use mathlib.Core.Path.{◌≡◌, refl, ap, sym, subst, ◌∙◌}
use mathlib.Core.List.{List}
use Prim.Native.Nat.{ℕ, ◌≤◌}
use lib.Dec.{T}
use lib.Ieee.Bits.{is_true}
use lib.ListN.{length}
use Rattle.std.specs.Prelude.{Result, Err}
use Rattle.sheet.specs.declared.numbers.Refusal.TheVariants.{Form}
use Rattle.sheet.specs.Numbers.{number_of}
use Rattle.sheet.specs.Outputs.{Lent}
use Rattle.loops.proofs.Branches.{when_true}
use Rattle.kept.specs.Kept.{after}
use Rattle.printer.specs.Answer.{answer_text, written_if_fits}
use Rattle.printer.proofs.Parts.{answer_short}
use Rattle.verdict.specs.declared.Verdict.{Verdict}
use Rattle.verdict.specs.Verdict.{verdict}
use Rattle.verdict.specs.Promised.{Promised}
use Rattle.verdict.proofs.Whole.{promised}
use Rattle.sheet_text.specs.Form.{follows_form}
use Rattle.sheet_text.specs.SheetIn.{sheet_in}
use Rattle.sheet_text.proofs.Doubles.{text_of_doubles}
use Rattle.weigh_text.specs.TextVerdict.{most_answer, text_answer, text_verdict}
use Rattle.weigh_text.specs.TextPromised.{TextPromised}

module _ (text : List ℕ) where
  -- ---- a text that follows the form gets the verdict on the sheet that it says, of which all is promised
  pub formed_verdict : T (follows_form text) → text_verdict text ≡ verdict (sheet_in text)
  unfolding text_verdict
  formed_verdict form = sym (when_true (Err (number_of Form)) refl (is_true (follows_form text) form))

  pub formed_promised : T (follows_form text) → (memory : Lent) → Promised (sheet_in text) memory (after (sheet_in text) memory) (text_verdict text)
  formed_promised form memory = promised (sheet_in text) memory (formed_verdict form) refl (text_of_doubles text)

  -- ---- what is promised of it
  pub put_promised : (before : List ℕ) (answer : Result Verdict ℕ) {count : ℕ} {now : List ℕ} → answer ≡ text_verdict text
      → count ≡ length (answer_text answer) → now ≡ written_if_fits (answer_text answer) before → TextPromised text before now count
  unfolding text_answer
  put_promised before answer is long stored =
      record {
        out_is = stored ∙ ap (λ (a : Result Verdict ℕ). written_if_fits (answer_text a) before) is;
        count_is = long ∙ ap (λ (a : Result Verdict ℕ). length (answer_text a)) is;
        at_most = subst (λ (k : ℕ). k ≤ most_answer) (sym long) (answer_short answer);
        answer_promised = formed_promised;
      }
