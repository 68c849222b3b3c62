-- What an answer says of its input: which answers there are, and what is promised of each. Assumes nothing.
use native.Mathlib.Omega.{arith}
use mathlib.Core.Path.{◌≡◌, refl, sym, ap, ◌∙◌, subst}
use mathlib.Core.Bool.{Bool, true, false, cond}
use mathlib.Core.Logic.{◌⊎◌, inl, inr}
use mathlib.Core.List.{List}
use Prim.Native.Nat.{ℕ, zero, suc, ◌≤◌}
use borrow.Author.Tests.{eq-eqb, ne_eqb}
use lib.Dec.{T, eqb}
use Rattle.std.specs.Prelude.{IfOk, Result, Ok, Err}
use Rattle.loops.proofs.Branches.{when_true, when_false}
use Rattle.sheet.specs.declared.numbers.Refusal.TheVariants.{Form}
use Rattle.sheet.specs.Numbers.{number_of}
use Rattle.sheet.specs.Sheet.{Sheet, Doubles}
use Rattle.sheet.specs.Answers.{Accepted, ask, first_no}
use Rattle.sheet.specs.Outputs.{Lent}
use Rattle.sheet.proofs.RefusalNumbers.{ok_says}
use Rattle.kept.specs.Kept.{after, filled_in}
use Rattle.verdict.specs.declared.Verdict.{Verdict}
use Rattle.verdict.specs.Verdict.{verdict, full_verdict}
use Rattle.verdict.specs.Promised.{Promised}
use Rattle.verdict.proofs.Whole.{promised}
use Rattle.sheet_text.specs.Form.{follows_form}
use Rattle.sheet_text.specs.SheetIn.{sheet_in}
use Rattle.sheet_text.proofs.Doubles.{text_of_doubles}
use Rattle.weigh_text.specs.TextVerdict.{text_verdict}
use Rattle.weigh_text.proofs.Answering.{formed_promised, formed_verdict}
use Rattle.promises.specs.Promises.{Input, in_slices, as_text, sheet_of, IsAccepted, answer_to, IsRefusal, IsFull}

-- ---- the numbers of the questions
ask_few : (b : Bool) (n later : ℕ) → n ≤ 12 → later ≤ 12 → ask b n later ≤ 12
unfolding ask
ask_few true n later first then = then
ask_few false n later first then = first

few : (s : Sheet) → first_no s ≤ 12
unfolding first_no
few s =
    ask_few _ 2 _ (omega arith) (ask_few _ 3 _ (omega arith) (ask_few _ 4 _ (omega arith) (ask_few _ 5 _ (omega arith) (ask_few _ 6 _ (omega arith)
    (ask_few _ 7 _ (omega arith) (ask_few _ 8 _ (omega arith) (ask_few _ 9 _ (omega arith) (ask_few _ 10 _ (omega arith) (ask_few _ 11 _ (omega arith)
    (ask_few _ 12 _ (omega arith) (omega arith)))))))))))

-- ---- the answer to a sheet: a full verdict where no question refuses, else the number of the first that does
full_verdict-is : (s : Sheet) → Accepted s → verdict s ≡ Ok (full_verdict s)
unfolding verdict
full_verdict-is s accepted = sym (when_true (Err (first_no s)) refl (eq-eqb (first_no s) 0 accepted))

accepted_of_ok : (s : Sheet) (v : Verdict) → verdict s ≡ Ok v → Accepted s × (v ≡ full_verdict s)
unfolding verdict
accepted_of_ok s v is = ok_says (first_no s) (sym is)

-- ---- every input
module _ (s : Sheet) (d : Doubles s) where
  slices_either : (n : ℕ) → first_no s ≡ n → IsFull (in_slices s d) ⊎ ((number : ℕ) × IsRefusal (in_slices s d) number)
  unfolding verdict after
  slices_either zero e = inl (full_verdict-is s e)
  slices_either (suc n) e =
      let refused : eqb (first_no s) 0 ≡ false = ne_eqb (first_no s) 0 (λ none. omega (arith, e, none)) in
      inr (
        suc n,
        record {
          numbered = (omega arith, subst (λ (k : ℕ). k ≤ 12) e (few s));
          answer_is = sym (when_false (Ok (full_verdict s)) refl refused) ∙ ap Err e;
          untouched = λ before. sym (when_false (filled_in s before) refl refused);
        },
      )

module _ (text : List ℕ) where
  text_refused : follows_form text ≡ false → answer_to (as_text text) ≡ Err (number_of Form)
  unfolding text_verdict
  text_refused bad = sym (when_false (verdict (sheet_in text)) refl bad)

  text_either : (b : Bool) → follows_form text ≡ b → IsFull (as_text text) ⊎ ((number : ℕ) × IsRefusal (as_text text) number)
  text_either true form = go (slices_either (sheet_in text) (text_of_doubles text) (first_no (sheet_in text)) refl)
    where
      same : text_verdict text ≡ verdict (sheet_in text)
      same = formed_verdict text (subst T (sym form) tt)

      go : IsFull (in_slices (sheet_in text) (text_of_doubles text)) ⊎ ((number : ℕ) × IsRefusal (in_slices (sheet_in text) (text_of_doubles text)) number)
          → IsFull (as_text text) ⊎ ((number : ℕ) × IsRefusal (as_text text) number)
      go (inl full) = inl (same ∙ full)
      go (inr refused) =
          inr (refused.0, record { numbered = refused.1.numbered; answer_is = same ∙ refused.1.answer_is; untouched = λ before. refl })
  text_either false form = inr (number_of Form, record { numbered = (omega arith, omega arith); answer_is = text_refused form; untouched = λ before. refl })

pub either : (i : Input) → IsFull i ⊎ ((number : ℕ) × IsRefusal i number)
either (in_slices s d) = slices_either s d (first_no s) refl
either (as_text text) = text_either text (follows_form text) refl

pub full_if_accepted : (i : Input) → IsAccepted i → IsFull i
full_if_accepted (in_slices s d) accepted = full_verdict-is s accepted
full_if_accepted (as_text text) accepted = formed_verdict text accepted.0 ∙ full_verdict-is (sheet_in text) accepted.1

-- ---- an answer that is a verdict
text_formed : (text : List ℕ) (v : Verdict) → text_verdict text ≡ Ok v → T (follows_form text) × (verdict (sheet_in text) ≡ Ok v)
unfolding text_verdict
text_formed text v is = go (follows_form text) refl is
  where
    go : (b : Bool) → follows_form text ≡ b → cond b (verdict (sheet_in text)) (Err (number_of Form)) ≡ Ok v → T (follows_form text) × (verdict (sheet_in text) ≡ Ok v)
    go true form e = (subst T (sym form) tt, e)
    go false form e = cc

pub accepted_is : (i : Input) (v : Verdict) → answer_to i ≡ Ok v → IsAccepted i × (v ≡ full_verdict (sheet_of i))
accepted_is (in_slices s d) v is = accepted_of_ok s v is
accepted_is (as_text text) v is =
    let form = text_formed text v is in
    let accepted = accepted_of_ok (sheet_in text) v form.1 in
    ((form.0, accepted.0), accepted.1)

pub no_question : (i : Input) → IsAccepted i → Accepted (sheet_of i)
no_question (in_slices s d) accepted = accepted
no_question (as_text text) accepted = accepted.1

pub doubles_of : (i : Input) → Doubles (sheet_of i)
doubles_of (in_slices s d) = d
doubles_of (as_text text) = text_of_doubles text

-- the record that the contracts of the entry points promise, of the answer
pub promised_of : (i : Input) → IsAccepted i → (memory : Lent) → Promised (sheet_of i) memory (after (sheet_of i) memory) (answer_to i)
promised_of (in_slices s d) accepted memory = promised s memory refl refl d
promised_of (as_text text) accepted memory = formed_promised text accepted.0 memory

-- what holds of an answer that is a verdict
pub of_ok : (P : Verdict → Type 0) {r : Result Verdict ℕ} {v : Verdict} → r ≡ Ok v → IfOk r P → P v
of_ok P is holds = subst (λ (r : Result Verdict ℕ). IfOk r P) is holds
