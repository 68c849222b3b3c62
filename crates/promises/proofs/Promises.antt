-- The promises, each by citing. Assumes nothing.
use mathlib.Core.Path.{◌≡◌, refl, ap, sym, subst}
use mathlib.Core.Bool.{◌&&◌}
use mathlib.Core.List.{[]}
use Rattle.std.specs.Prelude.{Ok}
use lib.Dec.{T}
use lib.Ieee.{Float, lt, le}
use lib.Ieee.Fits.{and_r}
use Rattle.cdouble.specs.Compensated.{plus_zero}
use Rattle.cdouble.proofs.TwoSum.{two_sum_exact}
use Rattle.cdouble.proofs.TwoProduct.{two_product_exact}
use Rattle.sheet.specs.Sheet.{Sheet}
use Rattle.sheet.specs.Answers.{Accepted}
use Rattle.sheet.specs.Outputs.{Lent, lent, lists}
use Rattle.kept.specs.Kept.{proof_of}
use Rattle.kept.proofs.Whole.{after_full}
use Rattle.gaps.specs.Rows.{kept_of, rows_of, ranges_of}
use Rattle.gaps.specs.Steps.{outward_of}
use Rattle.gaps.specs.ExactGap.{exact_of}
use Rattle.gaps.specs.ThirdDemand.{NotAbove, NoPoint}
use Rattle.gaps.proofs.ThirdDemand.{not_lowered}
use Rattle.verdict.specs.declared.Verdict.{Verdict}
use Rattle.verdict.specs.Verdict.{full_verdict}
use Rattle.weigh_text.specs.TextVerdict.{text_answer}
use Rattle.promises.specs.Promises.{Input, sheet_of, answer_to, FirstDemand, SecondDemand, ThirdDemand, BakersWords}
use Rattle.promises.proofs.Inputs.{either, full_if_accepted, accepted_is, no_question, doubles_of, promised_of, of_ok}
use Rattle.promises.proofs.Bounds.{bounds_within, lies_widened}

pub first_demand : FirstDemand
unfolding text_answer
first_demand =
    record {
      answered = either;
      full_if_accepted = full_if_accepted;
      accepted_if_full = λ i v is. (accepted_is i v is).0;
      printed = λ text. refl;
    }

-- what is lent for a certificate, with no place
nothing : Lent
nothing = lent (lists [] [] [] []) []

-- ---- the numbers of a verdict
module _ (i : Input) (v : Verdict) (is : answer_to i ≡ Ok v) where
  abbrev s : Sheet
  s = sheet_of i

  full : v ≡ full_verdict s
  full = (accepted_is i v is).1

  accepted : Accepted s
  accepted = no_question i (accepted_is i v is).0

  kept : v.proof ≡ proof_of s
  unfolding full_verdict
  kept = ap (λ (w : Verdict). w.proof) full

  outward : v.outward ≡ outward_of s
  unfolding full_verdict
  outward = ap (λ (w : Verdict). w.outward) full

  declined : v.declined ≡ (v.proof.holds && lt plus_zero v.outward)
  unfolding full_verdict
  declined = subst (λ (w : Verdict). w.declined ≡ (w.proof.holds && lt plus_zero w.outward)) (sym full) refl

  -- what the entry points promise of it
  not_above : NotAbove v.outward (exact_of s)
  not_above = of_ok (λ w. NotAbove w.outward (exact_of s)) is (promised_of i (accepted_is i v is).0 nothing).not_above

  rules_out : T (lt plus_zero v.outward) → NoPoint (rows_of s) (ranges_of s)
  rules_out = of_ok (λ w. T (lt plus_zero w.outward) → NoPoint (rows_of s) (ranges_of s)) is (promised_of i (accepted_is i v is).0 nothing).rules_out

pub second_demand : SecondDemand
second_demand =
    record {
      kept = kept;
      certificate = λ s d accepted before. sym (after_full s before (sym accepted) refl);
      knuth = two_sum_exact;
      dekker = two_product_exact;
      outward = outward;
      declined = declined;
    }

pub third_demand : ThirdDemand
unfolding outward_of
third_demand =
    record {
      not_above = not_above;
      rules_out = rules_out;
      not_lowered = λ i j v w is is' rows kept within.
          subst (λ (x : Float). T (le w.outward x)) (sym (outward i v is))
          (subst (λ (x : Float). T (le x (outward_of (sheet_of i)))) (sym (outward j w is'))
          (not_lowered (sheet_of i) (sheet_of j) (accepted i v is) (doubles_of i) (accepted j w is') (doubles_of j) (kept_of (sheet_of i)) (kept_of (sheet_of j)) rows kept within));
    }

pub bakers_words : BakersWords
bakers_words =
    record {
      bounds_within = λ i v is. bounds_within (sheet_of i) (accepted i v is) (doubles_of i);
      no_bake = λ i v is t p bake.
          rules_out i v is (and_r v.proof.holds (lt plus_zero v.outward) (subst T (declined i v is) t)) p
          (lies_widened (sheet_of i) (accepted i v is) (doubles_of i) p bake.within) bake.meets;
    }
