-- The verdict from what the calls gave, and what an entry point promises, which follows from its equations. Assumes nothing.
use mathlib.Core.Path.{◌≡◌, refl, sym, subst}
use mathlib.Core.Bool.{Bool, true, false, cond}
use Prim.Native.Nat.{ℕ}
use borrow.Author.Tests.{eqb-true}
use lib.Dec.{T, eqb}
use lib.Ieee.{lt}
use Rattle.std.specs.Prelude.{IfOk, Result, Ok, Err}
use Rattle.std.specs.Result.{IsErrAnd}
use Rattle.cdouble.specs.Compensated.{plus_zero}
use Rattle.sheet.specs.declared.numbers.Refusal.{Refusal}
use Rattle.sheet.specs.Numbers.{number_of, numbered}
use Rattle.sheet.proofs.RefusalNumbers.{answered_err, answered_ok}
use Rattle.sheet.specs.Sheet.{Sheet, Doubles}
use Rattle.sheet.specs.Answers.{Accepted, first_no}
use Rattle.sheet.specs.Outputs.{Lent}
use Rattle.kept.specs.Kept.{after, filled_in}
use Rattle.kept.proofs.Whole.{after_full, after_refused}
use Rattle.gaps.specs.Rows.{rows_of, ranges_of}
use Rattle.gaps.specs.ExactGap.{exact_of}
use Rattle.gaps.specs.ThirdDemand.{NotAbove, NoPoint}
use Rattle.verdict.specs.declared.Verdict.{Verdict}
use Rattle.verdict.specs.Verdict.{full_verdict, verdict}
use Rattle.verdict.specs.Promised.{Promised}
use Rattle.verdict.proofs.Full.{full_not_above, full_rules_out}

module _ (s : Sheet) where
  -- ---- what holds of the full verdict of an accepted sheet holds of its answer
  pub of_verdict : (P : Verdict → Type 0) → (Accepted s → P (full_verdict s)) → IfOk (verdict s) P
  unfolding verdict
  of_verdict P holds = go (eqb (first_no s) 0) refl
    where
      go : (b : Bool) → eqb (first_no s) 0 ≡ b → IfOk (cond b (Ok (full_verdict s)) (Err (first_no s))) P
      go true e = holds (eqb-true (first_no s) 0 e)
      go false e = tt

  -- ---- what is promised, from the equations
  pub promised : (before : Lent) {now : Lent} {answer : Result Verdict ℕ} → answer ≡ verdict s → now ≡ after s before → Doubles s → Promised s before now answer
  promised before {now} {answer} answer_is lent_is doubles =
      subst (Promised s before now) (sym answer_is)
      (record {
        answer_is = refl;
        lent_is = lent_is;
        not_above = of_verdict (λ v. NotAbove v.outward (exact_of s)) (λ accepted. full_not_above s accepted doubles);
        rules_out = of_verdict (λ v. T (lt plus_zero v.outward) → NoPoint (rows_of s) (ranges_of s)) (λ accepted. full_rules_out s accepted doubles);
        doubles = doubles;
      })

-- ---- where no question refuses, and where one does
module _ (s : Sheet) (before : Lent) (doubles : Doubles s) where
  pub accepted_whole : {v : Verdict} {now : Lent} → 0 ≡ first_no s → v ≡ full_verdict s → now ≡ filled_in s before → Promised s before now (Ok v)
  unfolding verdict
  accepted_whole none is filled = promised s before (answered_ok none is) (after_full s before none filled) doubles

  pub refused_whole : (refusal : Refusal) (returned : Result Verdict Refusal) → IsErrAnd returned (λ y. y ≡ refusal) → number_of refusal ≡ first_no s
      → Promised s before before (numbered returned)
  unfolding verdict
  refused_whole refusal returned handed is =
      promised s before (answered_err refusal (full_verdict s) returned handed is) (after_refused s before refusal is) doubles
