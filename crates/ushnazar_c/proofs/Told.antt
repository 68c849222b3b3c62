-- What is promised of the library's answer as C gets it. Assumes nothing.
use mathlib.Core.Path.{◌≡◌, refl, ap, sym, subst, ◌∙◌}
use mathlib.Core.Bool.{Bool, true, false, cond}
use Prim.Native.Nat.{ℕ}
use lib.Dec.{T, eqb}
use lib.Ieee.{lt}
use Rattle.std.specs.Prelude.{IfOk, Result, Ok, Err}
use Rattle.cdouble.specs.Compensated.{plus_zero}
use Rattle.sheet.specs.Sheet.{Sheet}
use Rattle.sheet.specs.Answers.{first_no}
use Rattle.sheet.specs.Outputs.{Lent}
use Rattle.kept.specs.Kept.{after}
use Rattle.gaps.specs.ExactGap.{exact_of}
use Rattle.gaps.specs.ThirdDemand.{NotAbove}
use Rattle.verdict.specs.declared.Verdict.{Verdict}
use Rattle.verdict.specs.Verdict.{full_verdict, verdict}
use Rattle.verdict.specs.Promised.{Promised as LibraryPromised}
use Rattle.ushnazar_c.specs.declared.Answer.{Answer}
use Rattle.ushnazar_c.specs.Answer.{told}
use Rattle.ushnazar_c.specs.Promised.{Promised}

-- what holds of a full verdict holds of the struct's where its refusal is 0 …
told_full : (P : Verdict → Type 0) (r : Result Verdict ℕ) → ((n : ℕ) → r ≡ Err n → n ≡ 0 → ⊥) → IfOk r P → (told r).refusal ≡ 0 → P (told r).verdict
told_full P (Ok v) none holds is = holds
told_full P (Err number) none holds is = absurd (none number refl is)

-- … and a refusal's outward gap is +0
told_above : {N : Type 0} (r : Result Verdict ℕ) → IfOk r (λ v. T (lt plus_zero v.outward) → N) → T (lt plus_zero (told r).verdict.outward) → N
unfolding lt
told_above (Ok v) rules t = rules t
told_above (Err number) rules t = absurd t

module _ (s : Sheet) where
  -- a refusal's number is not 0
  number_not_zero : (n : ℕ) → verdict s ≡ Err n → n ≡ 0 → ⊥
  unfolding verdict
  number_not_zero n is none = go (eqb (first_no s) 0) refl is
    where
      go : (b : Bool) → eqb (first_no s) 0 ≡ b → cond b (Ok (full_verdict s)) (Err (first_no s)) ≡ Err n → ⊥
      go true e is = cc
      go false e is = cc

  -- what is lent is the same places after the call and after the return
  pub told_promised : {before now left : Lent} {r : Result Verdict ℕ} {answer : Answer} → answer ≡ told r → LibraryPromised s before now r
      → left ≡ after s before → Promised s before left answer
  told_promised {before} {left = left} {r = r} is library lent_is =
      subst (Promised s before left) (sym is)
      (record {
        answer_is = ap told library.answer_is;
        lent_is = lent_is;
        not_above = told_full (λ v. NotAbove v.outward (exact_of s)) r (λ n refused. number_not_zero n (sym library.answer_is ∙ refused)) library.not_above;
        rules_out = told_above r library.rules_out;
        doubles = library.doubles;
      })
