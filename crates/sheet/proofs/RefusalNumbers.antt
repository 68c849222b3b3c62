-- A refusal's number is its own, and no answer's 0; what an answer with such a number is. Assumes nothing.
use mathlib.Core.Path.{◌≡◌, refl, sym, ap, ◌∙◌}
use mathlib.Core.List.{[], ◌∷◌}
use Prim.Native.Nat.{ℕ}
use native.Mathlib.Omega.{arith}
use mathlib.Core.Bool.{Bool, true, false, cond}
use borrow.Author.Tests.{eqb-true, ne_eqb}
use lib.Dec.{eqb}
use Rattle.std.specs.Prelude.{Result, Ok, Err}
use Rattle.std.specs.Result.{IsErrAnd}
use Rattle.std.proofs.lemmas.Result.{err_from_is_err_and}
use lib.ListN.{get_or}
use Rattle.sheet.specs.declared.numbers.Refusal.{Refusal}
use Rattle.sheet.specs.declared.numbers.Refusal.TheVariants.{Form, Sizes, Lengths, RowStarts, Columns, Entries, Bounds, Tolerances, Basis, Values, Widened, LeavingRow}
use Rattle.sheet.specs.Numbers.{answered, number_of, numbered}

-- the refusals by their numbers, from 1 on
abbrev told : ℕ → Refusal
told n = get_or (Form ∷ Form ∷ Sizes ∷ Lengths ∷ RowStarts ∷ Columns ∷ Entries ∷ Bounds ∷ Tolerances ∷ Basis ∷ Values ∷ Widened ∷ LeavingRow ∷ []) n Form

told_number : (a : Refusal) → told (number_of a) ≡ a
told_number Form = refl
told_number Sizes = refl
told_number Lengths = refl
told_number RowStarts = refl
told_number Columns = refl
told_number Entries = refl
told_number Bounds = refl
told_number Tolerances = refl
told_number Basis = refl
told_number Values = refl
told_number Widened = refl
told_number LeavingRow = refl

pub number_unique : (a b : Refusal) → number_of a ≡ number_of b → a ≡ b
number_unique a b e = sym (told_number a) ∙ ap told e ∙ told_number b

-- no refusal has the number of an accepted sheet
pub refuses : (a : Refusal) → number_of a ≡ 0 → ⊥
refuses Form e = omega (arith, e)
refuses Sizes e = omega (arith, e)
refuses Lengths e = omega (arith, e)
refuses RowStarts e = omega (arith, e)
refuses Columns e = omega (arith, e)
refuses Entries e = omega (arith, e)
refuses Bounds e = omega (arith, e)
refuses Tolerances e = omega (arith, e)
refuses Basis e = omega (arith, e)
refuses Values e = omega (arith, e)
refuses Widened e = omega (arith, e)
refuses LeavingRow e = omega (arith, e)

pub not_zero : {n : ℕ} (a : Refusal) → number_of a ≡ n → eqb n 0 ≡ false
not_zero {n} a is = ne_eqb n 0 (λ none. refuses a (is ∙ none))

-- the answers of a function that asks first and then computes: where no question refuses, and where one does
pub answered_ok : {A : Type 0} {n : ℕ} {x y : A} → 0 ≡ n → y ≡ x → Ok y ≡ answered n x
answered_ok none is = rw (sym none, is) refl

pub answered_err : {A : Type 0} {n : ℕ} (refusal : Refusal) (x : A) (returned : Result A Refusal) → IsErrAnd returned (λ y. y ≡ refusal) → number_of refusal ≡ n
    → numbered returned ≡ answered n x
answered_err refusal x returned handed is =
    let p = err_from_is_err_and returned handed in
    rw (p.1, p.2, not_zero refusal is, is) refl

-- an answer that has the value: then no question refuses
chosen : {A : Type 0} (b : Bool) (n : ℕ) {x y : A} → Ok y ≡ cond b (Ok x) (Err n) → (b ≡ true) × (y ≡ x)
chosen true n is = (refl, cc)
chosen false n is = (cc, cc)

pub ok_says : {A : Type 0} (n : ℕ) {x y : A} → Ok y ≡ answered n x → (n ≡ 0) × (y ≡ x)
ok_says n is = let h = chosen (eqb n 0) n is in (eqb-true n 0 h.0, h.1)
