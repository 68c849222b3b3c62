-- What one question's answer makes of the whole. Assumes nothing.
use mathlib.Core.Path.{◌≡◌, refl, sym, ◌∙◌}
use mathlib.Core.Bool.{Bool, true, false}
use Prim.Native.Nat.{ℕ}
use Rattle.std.specs.Prelude.{Result, Ok, Err}
use Rattle.std.specs.Result.{IsErrAnd}
use Rattle.std.proofs.lemmas.Result.{err_from_is_err_and}
use Rattle.sheet.specs.declared.numbers.Refusal.{Refusal}
use Rattle.sheet.specs.Numbers.{answer_number, number_of}
use Rattle.sheet.specs.Answers.{answer_to, ask}

-- a question whose answer was yes, and one whose answer was no
passes : (r : Bool) (e : Refusal) {x : Unit {0}} → Ok x ≡ answer_to r e → r ≡ true
passes true e is = refl
passes false e is = cc

fails : (r : Bool) (e : Refusal) {x : Refusal} → Err x ≡ answer_to r e → (r ≡ false) × (x ≡ e)
fails true e is = cc
fails false e is = (refl, cc)

pub passed : (e : Refusal) {r b : Bool} {x : Unit {0}} → Ok x ≡ answer_to r e → r ≡ b → b ≡ true
passed e {r} is asked = sym asked ∙ passes r e is

-- the later questions say what the whole says where a question's answer was yes
pub yes : (e : Refusal) {r b : Bool} {x : Unit {0}} {answer later : ℕ} → Ok x ≡ answer_to r e → r ≡ b → answer ≡ later → answer ≡ ask b (number_of e) later
unfolding ask
yes e is asked rest = rw (passed e is asked) rest

-- and where it was no, its refusal is the whole answer
pub no : (e : Refusal) {r b : Bool} {x : Refusal} (returned : Result (Unit {0}) Refusal) (later : ℕ) → IsErrAnd returned (λ y. y ≡ x) → Err x ≡ answer_to r e → r ≡ b
    → answer_number returned ≡ ask b (number_of e) later
unfolding ask
no e {r} {b} {x} returned later handed is asked =
    let p = err_from_is_err_and returned handed in
    let f = fails r e is in
    let none : b ≡ false = sym asked ∙ f.0 in
    rw (none, p.1, p.2, f.1) refl

-- the last question's answer
pub last : (e : Refusal) {r b : Bool} {answer : Result (Unit {0}) Refusal} → answer ≡ answer_to r e → r ≡ b → answer_number answer ≡ ask b (number_of e) 0
unfolding ask
last e {r} is asked = rw (is, sym asked) (alone r)
  where
    alone : (c : Bool) → answer_number (answer_to c e) ≡ ask c (number_of e) 0
    alone true = refl
    alone false = refl
