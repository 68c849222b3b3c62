-- The ways of a test. Assumes nothing.
use Rattle.std.proofs.Common.{◌≡◌, Bool, true, false, cond, not, sym, refl, ◌∙◌, subst, true≢false}

-- the two ways of a test
pub when_true : {A : Type 0} {b : Bool} {r x : A} (y : A) → r ≡ x → b ≡ true → r ≡ cond b x y
when_true {r = r} {x = x} y e t = subst (λ (b : Bool). r ≡ cond b x y) (sym t) e

pub when_false : {A : Type 0} {b : Bool} {r y : A} (x : A) → r ≡ y → b ≡ false → r ≡ cond b x y
when_false {r = r} {y = y} x e t = subst (λ (b : Bool). r ≡ cond b x y) (sym t) e

-- a test and its negation
pub not_true : (b : Bool) → not b ≡ true → b ≡ false
not_true true e = sym e
not_true false e = refl

pub differ : {A : Type 0} {b : Bool} → b ≡ true → b ≡ false → A
differ t f = absurd (true≢false (sym t ∙ f))
