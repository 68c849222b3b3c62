-- What the functions' proofs share: a law of a definition holds of a result that is equal to it, and the tests of `rounded` and of `abs_up`. Assumes nothing.
use Rattle.std.proofs.Common.{◌≡◌, Bool, true, false, cond, pos, sym, refl, ap, ◌∙◌, subst}
use lib.Ieee.{Float, fin, binary64, lt, mul, round, units, of_bits, of_fields, odd, size}
use Rattle.std.proofs.lemmas.Float.{one_f64_is}
use lib.Count.{count_trailing_zeros}
use Rattle.doubles.specs.Neighbours.{next_up, next_down}
use Rattle.loops.proofs.Branches.{when_false}
use Rattle.cdouble.specs.declared.CDouble.{CDouble}
use Rattle.cdouble.specs.Compensated.{plus_zero, upper, lower, normalized, rounded, value, negated, abs_up, unit_error}

pub carried : {A : Type 0} {r d : A} {R : Type 0} (P : A → Type 0) → r ≡ d → (R → P d) → (r ≡ d) × (R → P r)
carried P e f = (e, λ x. subst P (sym e) (f x))

-- `rounded` where no test moves the high part of the normalized pair d
pub rounded_stays : (c : CDouble) (up : Bool) {d : CDouble} → d ≡ normalized c → (up ≡ true → lt plus_zero d.lo ≡ false) → (up ≡ false → lt d.lo plus_zero ≡ false) → d.hi ≡ rounded c up
unfolding rounded upper lower
rounded_stays c true {d} e f g = when_false (next_up d.hi) refl (f refl) ∙ ap upper e
rounded_stays c false {d} e f g = when_false (next_down d.hi) refl (g refl) ∙ ap lower e

-- `abs_up` by the test of the value
pub abs_up_is : (c : CDouble) {n : CDouble} {v r : Float} {b : Bool} → v ≡ value c → lt v plus_zero ≡ b → n ≡ cond b (negated c) c → r ≡ rounded n true → r ≡ abs_up c
unfolding abs_up
abs_up_is c e t f g = g ∙ ap (λ (d : CDouble). rounded d true) (f ∙ ap (λ (b : Bool). cond b (negated c) c) (sym t) ∙ ap (λ (x : Float). cond (lt x plus_zero) (negated c) c) e)

-- ---- the literals, as the compiler works them out
pub two_is : of_bits binary64 0x4000_0000_0000_0000 ≡ fin false 1 (pos 1)
unfolding of_bits
two_is = refl

pub eight_is : of_bits binary64 0x4020_0000_0000_0000 ≡ fin false 1 (pos 3)
unfolding of_bits
eight_is = refl

pub unit_error_lem : unit_error ≡ of_bits binary64 0x39B0_0000_0000_0000
unfolding mul round of_bits of_fields odd count_trailing_zeros size units
unit_error_lem = refl

-- the literals of `compensated_error`
pub ruleset literals = (unit_error_lem, two_is, eight_is, one_f64_is)
