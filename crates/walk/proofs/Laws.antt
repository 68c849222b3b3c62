-- What document 01 promises of the walk: one that is carried on is the walk over both windows, where it has ended it stays, a coefficient of
-- value 0 is skipped, and the leaving variable's edge is 0 unless its coefficient counted. Assumes nothing.
use native.Mathlib.Omega.{arith}
use mathlib.Core.Path.{◌≡◌, refl, ap, sym, ◌∙◌, subst}
use mathlib.Core.Logic.{◌⊎◌, inl, inr}
use mathlib.Core.Bool.{Bool, true, false, ◌&&◌}
use mathlib.Core.List.{List}
use Prim.Native.Nat.{ℕ, zero, suc, ◌+◌, ◌-◌, ◌≤◌}
use borrow.Author.Tests.{eqb-true}
use lib.Dec.{eqb}
use lib.Ieee.{Float, lt, le, eq}
use lib.Ieee.Scale.{finite}
use Rattle.std.proofs.lemmas.Bool.{cond_both, cond-true, cond-false, false_from_ne_true}
use Rattle.doubles.specs.Compare.{absolute}
use Rattle.cdouble.specs.Compensated.{plus_zero, value}
use Rattle.loops.proofs.Branches.{differ}
use Rattle.sheet.specs.Outputs.{Lists}
use Rattle.certificate.specs.Certificate.{Certificate}
use Rattle.edges.specs.Model.{Model, bound_of}
use Rattle.edges.specs.Edges.{edge}
use Rattle.walk.specs.declared.states.Coefficient.{Coefficient}
use Rattle.walk.specs.declared.states.Walk.{Walk}
use Rattle.walk.specs.declared.states.End.{End}
use Rattle.walk.specs.declared.states.End.TheVariants.{Through, Spoilt, Unlimited}
use Rattle.walk.specs.declared.states.Walked.{Walked}
use Rattle.walk.specs.States.{at_infinity, counted, counted_as_zero, error_of_zero, walked}
use Rattle.walk.specs.Step.{coefficient_at, step}
use Rattle.walk.specs.Walk.{onward, started, walk_from, walk_over}

-- ---- a walk that is carried on, and one that has ended
onward_through : (w : Walk) (end : End) → walked w end ≡ onward (λ x. walked x Through) (walked w end)
unfolding onward
onward_through w Through = refl
onward_through w Spoilt = refl
onward_through w Unlimited = refl

onward_twice : (then next : Walk → Walked) (w : Walk) (end : End) → onward then (onward next (walked w end)) ≡ onward (λ x. onward then (next x)) (walked w end)
unfolding onward
onward_twice then next w Through = refl
onward_twice then next w Spoilt = refl
onward_twice then next w Unlimited = refl

-- how it ended, where it did
abbrev pub Ended : End → Type 0
Ended Through = ⊥
Ended Spoilt = Unit
Ended Unlimited = Unit

onward_stays : (next : Walk → Walked) (w : Walk) (end : End) → Ended end → onward next (walked w end) ≡ walked w end
unfolding onward
onward_stays next w Through ended = absurd ended
onward_stays next w Spoilt ended = refl
onward_stays next w Unlimited ended = refl

module _ (m : Model) (leaving : ℕ) (estimated : Bool) (l : Lists) (errors : List Float) (first : ℕ) (before : Walk) where
  abbrev over : ℕ → Walked
  over n = walk_from m leaving estimated l errors first n before

  -- over n variables, and on over k more from there on the state that it left, unless it had ended
  pub carried_on : (n k : ℕ) → over (n + k) ≡ onward (walk_from m leaving estimated l errors (first + n) k) (over n)
  unfolding walk_from
  carried_on n zero = let e : n + zero ≡ n = omega arith in ap over e ∙ onward_through (over n).walk (over n).end
  carried_on n (suc k) =
      let e : n + suc k ≡ suc (n + k) = omega arith in
      let at : first + (n + k) ≡ first + n + k = omega arith in
      let next = λ (v : ℕ). step m leaving v (coefficient_at estimated l errors v) in
      ap over e
      ∙ ap (λ (v : ℕ). onward (next v) (over (n + k))) at
      ∙ ap (onward (next (first + n + k))) (carried_on n k)
      ∙ onward_twice (next (first + n + k)) (walk_from m leaving estimated l errors (first + n) k) (over n).walk (over n).end

  -- "The walk over the variables ends early at the first spoilt or unlimited coefficient; sums and counts stay as they are then"
  pub ended_stays : (k n : ℕ) → k ≤ n → Ended (over k).end → over n ≡ over k
  ended_stays k n more ended =
      let e : n ≡ k + (n - k) = omega arith in
      ap over e ∙ carried_on k (n - k) ∙ onward_stays (walk_from m leaving estimated l errors (first + k) (n - k)) (over k).walk (over k).end ended

-- ---- the walk over the first n variables is the one from 0 on, on the state before any variable
module _ (m : Model) (leaving : ℕ) (estimated : Bool) (c : Certificate) where
  pub from_started : (n : ℕ) → walk_from m leaving estimated c.lists_of c.errors 0 n (started c.sums_of) ≡ walk_over m leaving estimated c n
  unfolding walk_from walk_over
  from_started zero = refl
  from_started (suc n) =
      let e : 0 + n ≡ n = omega arith in
      rw e (ap (onward (step m leaving n (coefficient_at estimated c.lists_of c.errors n))) (from_started n))

  stays : (k n : ℕ) → k ≤ n → Ended (walk_over m leaving estimated c k).end → walk_over m leaving estimated c n ≡ walk_over m leaving estimated c k
  stays k n more =
      subst (λ (f : ℕ → Walked). Ended (f k).end → f n ≡ f k) (λ i j. from_started j i) (ended_stays m leaving estimated c.lists_of c.errors 0 (started c.sums_of) k n more)

  pub spoilt_stays : (k n : ℕ) → k ≤ n → (walk_over m leaving estimated c k).end ≡ Spoilt → walk_over m leaving estimated c n ≡ walk_over m leaving estimated c k
  spoilt_stays k n more e = stays k n more (subst Ended (sym e) tt)

  pub unlimited_stays : (k n : ℕ) → k ≤ n → (walk_over m leaving estimated c k).end ≡ Unlimited → walk_over m leaving estimated c n ≡ walk_over m leaving estimated c k
  unlimited_stays k n more e = stays k n more (subst Ended (sym e) tt)

-- ---- a step
-- what holds of the state as it is, of one that counted as zero, and of one that counted, its coefficient not 0 and its bound finite
module _ (P : Walked → Type 0) (w : Walk) (same : (end : End) → P (walked w end)) (as-zero : P (walked (counted_as_zero w) Through)) where
  infinity-cases : (c : Coefficient) → P (at_infinity c w)
  unfolding at_infinity
  infinity-cases c =
      cond_both (finite (error_of_zero c)) _ _ P (λ t. cond_both (le (absolute (value c.p)) (error_of_zero c)) _ _ P (λ less. as-zero) (λ more. same Unlimited)) (λ f. same Spoilt)

  pub step_cases : (m : Model) (leaving v : ℕ) (c : Coefficient) → let up = lt plus_zero (value c.p) in
      (eq (value c.p) plus_zero ≡ false → finite (bound_of m v up) ≡ true → P (walked (counted (eqb v leaving) c (bound_of m v up) (edge m leaving v up) w) Through)) → P (step m leaving v c w)
  unfolding step
  step_cases m leaving v c counts =
      let p = value c.p in
      cond_both (eq p plus_zero) _ _ P (λ z. same Through)
      (λ n. cond_both (finite p && finite c.magnitude) _ _ P (λ t. cond_both (finite (bound_of m v (lt plus_zero p))) _ _ P (counts n) (λ f. infinity-cases c)) (λ f. same Spoilt))

-- "value 0 is skipped"
pub skipped : (m : Model) (leaving v : ℕ) (c : Coefficient) (w : Walk) → eq (value c.p) plus_zero ≡ true → step m leaving v c w ≡ walked w Through
unfolding step
skipped m leaving v c w z = cond-true _ _ _ z

-- ---- the leaving variable's edge: "its edge is 0 if its coefficient was 0 or counted as zero"
-- its coefficient is 0, or its bound on that side infinite, so that it can at most count as zero
abbrev pub Uncounted : Model → ℕ → Coefficient → Type 0
Uncounted m v c = (eq (value c.p) plus_zero ≡ true) ⊎ (finite (bound_of m v (lt plus_zero (value c.p))) ≡ false)

record Keeps (w : Walk) (r : Walked) : Type 0 where
  kept : r.walk.leaving_edge ≡ w.leaving_edge

counted_keeps : (w : Walk) (leaving : Bool) (c : Coefficient) (bound end : Float) → leaving ≡ false → Keeps w (walked (counted leaving c bound end w) Through)
unfolding counted
counted_keeps w leaving c bound end other = record { kept = cond-false leaving end w.leaving_edge other }

zero_keeps : (w : Walk) → Keeps w (walked (counted_as_zero w) Through)
unfolding counted_as_zero
zero_keeps w = record { kept = refl }

step_keeps : (m : Model) (leaving v : ℕ) (c : Coefficient) (w : Walk) → (v ≡ leaving → Uncounted m v c) → Keeps w (step m leaving v c w)
step_keeps m leaving v c w uncounted =
    step_cases (Keeps w) w (λ end. record { kept = refl }) (zero_keeps w) m leaving v c
    (λ n t. counted_keeps w (eqb v leaving) c _ _ (false_from_ne_true (eqb v leaving) (λ e. elim (uncounted (eqb-true v leaving e)) [ inl z ↦ differ z n | inr f ↦ differ t f ])))

onward_keeps : (next : Walk → Walked) (w : Walk) (end : End) → Keeps w (next w) → (onward next (walked w end)).walk.leaving_edge ≡ w.leaving_edge
unfolding onward
onward_keeps next w Through keeps = keeps.kept
onward_keeps next w Spoilt keeps = refl
onward_keeps next w Unlimited keeps = refl

module _ (m : Model) (leaving : ℕ) (estimated : Bool) (c : Certificate) (uncounted : Uncounted m leaving (coefficient_at estimated c.lists_of c.errors leaving)) where
  pub edge-zero : (n : ℕ) → (walk_over m leaving estimated c n).walk.leaving_edge ≡ plus_zero
  unfolding walk_over
  edge-zero zero = refl
  edge-zero (suc n) =
      let w = walk_over m leaving estimated c n in
      let here = coefficient_at estimated c.lists_of c.errors n in
      onward_keeps (step m leaving n here) w.walk w.end
      (step_keeps m leaving n here w.walk (λ e. subst (λ (v : ℕ). Uncounted m v (coefficient_at estimated c.lists_of c.errors v)) (sym e) uncounted))
      ∙ edge-zero n
