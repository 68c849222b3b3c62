-- The loop of `walk_over`: so many variables are walked over, none of them ended the walk, and each raised each count by at most one.
-- Assumes nothing.
use native.Mathlib.Omega.{arith}
use mathlib.Core.Path.{◌≡◌, refl, ap, sym, ◌∙◌, subst}
use mathlib.Core.Bool.{Bool}
use mathlib.Core.List.{List}
use Prim.Native.Nat.{ℕ, suc, ◌+◌, ◌-◌, ◌≤◌, ◌<◌}
use lib.Dec.{eqb}
use lib.Ieee.{Float, lt}
use Rattle.std.specs.declared.ops.Range.{Range}
use Rattle.cdouble.specs.Compensated.{plus_zero, value}
use Rattle.sheet.specs.Outputs.{Lists}
use Rattle.edges.specs.Model.{Model, bound_of}
use Rattle.edges.specs.Edges.{edge}
use Rattle.walk.specs.declared.states.Coefficient.{Coefficient}
use Rattle.walk.specs.declared.states.Walk.{Walk}
use Rattle.walk.specs.declared.states.End.{End}
use Rattle.walk.specs.declared.states.End.TheVariants.{Through}
use Rattle.walk.specs.declared.states.Walked.{Walked}
use Rattle.walk.specs.Step.{coefficient_at, step}
use Rattle.walk.specs.States.{counted, counted_as_zero, walked}
use Rattle.walk.specs.Walk.{onward, walk_from}
use Rattle.walk.proofs.Laws.{Ended, ended_stays, step_cases}

-- ---- a step raises each count by at most one
record Raised (w : Walk) (r : Walked) : Type 0 where
  terms_up : r.walk.terms ≤ w.terms + 1
  zero_up : r.walk.zero_within_error ≤ w.zero_within_error + 1
  bounded_up : r.walk.bounded ≤ w.bounded + 1

module _ (w : Walk) where
  as_it_is : (end : End) → Raised w (walked w end)
  as_it_is end = record { terms_up = omega arith; zero_up = omega arith; bounded_up = omega arith }

  raised_counted : (leaving : Bool) (c : Coefficient) (bound end : Float) → Raised w (walked (counted leaving c bound end w) Through)
  unfolding counted
  raised_counted leaving c bound end = record { terms_up = omega arith; zero_up = omega arith; bounded_up = omega arith }

  raised_as_zero : Raised w (walked (counted_as_zero w) Through)
  unfolding counted_as_zero
  raised_as_zero = record { terms_up = omega arith; zero_up = omega arith; bounded_up = omega arith }

  raised : (m : Model) (leaving v : ℕ) (c : Coefficient) → Raised w (step m leaving v c w)
  raised m leaving v c =
      step_cases (Raised w) w as_it_is raised_as_zero m leaving v c
      (λ n t. let up = lt plus_zero (value c.p) in raised_counted (eqb v leaving) c (bound_of m v up) (edge m leaving v up))

-- ---- the loop: the variables before the range's start are walked over, none of them ended the walk
pub record Walking (m : Model) (leaving : ℕ) (estimated : Bool) (l : Lists) (errors : List Float) (first last : ℕ) (before : Walk) (left : Range ℕ) (w : Walk) : Type 0 where
  pub to_last : left.end ≡ last
  pub from_first : first ≤ left.start
  pub within : left.start - first ≤ last - first
  pub so_far : walk_from m leaving estimated l errors first (left.start - first) before ≡ walked w Through
  pub terms_few : w.terms ≤ before.terms + (left.start - first)
  pub zero_few : w.zero_within_error ≤ before.zero_within_error + (left.start - first)
  pub bounded_few : w.bounded ≤ before.bounded + (left.start - first)

module _ (m : Model) (leaving : ℕ) (estimated : Bool) (l : Lists) (errors : List Float) (first last : ℕ) (before : Walk) where
  pub none_walked : Walking m leaving estimated l errors first last before (record { start = first; end = last }) before
  unfolding walk_from
  none_walked =
      let none : first - first ≡ 0 = omega arith in
      record {
        to_last = refl;
        from_first = omega arith;
        within = omega arith;
        so_far = ap (λ (n : ℕ). walk_from m leaving estimated l errors first n before) none;
        terms_few = omega arith;
        zero_few = omega arith;
        bounded_few = omega arith;
      }

-- no variable is left
pub through : {m : Model} {leaving : ℕ} {estimated : Bool} {l : Lists} {errors : List Float} {first last : ℕ} {before : Walk} {left : Range ℕ} {w : Walk}
    → Walking m leaving estimated l errors first last before left w → left.end ≤ left.start
    → walked w Through ≡ walk_from m leaving estimated l errors first (last - first) before
through {m} {leaving} {estimated} {l} {errors} {first} {last} {before} {left} turn done =
    let all : left.start - first ≡ last - first = omega (arith, turn.to_last, turn.within, done) in
    sym turn.so_far ∙ ap (λ (n : ℕ). walk_from m leaving estimated l errors first n before) all

module _ {m : Model} {leaving : ℕ} {estimated : Bool} {l : Lists} {errors : List Float} {first last : ℕ} {before : Walk} {left after : Range ℕ} {w : Walk}
    (turn : Walking m leaving estimated l errors first last before left w) where
  -- the range gave the variable v
  module _ {v : ℕ} (gave : (after.end ≡ left.end) × ((0 < left.end - left.start) × (v ≡ left.start) × (after.start ≡ left.start + 1))) where
    pub below_last : v < last
    below_last = omega (arith, gave.1.0, gave.1.1, turn.to_last)

    here : first + (left.start - first) ≡ v
    here = omega (arith, turn.from_first, gave.1.1)

    more : after.start - first ≡ suc (left.start - first)
    more = omega (arith, turn.from_first, gave.1.2)

    less : suc (left.start - first) ≤ last - first
    less = omega (arith, turn.from_first, gave.1.0, turn.to_last)

    module _ {r : Walked} (steps : r ≡ step m leaving v (coefficient_at estimated l errors v) w) where
      one_more : walk_from m leaving estimated l errors first (suc (left.start - first)) before ≡ r
      unfolding walk_from onward
      one_more =
          rw here (ap (onward (step m leaving v (coefficient_at estimated l errors v))) turn.so_far ∙ sym steps)

      pub ended : Ended r.end → r ≡ walk_from m leaving estimated l errors first (last - first) before
      ended stops =
          sym one_more
          ∙ sym (ended_stays m leaving estimated l errors first before (suc (left.start - first)) (last - first) less (subst (λ (x : Walked). Ended x.end) (sym one_more) stops))

    pub next : {x : Walk} → walked x Through ≡ step m leaving v (coefficient_at estimated l errors v) w → Walking m leaving estimated l errors first last before after x
    next {x} steps =
        let up : Raised w (walked x Through) = subst (Raised w) (sym steps) (raised w m leaving v (coefficient_at estimated l errors v)) in
        record {
          to_last = gave.0 ∙ turn.to_last;
          from_first = omega (arith, turn.from_first, gave.1.2);
          within = omega (arith, more, less);
          so_far = ap (λ (n : ℕ). walk_from m leaving estimated l errors first n before) more ∙ one_more steps;
          terms_few = omega (arith, more, up.terms_up, turn.terms_few);
          zero_few = omega (arith, more, up.zero_up, turn.zero_few);
          bounded_few = omega (arith, more, up.bounded_up, turn.bounded_few);
        }
