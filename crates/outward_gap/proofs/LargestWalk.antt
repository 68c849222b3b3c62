-- What the functions of the walk over the variables show, from what their calls gave, and the loop. Assumes nothing.
use mathlib.Core.Path.{◌≡◌, refl, ap, ap₂, sym, ◌∙◌}
use mathlib.Core.Bool.{Bool, true, false, not, cond}
use Rattle.std.specs.Prelude.{Option, Some, None}
use Prim.Native.Nat.{ℕ, zero, suc, ◌+◌, ◌<◌, ◌≤◌}
use borrow.Author.Tests.{not-true, not-false}
use lib.Ieee.{Float, nan, inf, fin, eq}
use lib.Ieee.Scale.{finite}
use Rattle.loops.proofs.Turns.{Turn, first, next, done}
use Rattle.doubles.specs.Directed.{sum_up}
use Rattle.cdouble.specs.Compensated.{plus_zero}
use Rattle.loops.proofs.Branches.{when_true, when_false}
use Rattle.loops.specs.Places.{all_below}
use Rattle.loops.proofs.All.{and_left, and_right, Passed, first as Passed-none, next as passed-one, stop as not-passed, done as passed-all}
use Rattle.gaps.specs.Rows.{Ranges}
use Rattle.gaps.specs.Steps.{skipped, limited, limited_at, term, with_term, largest}
use Rattle.gaps.proofs.Agreement.{limits_same, largest_same}
use Rattle.outward_gap.specs.LargestWalk.{stepped, largest_on, largest_or_infinite}

module _ (l u low high : Float) where
  -- ---- `with_term`
  module _ (sum : Float) {s : Bool} (is : s ≡ skipped l u) where
    pub without_term : s ≡ true → sum ≡ with_term l u low high sum
    unfolding with_term
    without_term t = when_true _ refl (sym is ∙ t)

    pub and_term : {x r : Float} → s ≡ false → x ≡ term l u low high → r ≡ sum_up sum x → r ≡ with_term l u low high sum
    unfolding with_term
    and_term t e f = when_false _ (f ∙ ap (sum_up sum) e) (sym is ∙ t)

-- ---- `step`
-- a number that equals 0 is finite, so a variable that is skipped has a limit, whatever its edges
zero-finite : (x : Float) → eq x plus_zero ≡ true → finite x ≡ true
unfolding eq
zero-finite nan e = e
zero-finite (inf s) e = e
zero-finite (fin s m e) h = refl

skipped-limited : (l u low high : Float) → skipped l u ≡ true → limited l u low high ≡ true
unfolding limited
skipped-limited l u low high e =
    rw (zero-finite l (and_left (eq l plus_zero) (eq u plus_zero) e), zero-finite u (and_right (eq l plus_zero) (eq u plus_zero) e), e) refl

module _ (l u low high sum : Float) {s : Bool} (is : s ≡ skipped l u) where
  pub step_skips : s ≡ true → Some sum ≡ stepped l u low high sum
  unfolding stepped
  step_skips t = when_true None (ap Some (without_term l u low high sum is t)) (skipped-limited l u low high (sym is ∙ t))

  module _ {f : Bool} (limited-is : f ≡ limited l u low high) where
    pub step_ends : not f ≡ true → None ≡ stepped l u low high sum
    unfolding stepped
    step_ends t = when_false _ refl (sym limited-is ∙ not-true f t)

    pub step_counts : {x r : Float} → s ≡ false → not f ≡ false → x ≡ term l u low high → r ≡ sum_up sum x → Some r ≡ stepped l u low high sum
    unfolding stepped
    step_counts counted t e r = when_true None (ap Some (and_term l u low high sum is counted e r)) (sym limited-is ∙ not-false f t)

-- the other way round
went_on : (b : Bool) {x y : Float} → cond b (Some x) None ≡ Some y → (b ≡ true) × (y ≡ x)
went_on true e = (refl, cc)
went_on false e = (cc, cc)

ended : (b : Bool) (x : Float) → cond b (Some x) None ≡ None → b ≡ false
ended true x e = cc
ended false x e = refl

-- ---- the loop: the first v variables have limits, and their terms are in the sum
module _ (before : Float) (lower upper : ℕ → Float) (g : Ranges) (count : ℕ) where
  pub record Walking (v : ℕ) (sum : Float) : Type 0 where
    pub limited_so_far : Passed (limited_at lower upper g) count v
    pub summed : Turn (largest_on before lower upper g) count v sum

  pub first_variable : Walking 0 before
  unfolding largest_on
  first_variable = record { limited_so_far = Passed-none; summed = first (largest_on before lower upper g) count }

module _ {before : Float} {lower upper : ℕ → Float} {g : Ranges} {count v : ℕ} {sum : Float} (turn : Walking before lower upper g count v sum) where
  pub all_walked : count ≤ v → sum ≡ largest_or_infinite before lower upper g count
  unfolding largest_or_infinite
  all_walked end = when_true (inf false) (done turn.summed end) (sym (passed-all turn.limited_so_far end))

  module _ {step : Option Float} (less : v < count) (steps : step ≡ stepped (lower v) (upper v) (g.low v) (g.high v) sum) where
    pub next_variable : {more : Float} → step ≡ Some more → Walking before lower upper g count (v + 1) more
    unfolding largest_on stepped
    next_variable e =
        let on = went_on (limited_at lower upper g v) (sym steps ∙ e) in
        record {
          limited_so_far = passed-one turn.limited_so_far less refl (sym on.0);
          summed = next (with_term (lower v) (upper v) (g.low v) (g.high v)) turn.summed less refl on.1;
        }

    pub walk_ends : step ≡ None → inf false ≡ largest_or_infinite before lower upper g count
    unfolding stepped largest_or_infinite
    walk_ends e = when_false _ refl (sym (not-passed turn.limited_so_far less refl (sym (ended (limited_at lower upper g v) _ (sym steps ∙ e)))))

-- ---- the window of all variables, on no sum, is M; and only the ends of the variables count
pub on_none : (lower upper : ℕ → Float) (g : Ranges) (n : ℕ) → largest_on plus_zero lower upper g n ≡ largest lower upper g n
unfolding largest_on largest
on_none lower upper g zero = refl
on_none lower upper g (suc n) = ap (with_term (lower n) (upper n) (g.low n) (g.high n)) (on_none lower upper g n)

pub whole_window : (lower upper other-lower other-upper : ℕ → Float) (g : Ranges) (n : ℕ) → ((v : ℕ) → v < n → (lower v ≡ other-lower v) × (upper v ≡ other-upper v))
    → largest_or_infinite plus_zero lower upper g n ≡ cond (all_below n (limited_at other-lower other-upper g)) (largest other-lower other-upper g n) (inf false)
unfolding largest_or_infinite
whole_window lower upper other-lower other-upper g n same =
    ap₂ (λ (b : Bool) (x : Float). cond b x (inf false)) (limits_same lower upper other-lower other-upper g n same)
    (on_none lower upper g n ∙ largest_same lower upper other-lower other-upper g n same)
