-- The state of the walk, and what a coefficient makes of it: document 01, "The judgement". Assumes nothing.
use Rattle.std.specs.Prelude.{Bool, cond, ℕ, ◌+◌, max, Float}
use Rattle.std.specs.Float.Ieee.{le}
use Rattle.std.specs.Float.Ieee.Scale.{finite}
use Rattle.doubles.specs.Compare.{absolute}
use Rattle.cdouble.specs.declared.CDouble.{CDouble}
use Rattle.cdouble.specs.Compensated.{◌⊕◌, ◌⊗◌, abs_up, add_up, compensated_error, distance_up, mul_up, plus_scaled, value}
use Rattle.walk.specs.declared.states.Coefficient.{Coefficient}
use Rattle.walk.specs.declared.states.Walk.{Walk}
use Rattle.walk.specs.declared.states.End.{End}
use Rattle.walk.specs.declared.states.End.TheVariants.{Through, Spoilt, Unlimited}
use Rattle.walk.specs.declared.states.Walked.{Walked}

-- `error_of_zero`
unfoldable pub error_of_zero : Coefficient → Float
error_of_zero c = c.error ⊕ compensated_error c.terms c.terms c.magnitude

-- ---- the state: sums and counts so far
abbrev pub walk : Float → ℕ → CDouble → Float → Float → Float → ℕ → ℕ → ℕ → Walk
walk magnitude terms impliedMax room leavingRoom leavingEdge zeroWithinError longest bounded =
    record {
      magnitude = magnitude;
      terms = terms;
      implied_max = impliedMax;
      room = room;
      leaving_room = leavingRoom;
      leaving_edge = leavingEdge;
      zero_within_error = zeroWithinError;
      longest = longest;
      bounded = bounded;
    }

-- a coefficient that counts at a finite bound, its variable's room ending at end: the leaving variable's room is kept apart from the others'
unfoldable pub counted : Bool → Coefficient → Float → Float → Walk → Walk
counted leaving c bound end w =
    let width = distance_up end bound in
    let reach = mul_up (abs_up c.p) width in
    walk
    (w.magnitude ⊕ c.magnitude ⊗ (absolute bound ⊕ width))
    (w.terms + 1)
    (plus_scaled w.implied_max c.p bound)
    (cond leaving w.room (add_up w.room reach))
    (cond leaving reach w.leaving_room)
    (cond leaving end w.leaving_edge)
    w.zero_within_error
    (max (max w.longest c.terms) (w.bounded + 1))
    (w.bounded + 1)

-- a coefficient that counts as zero
unfoldable pub counted_as_zero : Walk → Walk
counted_as_zero w =
    walk w.magnitude w.terms w.implied_max w.room w.leaving_room w.leaving_edge (w.zero_within_error + 1) w.longest w.bounded

-- ---- a step: the state after it, and whether the walk goes on
abbrev pub walked : Walk → End → Walked
walked w end = record { walk = w; end = end }

-- "An infinite bound counts as zero within error only where |p| ≤ `error_of_zero`", and it is spoilt where that is not finite
unfoldable pub at_infinity : Coefficient → Walk → Walked
at_infinity c w =
    cond (finite (error_of_zero c))
    (cond (le (absolute (value c.p)) (error_of_zero c)) (walked (counted_as_zero w) Through) (walked w Unlimited))
    (walked w Spoilt)
