-- The walk over the variables in ascending order, and how it ended: document 01, "The judgement". Assumes nothing.
use Rattle.std.specs.Prelude.{Bool, List, ℕ, zero, suc, ◌+◌, Float}
use Rattle.cdouble.specs.Compensated.{pair, plus_zero}
use Rattle.certificate.specs.declared.adding.Sums.{Sums}
use Rattle.sheet.specs.Outputs.{Lists}
use Rattle.certificate.specs.Certificate.{Certificate}
use Rattle.edges.specs.Model.{Model}
use Rattle.walk.specs.declared.states.Walk.{Walk}
use Rattle.walk.specs.declared.states.End.TheVariants.{Through, Spoilt, Unlimited}
use Rattle.walk.specs.declared.states.Walked.{Walked}
use Rattle.walk.specs.Step.{coefficient_at, step}
use Rattle.walk.specs.States.{walk, walked}

-- before any variable; the first sum of the gap is beta's, of so many rows
abbrev pub started : Sums → Walk
started c = walk c.magnitude c.terms (pair plus_zero plus_zero) plus_zero plus_zero plus_zero 0 c.rows 0

-- "The walk over the variables ends early at the first spoilt or unlimited coefficient; sums and counts stay as they are then"
unfoldable pub onward : (Walk → Walked) → Walked → Walked
onward next w = elim w.end [ Through ↦ next w.walk | Spoilt ↦ w | Unlimited ↦ w ]

-- over the first n variables
unfoldable pub walk_over : Model → ℕ → Bool → Certificate → ℕ → Walked
walk_over m leaving estimated c zero = walked (started c.sums_of) Through
walk_over m leaving estimated c (suc n) =
    onward (step m leaving n (coefficient_at estimated c.lists_of c.errors n)) (walk_over m leaving estimated c n)

-- over n variables from first on, on a state handed in
unfoldable pub walk_from : Model → ℕ → Bool → Lists → List Float → ℕ → ℕ → Walk → Walked
walk_from m leaving estimated l errors first zero w = walked w Through
walk_from m leaving estimated l errors first (suc n) w =
    onward (step m leaving (first + n) (coefficient_at estimated l errors (first + n))) (walk_from m leaving estimated l errors first n w)
