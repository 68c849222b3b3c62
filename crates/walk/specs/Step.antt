-- A step of the walk, over one variable: document 01, "The judgement". Assumes nothing.
use Rattle.std.specs.Prelude.{Bool, cond, ◌&&◌, List, ℕ, eqb, get_or, Float}
use Rattle.std.specs.Float.{nan}
use Rattle.std.specs.Float.Ieee.{lt, eq}
use Rattle.std.specs.Float.Ieee.Scale.{finite}
use Rattle.cdouble.specs.declared.CDouble.{CDouble}
use Rattle.cdouble.specs.Compensated.{plus_zero, value}
use Rattle.certificate.specs.Added.{pair_at}
use Rattle.edges.specs.Model.{Model, bound_of}
use Rattle.edges.specs.Edges.{edge}
use Rattle.walk.specs.declared.states.Coefficient.{Coefficient}
use Rattle.walk.specs.declared.states.Walk.{Walk}
use Rattle.walk.specs.declared.states.End.TheVariants.{Through, Spoilt}
use Rattle.walk.specs.declared.states.Walked.{Walked}
use Rattle.walk.specs.States.{counted, walked, at_infinity}
use Rattle.sheet.specs.Outputs.{Lists}

-- ---- what the certificate has for a variable; its error is 0 where there are no error bounds
abbrev pub coefficient : CDouble → Float → ℕ → Float → Coefficient
coefficient p magnitude terms error = record { p = p; magnitude = magnitude; terms = terms; error = error }

abbrev pub coefficient_at : Bool → Lists → List Float → ℕ → Coefficient
coefficient_at estimated l errors v =
    coefficient (pair_at l.high l.low v) (get_or l.magnitudes v nan) (get_or l.terms v 0) (cond estimated (get_or errors v nan) plus_zero)

-- the variable v, whose coefficient is c. "value 0 is skipped. … Spoilt is a coefficient or its magnitude that is not finite": else it counts
-- at its upper bound where it is above 0, at its lower one where it is below. No bound of an accepted sheet is NaN
unfoldable pub step : Model → ℕ → ℕ → Coefficient → Walk → Walked
step m leaving v c w =
    let p = value c.p in
    let up = lt plus_zero p in
    cond (eq p plus_zero) (walked w Through)
    (cond (finite p && finite c.magnitude)
    (cond (finite (bound_of m v up)) (walked (counted (eqb v leaving) c (bound_of m v up) (edge m leaving v up) w) Through)
    (at_infinity c w))
    (walked w Spoilt))
