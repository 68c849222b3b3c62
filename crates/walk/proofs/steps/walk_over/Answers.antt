-- `walk_over` meets its contract. Assumes nothing.
use native.Mathlib.Omega.{arith}
use borrow.Author.Rules.{rules}
use mathlib.Core.Path.{ap, sym, ◌∙◌}
use lib.Ieee.{Float, eq, of_bits}
use Rattle.std.proofs.Common.{tests}
use Rattle.cdouble.specs.Compensated.{plus_zero, value}
use Rattle.walk.specs.declared.states.Coefficient.{Coefficient}
use Rattle.walk.specs.States.{at_infinity}
use Rattle.walk.specs.Step.{step}
use Rattle.walk.proofs.Turns.{none_walked, through, below_last, next, ended}
use Rattle.walk.proofs.steps.walk_over.Goals as goal

pub walk-init : goal.walk-init
walk-init c = none_walked _ _ _ _ _ _ _ _

pub walk-preserved-then-p : goal.walk-preserved-then-p
unfolding step at_infinity of_bits
walk-preserved-then-p c = next c.walk.invariant c.in-Some.ensures.steps (search (rules, tests))

pub walk-preserved-then-abs-error : goal.walk-preserved-then-abs-error
unfolding step at_infinity of_bits
walk-preserved-then-abs-error c = next c.walk.invariant c.in-Some.ensures.steps (search (rules, tests))

pub edge-end-requires-clause-readable : goal.edge-end-requires-clause-readable
edge-end-requires-clause-readable c = c.requires.readable c.in-Some.v (below_last c.walk.invariant c.in-Some.ensures.steps)

pub edge-end-requires-clause-known : goal.edge-end-requires-clause-known
unfolding of_bits
edge-end-requires-clause-known c =
    c.requires.known c.in-Some.v (below_last c.walk.invariant c.in-Some.ensures.steps)
    (ap (λ (x : Float). eq x plus_zero) (ap (λ (k : Coefficient). value k.p) (sym c.coefficient_at-c.ensures) ∙ sym c.value-p.ensures) ∙ c.if-p.false)

pub walk-preserved : goal.walk-preserved
unfolding step at_infinity of_bits
walk-preserved c = next c.walk.invariant c.in-Some.ensures.steps (search (rules, tests))

pub returns-then-not-is_finite : goal.returns-then-not-is_finite
unfolding step at_infinity of_bits
returns-then-not-is_finite c = ended c.walk.invariant c.in-Some.ensures.steps (search (rules, tests)) tt

pub returns-then-not-is_finite-3 : goal.returns-then-not-is_finite-3
unfolding step at_infinity of_bits
returns-then-not-is_finite-3 c = ended c.walk.invariant c.in-Some.ensures.steps (search (rules, tests)) tt

pub returns-else-abs-error : goal.returns-else-abs-error
unfolding step at_infinity of_bits
returns-else-abs-error c = ended c.walk.invariant c.in-Some.ensures.steps (search (rules, tests)) tt

pub returns-in_default : goal.returns-in_default
returns-in_default c = through c.walk.invariant (omega (arith, c.in_default.ensures.steps))
