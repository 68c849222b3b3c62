-- `rounded` meets its contract. Assumes nothing.
use Rattle.std.proofs.Common.{◌≡◌, not, ◌+ℤ◌, ap, ◌∙◌}
use lib.Ieee.{Float, of_bits}
use Rattle.exact.specs.Value.{exact}
use Rattle.doubles.proofs.Tests.{fit}
use Rattle.cdouble.specs.Compensated.{lower, normalized, rounded, upper}
use Rattle.cdouble.specs.Exactness.{SumRange, IsToward}
use Rattle.cdouble.proofs.Consequences.{normalized_exact, rounded_toward}
use Rattle.cdouble.proofs.Contracts.{carried, rounded_stays}
use Rattle.loops.proofs.Branches.{differ, not_true, when_false, when_true}
use Rattle.cdouble.proofs.CDouble.rounded.Goals as goal
use Rattle.cdouble.proofs.CDouble.rounded.Goals.{else-up-via-then-up+else-error, else-up-via-else-up, else-not-up-via-then-not-up+else-error-2, else-not-up-via-else-not-up}
use Rattle.cdouble.proofs.CDouble.rounded.Lts as lts
use Rattle.cdouble.proofs.CDouble.rounded.Reads as reads
use Rattle.cdouble.proofs.CDouble.rounded.Tie as tie

-- what is equal to the definition has its law
toward : (c : lts.Start tie.the-claims reads.Pre reads.Post) {r : Float} → let p = c.args.self in
    r ≡ rounded p c.args.up → (r ≡ rounded p c.args.up) × (SumRange p.hi p.lo → IsToward c.args.up 0 (exact p.hi +ℤ exact p.lo) r)
toward c e =
    let p = c.args.self in
    let z = exact p.hi +ℤ exact p.lo in
    let law = λ (R : SumRange p.hi p.lo). rounded_toward p c.args.up z (normalized_exact p (fit p.hi c.well_formed.0.1.1.0.1) (fit p.lo c.well_formed.0.1.1.1.0.1) R) in
    carried (IsToward c.args.up 0 z) e law

pub returns-then-error : goal.returns-then-error
unfolding rounded upper lower normalized of_bits
returns-then-error c = toward c.before.before.before.before
    (when_true (lower (normalized c.args.self)) (when_true c.two_sum-s.result.hi c.next_up.ensures c.if-error.true ∙ ap upper c.two_sum-s.ensures.0) c.if-up.true)

pub returns-then-error-2 : goal.returns-then-error-2
unfolding rounded upper lower normalized of_bits
returns-then-error-2 c = toward c.before.before.before.before.before
    (when_false (upper (normalized c.args.self)) (when_true c.two_sum-s.result.hi c.next_down.ensures c.if-error-2.true ∙ ap lower c.two_sum-s.ensures.0)
    (not_true c.args.up (ap not c.if-not-up.true)))

pub returns-else-not-up : goal.returns-else-not-up
unfolding normalized of_bits
returns-else-not-up c = toward c.before.before.before
    (rounded_stays c.args.self c.args.up c.two_sum-s.ensures.0
    (λ u. elim c.else-up.branch [ else-up-via-then-up+else-error j ↦ j.if-error.false | else-up-via-else-up j ↦ differ u j.if-up.false ])
    (λ u. elim c.else-not-up.branch [ else-not-up-via-then-not-up+else-error-2 k ↦ k.if-error-2.false | else-not-up-via-else-not-up k ↦ differ k.if-not-up.false u ]))
