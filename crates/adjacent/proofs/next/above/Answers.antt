-- `above` meets its contract: each arm's exponent and digits are those of the next pattern. Assumes nothing.
use mathlib.Core.Path.{sym, ◌∙◌}
use native.Mathlib.Omega.{arith}
use Rattle.adjacent.proofs.FieldCases.{of_case, not_last}
use Rattle.adjacent.proofs.FieldNext.{one_more, next_exponent, nan_up, infinity_up, zero_up, largest_up, max_up}
use Rattle.adjacent.proofs.next.above.Goals as goal

pub plus-requires : goal.plus-requires
plus-requires c = let t = of_case c.requires (sym c.in-SmallestSubnormal.is ∙ c.case_of.ensures) in (omega (arith, t.0), omega (arith, t.1))

pub plus-requires-in-PowerOfTwo : goal.plus-requires-in-PowerOfTwo
plus-requires-in-PowerOfTwo c = let t = of_case c.requires (sym c.in-PowerOfTwo.is ∙ c.case_of.ensures) in (t.0, omega (arith, t.1))

pub plus-requires-then-digits-eq-ONES : goal.plus-requires-then-digits-eq-ONES
plus-requires-then-digits-eq-ONES c =
    let t = of_case c.requires (sym c.in-Rest.is ∙ c.case_of.ensures) in (omega (arith, t.2 c.if-digits-eq-ONES.true), omega arith)

pub plus-requires-else-digits-eq-ONES : goal.plus-requires-else-digits-eq-ONES
plus-requires-else-digits-eq-ONES c =
    let t = of_case c.requires (sym c.in-Rest.is ∙ c.case_of.ensures) in (t.0, not_last c.args.digits c.requires.digits_bits c.if-digits-eq-ONES.false)

pub returns-in-Nan : goal.returns-in-Nan
returns-in-Nan c = nan_up c.requires (sym c.in-Nan.is ∙ c.case_of.ensures)

pub returns-in-Infinity : goal.returns-in-Infinity
returns-in-Infinity c = infinity_up (of_case c.requires (sym c.in-Infinity.is ∙ c.case_of.ensures))

pub returns-in-Zero : goal.returns-in-Zero
returns-in-Zero c = zero_up (of_case c.requires (sym c.in-Zero.is ∙ c.case_of.ensures))

pub returns-in-SmallestSubnormal : goal.returns-in-SmallestSubnormal
returns-in-SmallestSubnormal c =
    let t = of_case c.requires (sym c.in-SmallestSubnormal.is ∙ c.case_of.ensures) in one_more c.args.exponent c.args.digits (omega (arith, t.0)) (omega (arith, t.1)) c.plus.ensures

pub returns-in-LargestSubnormal : goal.returns-in-LargestSubnormal
returns-in-LargestSubnormal c = largest_up (of_case c.requires (sym c.in-LargestSubnormal.is ∙ c.case_of.ensures))

pub returns-in-PowerOfTwo : goal.returns-in-PowerOfTwo
returns-in-PowerOfTwo c =
    let t = of_case c.requires (sym c.in-PowerOfTwo.is ∙ c.case_of.ensures) in one_more c.args.exponent c.args.digits t.0 (omega (arith, t.1)) c.plus-in-PowerOfTwo.ensures

pub returns-in-Max : goal.returns-in-Max
returns-in-Max c = max_up (of_case c.requires (sym c.in-Max.is ∙ c.case_of.ensures))

pub returns-then-digits-eq-ONES : goal.returns-then-digits-eq-ONES
returns-then-digits-eq-ONES c =
    let t = of_case c.requires (sym c.in-Rest.is ∙ c.case_of.ensures) in
    next_exponent c.args.exponent c.args.digits t.0 (omega (arith, t.2 c.if-digits-eq-ONES.true)) c.if-digits-eq-ONES.true c.plus-then-digits-eq-ONES.ensures

pub returns-else-digits-eq-ONES : goal.returns-else-digits-eq-ONES
returns-else-digits-eq-ONES c =
    let t = of_case c.requires (sym c.in-Rest.is ∙ c.case_of.ensures) in
    one_more c.args.exponent c.args.digits t.0 (not_last c.args.digits c.requires.digits_bits c.if-digits-eq-ONES.false) c.plus-else-digits-eq-ONES.ensures
