-- `below` meets its contract: each arm's exponent and digits are those of the pattern before. Assumes nothing.
use mathlib.Core.Path.{sym, ◌∙◌}
use native.Mathlib.Omega.{arith}
use Rattle.adjacent.proofs.FieldCases.{of_case, not_first}
use Rattle.adjacent.proofs.FieldNext.{one_less, exponent_before, nan_down, infinity_down, zero_down, smallest_down}
use Rattle.adjacent.proofs.next.below.Goals as goal

pub overflow_sub-digits : goal.overflow_sub-digits
overflow_sub-digits c = let t = of_case c.requires (sym c.in-LargestSubnormal.is ∙ c.case_of.ensures) in omega (arith, t.1)

pub plus-requires : goal.plus-requires
plus-requires c = let t = of_case c.requires (sym c.in-LargestSubnormal.is ∙ c.case_of.ensures) in (omega (arith, t.0), omega (arith, t.1))

pub overflow_sub-exponent : goal.overflow_sub-exponent
overflow_sub-exponent c = let t = of_case c.requires (sym c.in-PowerOfTwo.is ∙ c.case_of.ensures) in t.2 c.if-digits-eq0.true

pub plus-requires-then-digits-eq0 : goal.plus-requires-then-digits-eq0
plus-requires-then-digits-eq0 c = let t = of_case c.requires (sym c.in-PowerOfTwo.is ∙ c.case_of.ensures) in (omega (arith, t.0), omega arith)

pub plus-requires-else-digits-eq0 : goal.plus-requires-else-digits-eq0
plus-requires-else-digits-eq0 c = let t = of_case c.requires (sym c.in-PowerOfTwo.is ∙ c.case_of.ensures) in (t.0, omega (arith, t.1))

pub overflow_sub-digits-in-Max : goal.overflow_sub-digits-in-Max
overflow_sub-digits-in-Max c = let t = of_case c.requires (sym c.in-Max.is ∙ c.case_of.ensures) in omega (arith, t.1)

pub plus-requires-in-Max : goal.plus-requires-in-Max
plus-requires-in-Max c = let t = of_case c.requires (sym c.in-Max.is ∙ c.case_of.ensures) in (omega (arith, t.0), omega (arith, t.1))

pub overflow_sub-digits-in-Rest : goal.overflow_sub-digits-in-Rest
overflow_sub-digits-in-Rest c = let t = of_case c.requires (sym c.in-Rest.is ∙ c.case_of.ensures) in t.1

pub plus-requires-in-Rest : goal.plus-requires-in-Rest
plus-requires-in-Rest c = let t = of_case c.requires (sym c.in-Rest.is ∙ c.case_of.ensures) in (t.0, omega (arith, c.requires.digits_bits))

pub returns-in-Nan : goal.returns-in-Nan
returns-in-Nan c = nan_down c.requires (sym c.in-Nan.is ∙ c.case_of.ensures)

pub returns-in-Infinity : goal.returns-in-Infinity
returns-in-Infinity c = infinity_down (of_case c.requires (sym c.in-Infinity.is ∙ c.case_of.ensures))

pub returns-in-Zero : goal.returns-in-Zero
returns-in-Zero c = zero_down (of_case c.requires (sym c.in-Zero.is ∙ c.case_of.ensures))

pub returns-in-SmallestSubnormal : goal.returns-in-SmallestSubnormal
returns-in-SmallestSubnormal c = smallest_down (of_case c.requires (sym c.in-SmallestSubnormal.is ∙ c.case_of.ensures))

pub returns-in-LargestSubnormal : goal.returns-in-LargestSubnormal
returns-in-LargestSubnormal c =
    let t = of_case c.requires (sym c.in-LargestSubnormal.is ∙ c.case_of.ensures) in
    one_less c.args.exponent c.args.digits (omega (arith, t.0)) (omega (arith, t.1)) c.requires.digits_bits c.plus.ensures

pub returns-then-digits-eq0 : goal.returns-then-digits-eq0
returns-then-digits-eq0 c =
    let t = of_case c.requires (sym c.in-PowerOfTwo.is ∙ c.case_of.ensures) in
    exponent_before c.args.exponent c.args.digits t.0 (t.2 c.if-digits-eq0.true) c.if-digits-eq0.true c.plus-then-digits-eq0.ensures

pub returns-else-digits-eq0 : goal.returns-else-digits-eq0
returns-else-digits-eq0 c =
    let t = of_case c.requires (sym c.in-PowerOfTwo.is ∙ c.case_of.ensures) in
    one_less c.args.exponent c.args.digits t.0 (not_first c.args.digits c.if-digits-eq0.false) c.requires.digits_bits c.plus-else-digits-eq0.ensures

pub returns-in-Max : goal.returns-in-Max
returns-in-Max c =
    let t = of_case c.requires (sym c.in-Max.is ∙ c.case_of.ensures) in
    one_less c.args.exponent c.args.digits (omega (arith, t.0)) (omega (arith, t.1)) c.requires.digits_bits c.plus-in-Max.ensures

pub returns-in-Rest : goal.returns-in-Rest
returns-in-Rest c =
    let t = of_case c.requires (sym c.in-Rest.is ∙ c.case_of.ensures) in
    one_less c.args.exponent c.args.digits t.0 t.1 c.requires.digits_bits c.plus-in-Rest.ensures
