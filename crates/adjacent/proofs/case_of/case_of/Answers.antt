-- `case_of` meets its contract: the tests are those of the magnitude, in their order. Assumes nothing.
use mathlib.Core.Path.{sym, ◌∙◌}
use Rattle.adjacent.proofs.FieldCases.{inner_is, told_nan, told_infinity, told_zero, told_smallest, told_largest, told_power, told_max, told_rest}
use Rattle.adjacent.proofs.case_of.case_of.Goals as goal

pub returns-then-is_inner : goal.returns-then-is_inner
returns-then-is_inner c = inner_is c.args.exponent c.args.digits c.requires (sym c.is_inner.ensures ∙ c.if-is_inner.true)

pub returns-then-exponent-digits : goal.returns-then-exponent-digits
returns-then-exponent-digits c = told_nan c.requires c.if-exponent-digits.true

pub returns-then-exponent-eq-INFINITE : goal.returns-then-exponent-eq-INFINITE
returns-then-exponent-eq-INFINITE c = told_infinity c.requires c.if-exponent-digits.false c.if-exponent-eq-INFINITE.true

pub returns-then-exponent-digits-2 : goal.returns-then-exponent-digits-2
returns-then-exponent-digits-2 c = told_zero c.requires c.if-exponent-digits.false c.if-exponent-eq-INFINITE.false c.if-exponent-digits-2.true

pub returns-then-exponent-digits-3 : goal.returns-then-exponent-digits-3
returns-then-exponent-digits-3 c = told_smallest c.requires c.if-exponent-digits.false c.if-exponent-eq-INFINITE.false c.if-exponent-digits-2.false c.if-exponent-digits-3.true

pub returns-then-exponent-digits-4 : goal.returns-then-exponent-digits-4
returns-then-exponent-digits-4 c =
    told_largest c.requires c.if-exponent-digits.false c.if-exponent-eq-INFINITE.false c.if-exponent-digits-2.false c.if-exponent-digits-3.false c.if-exponent-digits-4.true

pub returns-then-is_power_of_two : goal.returns-then-is_power_of_two
returns-then-is_power_of_two c =
    told_power c.requires c.if-exponent-digits.false c.if-exponent-eq-INFINITE.false c.if-exponent-digits-2.false c.if-exponent-digits-3.false c.if-exponent-digits-4.false
    (sym c.is_power_of_two.ensures ∙ c.if-is_power_of_two.true)

pub returns-then-exponent-digits-5 : goal.returns-then-exponent-digits-5
returns-then-exponent-digits-5 c =
    told_max c.requires c.if-exponent-digits.false c.if-exponent-eq-INFINITE.false c.if-exponent-digits-2.false c.if-exponent-digits-3.false c.if-exponent-digits-4.false
    (sym c.is_power_of_two.ensures ∙ c.if-is_power_of_two.false) c.if-exponent-digits-5.true

pub returns-else-exponent-digits-5 : goal.returns-else-exponent-digits-5
returns-else-exponent-digits-5 c =
    told_rest c.requires c.if-exponent-digits.false c.if-exponent-eq-INFINITE.false c.if-exponent-digits-2.false c.if-exponent-digits-3.false c.if-exponent-digits-4.false
    (sym c.is_power_of_two.ensures ∙ c.if-is_power_of_two.false) c.if-exponent-digits-5.false
