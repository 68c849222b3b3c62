-- `number` reads digits: what those read spell, with those still to be read, is the whole. Assumes nothing.
use mathlib.Core.Path.{◌≡◌, sym, ◌∙◌}
use mathlib.Core.Logic.{◌⊎◌, inl, inr}
use Prim.Native.Nat.{◌+◌, ◌-◌}
use borrow.Author.Tests.{eq-eqb, ne_eqb}
use native.Mathlib.Omega.{arith}
use Rattle.std.specs.Prelude.{None}
use Rattle.text_items.specs.Numbers.{digit_at}
use Rattle.text_items.proofs.Digits.{digit_within, turn, digits_more, number_is}
use Rattle.text_items.proofs.numbers.number.Goals as goal
use Rattle.text_items.proofs.numbers.number.Goals.{else-loop-done-test, then-loop-done-test+in_default-digit_at}

pub overflow_mul-value : goal.overflow_mul-value
overflow_mul-value c = omega (arith, turn _ _ _ _ (sym c.in-Some-digit_at.ensures) c.loop-done.invariant.1 (omega arith) (omega arith))

pub overflow_add-value : goal.overflow_add-value
overflow_add-value c = omega (arith, turn _ _ _ _ (sym c.in-Some-digit_at.ensures) c.loop-done.invariant.1 (omega arith) (omega arith))

pub overflow_add-next : goal.overflow_add-next
overflow_add-next c = omega (arith, digit_within _ _ _ _ (sym c.in-Some-digit_at.ensures))

pub loop-done-preserved : goal.loop-done-preserved
loop-done-preserved c =
    let k : c.args.most - c.loop-done.done - 1 ≡ c.args.most - (c.loop-done.done + 1) = omega arith in (
      c.loop-done.invariant.0 ∙ digits_more _ _ _ _ _ _ (omega arith) (sym c.in-Some-digit_at.ensures) ∙ rw k,
      (turn _ _ _ _ (sym c.in-Some-digit_at.ensures) c.loop-done.invariant.1 (omega arith) (omega arith)).0,
    )

pub returns-then-next-start : goal.returns-then-next-start
returns-then-next-start c =
    let w : (c.args.most - c.loop-done.done ≡ 0) ⊎ (digit_at c.args.text.now c.args.radix c.loop-done.next ≡ None) = elim c.loop-done-test.branch [
      | else-loop-done-test j ↦ inl (omega arith)
      | then-loop-done-test+in_default-digit_at j ↦ inr (sym j.in_default-digit_at.ensures)
    ]
    in
    sym (number_is _ _ _ _ _ _ c.in-Some.is c.loop-done.invariant.0 w ∙ rw (eq-eqb _ _ c.if-next-start.true))

pub returns-else-next-start : goal.returns-else-next-start
returns-else-next-start c =
    let w : (c.args.most - c.loop-done.done ≡ 0) ⊎ (digit_at c.args.text.now c.args.radix c.loop-done.next ≡ None) = elim c.loop-done-test.branch [
      | else-loop-done-test j ↦ inl (omega arith)
      | then-loop-done-test+in_default-digit_at j ↦ inr (sym j.in_default-digit_at.ensures)
    ]
    in
    sym (number_is _ _ _ _ _ _ c.in-Some.is c.loop-done.invariant.0 w ∙ rw (ne_eqb _ _ c.if-next-start.false))
