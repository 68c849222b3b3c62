-- `tables::number` reads what the digits spell. Assumes nothing.
use Rattle.std.proofs.Common.{arith, ◌≡◌, ◌+◌, ◌-◌, ◌<◌, get_or, sym, ◌∙◌}
use Rattle.tables.proofs.Laws.{digit_small, digits_none, digits_end, digits_short, digit_more, fits_so_far, byte_from, turn}
use Rattle.tables.proofs.number.Goals as goal
use Rattle.tables.proofs.number.Goals.{In-loop-byte}

pub returns-in_err-get : goal.returns-in_err-get
returns-in_err-get c = c.from_residual.ensures ∙ sym (digits_short _ 16 0 _ (omega arith) (omega (arith, c.in_err-get.ensures.lookup.0)))

pub returns-in_err-field : goal.returns-in_err-field
returns-in_err-field c =
    c.from_residual-in_err-field.ensures
    ∙ sym (digits_short _ 16 0 _ (omega arith) (omega (arith, c.in_err-field.ensures.lookup.0, c.in_ok-get.ensures.lookup.0.3)))

-- how far the turns go, and the byte of one
below : (c : In-loop-byte) → c.loop-byte.byte-index < 16
below c = omega (arith, c.in_ok-field.ensures.lookup.0.3)

byte : (c : In-loop-byte) → get_or c.in_ok-field.field.now c.loop-byte.byte-index 0 ≡ get_or c.args.s.now (c.args.at + c.loop-byte.byte-index) 0
byte c =
    let rest = c.in_ok-get.ensures.lookup.0 in
    let field = c.in_ok-field.ensures.lookup.0 in
    byte_from _ _ _ c.args.at c.loop-byte.byte-index rest.2 rest.3 field.2 (below c) field.1

pub overflow_mul-value : goal.overflow_mul-value
overflow_mul-value c = omega (arith, fits_so_far c.loop-byte.value 0 c.loop-byte.byte-index c.loop-byte.invariant.small (omega arith) (below c))

pub returns-in_err-value : goal.returns-in_err-value
returns-in_err-value c =
    let h = (goal.at.returns-in_err-value c).In-loop-byte in
    let left : 0 < 16 - c.loop-byte.byte-index = omega (arith, below h) in
    c.from_residual-in_err-value.ensures
    ∙ sym (c.loop-byte.invariant.spelt ∙ digits_none _ _ _ _ left (rw (byte h) at (sym c.in_err-value.ensures)))

pub overflow_add-value : goal.overflow_add-value
overflow_add-value c =
    let h = (goal.at.overflow_add-value c).In-loop-byte in
    omega (arith, fits_so_far c.loop-byte.value c.in_ok-value.field-0 c.loop-byte.byte-index c.loop-byte.invariant.small (digit_small (get_or c.in_ok-field.field.now c.loop-byte.byte-index 0) _ (sym c.in_ok-value.ensures)) (below h))

pub loop-byte-preserved : goal.loop-byte-preserved
loop-byte-preserved c =
    let h = (goal.at.loop-byte-preserved c).In-loop-byte in
    record {
      spelt = turn _ _ _ _ _ c.loop-byte.invariant.spelt (below h) (rw (byte h) at (sym c.in_ok-value.ensures));
      small = digit_more _ _ _ c.loop-byte.invariant.small (digit_small (get_or c.in_ok-field.field.now c.loop-byte.byte-index 0) _ (sym c.in_ok-value.ensures));
    }

pub returns : goal.returns
returns c =
    let e : c.loop-byte.byte-index ≡ 16 = omega (arith, c.in_ok-field.ensures.lookup.0.3) in
    sym (c.loop-byte.invariant.spelt ∙ rw e (digits_end _ _ _))
