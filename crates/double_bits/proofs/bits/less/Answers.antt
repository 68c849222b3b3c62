-- `less` meets its contract: the order of the two keys is that of the doubles. Assumes nothing.
use mathlib.Core.Bool.{not, true≢false}
use mathlib.Core.Path.{sym, ◌∙◌}
use lib.Dec.{T}
use lib.Ieee.{is_nan}
use Rattle.std.proofs.lemmas.Float.{T_from_false}
use Rattle.doubles.proofs.Tests.{fit}
use Rattle.doubles.proofs.Keys.{lt_order}
use Rattle.double_bits.proofs.bits.less.Goals as goal
use Rattle.double_bits.proofs.bits.less.Goals.{then-is_nan, else-is_nan}

pub returns-else-is_nan-2 : goal.returns-else-is_nan-2
returns-else-is_nan-2 c =
    let numbers : T (not (is_nan c.args.a)) × T (not (is_nan c.args.b)) = elim c.if-is_nan.branch [
      | then-is_nan w ↦ absurd (true≢false (sym w.if-is_nan.true ∙ sym w.value-is ∙ c.if-is_nan-2.false))
      | else-is_nan w ↦ (
        T_from_false (is_nan c.args.a) (sym c.is_nan.ensures.value ∙ w.if-is_nan.false),
        T_from_false (is_nan c.args.b) (sym w.is_nan-else-is_nan.ensures.value ∙ sym w.value-is ∙ c.if-is_nan-2.false),
      )
    ] in
    lt_order (record {
      first = numbers.0;
      second = numbers.1;
      first_fits = fit c.args.a c.well_formed.0.1;
      second_fits = fit c.args.b c.well_formed.1.0.1;
      first_key = c.order.ensures;
      second_key = c.order-else-is_nan-2.ensures;
    })
