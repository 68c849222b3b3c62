-- `put_answer` meets its contract: the text put into the array stands at the front of `out`. Assumes nothing.
use native.Mathlib.Omega.{arith}
use Rattle.sheet.specs.Numbers.{numbered}
use Rattle.printer.proofs.Parts.{answer_short, written}
use Rattle.printer.proofs.put_answer.Goals as goal

pub returns-then-end-out-clause-out_after : goal.returns-then-end-out-clause-out_after
returns-then-end-out-clause-out_after c =
    written c.put_whole-end.ensures (omega (arith, c.put_whole-end.ensures.place, answer_short (numbered c.args.answer))) c.put_text.ensures.stored c.if-end-out.true
