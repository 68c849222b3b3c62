-- `put_lines` meets its contract: the nine lines, one after the other. Assumes nothing.
use Rattle.printer.proofs.Storing.{then}
use Rattle.printer.specs.Answer.{nine_lines}
use Rattle.printer.proofs.put_lines.Goals as goal

pub returns : goal.returns
unfolding nine_lines
returns c = then c.put_line-gap.ensures.stored
    (then c.put_line-allowance.ensures.stored
    (then c.put_line-cut.ensures.stored
    (then c.put_line-zero_within_error.ensures.stored
    (then c.put_line-multipliers_zeroed.ensures.stored
    (then c.put_line-rows.ensures.stored
    (then c.put_line-outward.ensures.stored
    (then c.put_line-declined.ensures.stored c.put_line.ensures.stored)))))))
