-- `cut_of` meets its contract. Assumes nothing.
use lib.Ieee.{of_bits, mul}
use Rattle.judgement.specs.Cut.{cut_of}
use Rattle.judgement.proofs.cut.cut_of.Goals as goal

pub returns : goal.returns
unfolding cut_of of_bits mul
returns c = rw (c.min.ensures, c.implied_slack_error.ensures, c.min-slack.ensures, c.abs.ensures, c.abs-2.ensures, c.abs-3.ensures, c.slack_margin.ensures)
