-- `heading_lines` reads the first two lines. Assumes nothing.
use Rattle.text_lines.specs.Heading.{heading}
use Rattle.text_lines.proofs.heading_line.heading_lines.Goals as goal

pub returns : goal.returns
unfolding heading
returns c = rw (c.double_last-feasibility.ensures, c.count_then-structurals.ensures, c.count_after-rows.ensures)
