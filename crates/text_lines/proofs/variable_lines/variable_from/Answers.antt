-- `variable_from` reads a variable's line from its bounds on. Assumes nothing.
use Rattle.text_lines.specs.VariableLines.{variable_from}
use Rattle.text_lines.proofs.variable_lines.variable_from.Goals as goal

pub returns : goal.returns
unfolding variable_from
returns c =
    rw (
      c.double_then-value.ensures,
      c.place_if-place.ensures,
      c.state-basic.ensures,
      c.double_space-high.ensures,
      c.double_space-low.ensures,
      c.double_space-max.ensures,
      c.double_space-min.ensures,
    )
