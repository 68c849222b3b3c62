-- The rho lines: document 01, "The sheet". Assumes nothing.
use Rattle.std.specs.Prelude.{List, ℕ, Option}
use Rattle.repeats.specs.Counted.{run, after}
use Rattle.text_lines.specs.declared.multiplier_lines.RhoLine.{RhoLine}
use Rattle.text_lines.specs.MultiplierLines.{rho_line}

-- the position after a rho line
abbrev pub after_rho : RhoLine → Option ℕ
after_rho line = line.next

-- "each rho gains its second correction" or none does: all are read alike
abbrev pub rho_at : List ℕ → ℕ → ℕ → Option ℕ → RhoLine
rho_at text checked i position = rho_line text checked position

-- "rho lines (rows each, in row order)", from a position on
abbrev pub rho_lines : List ℕ → ℕ → ℕ → Option ℕ → List RhoLine
rho_lines text checked rows position = run (rho_at text checked) after_rho 0 rows position

-- the position after them
abbrev pub rho_lines_end : List ℕ → ℕ → ℕ → Option ℕ → Option ℕ
rho_lines_end text checked rows position = after (rho_at text checked) after_rho 0 rows position
