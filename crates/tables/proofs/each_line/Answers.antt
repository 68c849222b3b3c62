-- `tables::each_line` ran a line in each turn. Assumes nothing.
use Rattle.std.proofs.Common.{rules, of_calls}
use Rattle.tables.proofs.Lines.{no_line, line_more, line_whole}
use Rattle.tables.proofs.each_line.Goals as goal

pub loop-done-init : goal.loop-done-init
loop-done-init g c = (search rules, no_line _ _ _ _)

pub returns-then-n-clause-ran : goal.returns-then-n-clause-ran
returns-then-n-clause-ran g c =
    (line_more _ _ _ _ _ _ _ _ c.loop-done.invariant.1 _ _ _ c.run.ensures (search rules) c.in_ok-n.n c.in_ok-n.ensures.bytes (search rules) (search rules)).0

pub loop-done-preserved : goal.loop-done-preserved
loop-done-preserved g c =
    (search (of_calls), line_whole _ _ _ _ _ _ _ _ c.loop-done.invariant.1 _ _ _ c.run.ensures (search rules) c.in_ok-n.n c.in_ok-n.ensures.bytes (search rules) (search rules) (search rules))
