-- `tables::each_line` ran a whole line in each turn, and may go on. Assumes nothing.
use Rattle.tables.proofs.Lines.{RunsWhole}
use Rattle.tables.proofs.each_line.Given as goal

abbrev pub invariant-loop-done : goal.invariant-loop-done
invariant-loop-done g l = goal.F-IsAlwaysCallable g l.run × RunsWhole g.F.FnMut g.row.LINE l.done (g.I.Read.remaining l.initial.input) (g.I.Read.remaining l.input) l.fn.run l.run
