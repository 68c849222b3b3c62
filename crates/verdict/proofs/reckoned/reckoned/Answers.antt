-- `reckoned` meets its contract. Assumes nothing.
use mathlib.Core.Path.{sym}
use mathlib.Core.List.{[]}
use Rattle.std.proofs.lemmas.List.{length-take-le}
use Rattle.sheet.specs.Outputs.{sheet_lent}
use Rattle.verdict.proofs.Lists.{few_rows}
use Rattle.verdict.proofs.reckoned.reckoned.Goals as goal

pub slice_bounds-multipliers-end : goal.slice_bounds-multipliers-end
slice_bounds-multipliers-end c = few_rows (sheet_lent c.args.s.now [] c.args.l.now c.args.errors.now) c.requires

pub slice_bounds-row_magnitudes-end : goal.slice_bounds-row_magnitudes-end
slice_bounds-row_magnitudes-end c = few_rows (sheet_lent c.args.s.now [] c.args.l.now c.args.errors.now) c.requires

pub slice_bounds-reckoned_with-end : goal.slice_bounds-reckoned_with-end
slice_bounds-reckoned_with-end c = sym (length-take-le _ _ (few_rows (sheet_lent c.args.s.now [] c.args.l.now c.args.errors.now) c.requires))

pub slice_bounds-reckoned_with-end-2 : goal.slice_bounds-reckoned_with-end-2
slice_bounds-reckoned_with-end-2 c = sym (length-take-le _ _ (few_rows (sheet_lent c.args.s.now [] c.args.l.now c.args.errors.now) c.requires))

pub reckoned_with-requires-clause-each_has : goal.reckoned_with-requires-clause-each_has
reckoned_with-requires-clause-each_has c =
    let few = few_rows (sheet_lent c.args.s.now [] c.args.l.now c.args.errors.now) c.requires in
    (length-take-le _ _ few, length-take-le _ _ few)
