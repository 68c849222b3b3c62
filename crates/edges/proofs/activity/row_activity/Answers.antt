-- `row_activity` meets its contract. Assumes nothing.
use borrow.Author.Rules.{rules}
use mathlib.Core.Path.{ap, ◌∙◌}
use lib.Ieee.{Float, of_bits}
use lib.ListN.{length}
use Rattle.std.proofs.Common.{tests}
use Rattle.std.proofs.lemmas.Iterator.{YieldsList-from_slice, YieldsList-from_zip}
use Rattle.std.proofs.lemmas.Iterator.Consumers.{fold_from_yields_List}
use Rattle.cdouble.specs.Compensated.{plus_zero}
use Rattle.edges.specs.Activity.{activity, after_entries, row_activity}
use Rattle.edges.proofs.RowLoops.{entered, all_entered}
use Rattle.edges.proofs.activity.row_activity.Goals as goal

pub returns : goal.returns
unfolding row_activity of_bits
returns c =
    fold_from_yields_List _ (entered c.args.structurals c.args.values.now) _ _ c.fold.ensures.ran
    (YieldsList-from_zip (YieldsList-from_slice c.args.columns.now cc) (YieldsList-from_slice c.args.entries.now cc))
    (λ a x b q k. search (rules, tests))
    ∙ all_entered c.args.structurals c.args.values.now c.args.columns.now c.args.entries.now c.requires.entries_len _
    ∙ ap (λ (x : Float). after_entries c.args.structurals c.args.values.now c.args.columns.now c.args.entries.now (length c.args.columns.now) (activity plus_zero x)) c.abs.ensures
