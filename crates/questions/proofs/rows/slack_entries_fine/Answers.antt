-- `slack_entries_fine` meets its contract. Assumes nothing.
use native.Mathlib.Omega.{arith}
use mathlib.Core.Path.{refl, ◌∙◌}
use borrow.Author.Rules.{rules}
use Rattle.std.proofs.Common.{tests}
use Rattle.std.proofs.lemmas.Iterator.{YieldsList-from_range}
use Rattle.std.proofs.lemmas.Iterator.Search.{all_from_yields_List}
use Rattle.loops.proofs.All.{all_range}
use Rattle.questions.specs.RowQuestions.{slack_entry_fine_at}
use Rattle.questions.proofs.rows.slack_entries_fine.Goals as goal

pub returns : goal.returns
returns c =
    let test = slack_entry_fine_at c.args.starts.now c.args.entries.now in
    all_from_yields_List test _ _ _ c.all.ensures.ran (YieldsList-from_range 0 c.args.rows c.args.rows refl (omega arith)) (λ x b q k. search (rules, tests))
    ∙ all_range test c.args.rows
