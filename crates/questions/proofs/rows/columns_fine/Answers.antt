-- `columns_fine` meets its contract. Assumes nothing.
use native.Mathlib.Omega.{arith}
use mathlib.Core.Path.{refl, ◌∙◌}
use borrow.Author.Rules.{rules}
use Rattle.std.proofs.Common.{tests}
use Rattle.std.proofs.lemmas.Iterator.{YieldsList-from_range}
use Rattle.std.proofs.lemmas.Iterator.Search.{all_from_yields_List}
use Rattle.loops.proofs.All.{all_range}
use Rattle.questions.specs.RowQuestions.{row_columns_fine_at, columns_fine}
use Rattle.questions.proofs.rows.columns_fine.Goals as goal

pub returns : goal.returns
unfolding columns_fine
returns c =
    let test = row_columns_fine_at c.args.structurals c.args.starts.now c.args.columns.now in
    all_from_yields_List test _ _ _ c.all.ensures.ran (YieldsList-from_range 0 c.args.rows c.args.rows refl (omega arith)) (λ x b q k. search (rules, tests))
    ∙ all_range test c.args.rows
