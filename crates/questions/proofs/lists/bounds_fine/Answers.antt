-- `bounds_fine` meets its contract. Assumes nothing.
use mathlib.Core.Path.{◌∙◌}
use borrow.Author.Rules.{rules}
use Rattle.std.proofs.Common.{tests}
use Rattle.std.proofs.lemmas.Iterator.{YieldsList-from_slice, YieldsList-from_zip}
use Rattle.std.proofs.lemmas.Iterator.Search.{all_from_yields_List}
use Rattle.loops.proofs.All.{all_pairs}
use lib.Ieee.{Float, nan}
use Rattle.questions.specs.Questions.{range_fine, bounds_fine}
use Rattle.questions.proofs.lists.bounds_fine.Goals as goal

pub returns : goal.returns
unfolding bounds_fine
returns c =
    all_from_yields_List (λ (q : Float × Float). range_fine q.0 q.1) c.all.new.self _ _ c.all.ensures.ran
    (YieldsList-from_zip (YieldsList-from_slice c.args.mins.now cc) (YieldsList-from_slice c.args.maxs.now cc))
    (λ x b q k. search (rules, tests))
    ∙ all_pairs range_fine nan nan c.args.mins.now c.args.maxs.now c.requires
