-- `products_finite` meets its contract. Assumes nothing.
use mathlib.Core.Path.{◌∙◌}
use mathlib.Core.Bool.{Bool}
use borrow.Author.Rules.{rules}
use Rattle.std.proofs.Common.{tests}
use Rattle.std.proofs.lemmas.Iterator.{YieldsList-from_slice}
use Rattle.std.proofs.lemmas.Iterator.Search.{all_from_yields_List}
use Rattle.loops.proofs.All.{all_places}
use lib.Ieee.{Float, binary64, mul, nan}
use lib.Ieee.Scale.{finite}
use Rattle.questions.proofs.lists.products_finite.Goals as goal

pub returns : goal.returns
returns c =
    let test : Float → Bool = λ y. finite (mul binary64 c.args.x y) in
    all_from_yields_List test _ _ _ c.all.ensures.ran (YieldsList-from_slice c.args.ys.now cc) (λ x b q k. search (rules, tests))
    ∙ all_places test nan c.args.ys.now
