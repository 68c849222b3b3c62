-- `leaving_variable` meets its contract. Assumes nothing.
use mathlib.Core.Path.{◌∙◌}
use borrow.Author.Rules.{rules}
use Rattle.std.proofs.Common.{tests}
use Rattle.std.proofs.lemmas.Iterator.{YieldsList-from_slice, YieldsList-from_zip}
use Rattle.std.proofs.lemmas.Iterator.Search.{position_from_yields_List}
use Rattle.edges.proofs.KindLoops.{holds, found_is}
use Rattle.edges.proofs.kinds.leaving_variable.Goals as goal

pub returns : goal.returns
returns c =
    c.unwrap_or.ensures
    ∙ found_is c.args.basic.now c.args.places.now c.args.leaving_row c.requires
    (position_from_yields_List (holds c.args.leaving_row) c.position.new.self _ _ c.position.ensures.ran
    (YieldsList-from_zip (YieldsList-from_slice c.args.basic.now cc) (YieldsList-from_slice c.args.places.now cc))
    (λ x b q k. search (rules, tests)))
