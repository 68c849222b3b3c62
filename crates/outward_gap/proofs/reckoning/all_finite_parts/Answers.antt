-- `all_finite_parts` meets its contract. Assumes nothing.
use mathlib.Core.Path.{◌∙◌}
use borrow.Author.Rules.{rules}
use Rattle.std.proofs.Common.{tests}
use Rattle.std.proofs.lemmas.Iterator.{YieldsList-from_slice}
use Rattle.std.proofs.lemmas.Iterator.Search.{all_from_yields_List}
use Rattle.loops.proofs.All.{all_places}
use Rattle.multipliers.specs.declared.weighing.Multiplier.TheVariants.{Dropped}
use Rattle.gaps.specs.Rows.{finite_parts}
use Rattle.outward_gap.proofs.reckoning.all_finite_parts.Goals as goal

pub returns : goal.returns
returns c =
    all_from_yields_List finite_parts _ _ _ c.all.ensures.ran (YieldsList-from_slice c.args.multipliers.now cc) (λ x b q k. search (rules, tests))
    ∙ all_places finite_parts Dropped c.args.multipliers.now
