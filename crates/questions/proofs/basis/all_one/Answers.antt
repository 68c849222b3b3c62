-- `all_one` meets its contract. Assumes nothing.
use native.Mathlib.Omega.{arith}
use mathlib.Core.Path.{◌≡◌, ap, ◌∙◌}
use borrow.Author.Rules.{rules}
use Prim.Native.Nat.{ℕ, ◌-◌}
use lib.Dec.{eqb}
use lib.ListN.{take}
use Rattle.std.proofs.Common.{tests}
use Rattle.std.specs.List.{list_all}
use Rattle.std.proofs.lemmas.Iterator.{YieldsList-from_slice}
use Rattle.std.proofs.lemmas.Iterator.Search.{all_from_yields_List}
use Rattle.loops.proofs.All.{all_front}
use Rattle.questions.proofs.basis.all_one.Goals as goal

pub returns : goal.returns
returns c =
    let whole : c.args.rows - 0 ≡ c.args.rows = omega arith in
    all_from_yields_List (λ (n : ℕ). eqb n 1) _ _ _ c.all.ensures.ran (YieldsList-from_slice (take (c.args.rows - 0) c.args.counts.now) cc) (λ x b q k. search (rules, tests))
    ∙ ap (λ (n : ℕ). list_all (λ (m : ℕ). eqb m 1) (take n c.args.counts.now)) whole
    ∙ all_front (λ (n : ℕ). eqb n 1) 0 c.args.counts.now c.args.rows c.requires
