-- `ascending` meets its contract. Assumes nothing.
use native.Mathlib.Omega.{arith}
use borrow.Author.Rules.{rules}
use mathlib.Core.Path.{◌≡◌, refl, ap, ◌∙◌}
use mathlib.Core.Bool.{Bool, ◌&&◌}
use Prim.Native.Nat.{◌-◌}
use lib.Dec.{ltb}
use lib.ListN.{length, get_or}
use Rattle.std.proofs.Common.{tests}
use Rattle.std.proofs.lemmas.Fn.{always_returns_same}
use Rattle.loops.specs.Places.{all_below}
use Rattle.loops.proofs.All.{all_neighbours}
use Rattle.questions.proofs.RowTests.{all_structural}
use Rattle.questions.proofs.rows.ascending.Goals as goal

pub returns-in_default : goal.returns-in_default
unfolding all_below
returns-in_default c =
    let none : length c.args.columns.now - 1 ≡ 0 = omega (arith, c.in_default.len_below) in
    rw none refl

pub returns-in-len2-up : goal.returns-in-len2-up
returns-in-len2-up c =
    let columns = c.args.columns.now in
    ap (λ (b : Bool). b && ltb (get_or columns (length columns - 2) 0) c.args.structurals)
    (all_neighbours ltb 0 columns c.is_sorted_by.result (c.is_sorted_by.ensures.cases ltb (always_returns_same _ _ _ (λ a r f k. search (rules, tests)))))
    ∙ all_structural c.args.structurals columns (length columns) c.in-len2-up.len_at_least
