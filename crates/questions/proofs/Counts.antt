-- There are never more variables than the limits allow. Assumes nothing.
use native.Mathlib.Omega.{arith}
use mathlib.Core.Path.{◌≡◌, refl}
use mathlib.Core.Bool.{Bool, true, false, cond, ◌&&◌}
use Prim.Native.Nat.{ℕ, ◌+◌, ◌≤◌}
use borrow.Author.Tests.{leb-true}
use lib.Dec.{leb}
use Rattle.questions.specs.Limits.{most_rows, most_structurals, most_entries, most_variables}
use Rattle.questions.specs.Questions.{sizes_fine}
use Rattle.questions.specs.Marks.{count_of}
use Rattle.loops.proofs.All.{and_left, and_right}

most : (rows structurals : ℕ) (a b : Bool) → leb rows most_rows ≡ a → leb structurals most_structurals ≡ b
    → cond (a && b) (structurals + rows) 0 ≤ most_variables
most rows structurals true true ea eb = omega (arith, leb-true rows most_rows ea, leb-true structurals most_structurals eb)
most rows structurals true false ea eb = omega arith
most rows structurals false b ea eb = omega arith

pub count_most : (rows structurals : ℕ) → count_of rows structurals ≤ most_variables
count_most rows structurals = most rows structurals (leb rows most_rows) (leb structurals most_structurals) refl refl

-- where the second question passes its size a sheet has as many as its columns can name
pub count_is : (rows structurals entries : ℕ) → sizes_fine rows structurals entries ≡ true → count_of rows structurals ≡ structurals + rows
unfolding sizes_fine
count_is rows structurals entries fine =
    let first = and_left (leb 1 rows && leb rows most_rows && leb structurals most_structurals) (leb entries most_entries) fine in
    let second = and_left (leb 1 rows && leb rows most_rows) (leb structurals most_structurals) first in
    rw (and_right (leb 1 rows) (leb rows most_rows) second, and_right (leb 1 rows && leb rows most_rows) (leb structurals most_structurals) first) refl
