-- The fold over a row's entries, on lists. Assumes nothing.
use native.Mathlib.Omega.{arith}
use native.Mathlib.Numerals.{add-one}
use mathlib.Core.Path.{◌≡◌, refl, ap, sym, ◌∙◌}
use mathlib.Core.List.{List}
use Prim.Native.Nat.{ℕ, zero, suc, ◌≤◌}
use lib.ListN.{length, take}
use lib.Seq.{take_all}
use lib.Ieee.{Float, nan}
use Rattle.std.specs.List.{fold, zip}
use Rattle.std.proofs.lemmas.List.Sums.{fold_more}
use Rattle.std.proofs.lemmas.Slice.Zip.{length-zip, get_or-zip}
use Rattle.edges.specs.declared.activity.Activity.{Activity}
use Rattle.edges.specs.Activity.{with_entry, after_entries}

module _ (structurals : ℕ) (values : List Float) where
  abbrev pub entered : Activity → ℕ × Float → Activity
  entered a item = with_entry structurals values item.0 item.1 a

  module _ (columns : List ℕ) (entries : List Float) (same : length entries ≡ length columns) (a : Activity) where
    some_entered : (n : ℕ) → n ≤ length columns → fold entered a (take n (zip columns entries)) ≡ after_entries structurals values columns entries n a
    unfolding after_entries
    some_entered zero within = refl
    some_entered (suc n) within =
        rw (
          ← (add-one n),
          fold_more entered a (zip columns entries) n (0, nan) (omega (arith, length-zip columns entries)),
          some_entered n (omega arith),
          get_or-zip columns entries n (0, nan) (omega arith) (omega arith),
        )
        refl

    pub all_entered : fold entered a (zip columns entries) ≡ after_entries structurals values columns entries (length columns) a
    all_entered =
        ap (fold entered a) (sym (take_all (length columns) (zip columns entries) (omega (arith, length-zip columns entries))))
        ∙ some_entered (length columns) (omega arith)
