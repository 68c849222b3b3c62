-- What the branches and calls of the questions put to the rows show. Assumes nothing.
use native.Mathlib.Omega.{arith}
use native.Mathlib.Numerals.{add-one}
use mathlib.Core.Path.{◌≡◌, refl, ap, sym, ◌∙◌, subst}
use mathlib.Core.Bool.{Bool, true, false, ◌&&◌, true≢false}
use mathlib.Core.List.{List, [], ◌∷◌}
use Prim.Native.Nat.{ℕ, zero, suc, ◌+◌, ◌-◌, ◌<◌, ◌≤◌}
use borrow.Author.Tests.{le-leb, lt-leb, lt-ltb, ltb-true}
use lib.Dec.{ltb}
use lib.ListN.{length, get_or}
use lib.Ieee.{Float, eq}
use Rattle.std.proofs.Common.{Some, nat_cmp}
use Rattle.std.specs.Ordering.{is_le, is_some_and}
use Rattle.std.specs.List.{IsAllAdjacentAnswer}
use Rattle.std.proofs.lemmas.List.Sorted.{non_decreasing_from_is_sorted}
use Rattle.loops.specs.Places.{all_below}
use Rattle.loops.proofs.All.{all_of, all_fails, and_right}
use Rattle.questions.specs.RowQuestions.{rises_at, column_fine_at, slack_entry_fine}

-- ---- the starts, in order
pub starts_rise : (rows : ℕ) (starts : List ℕ) (r : Bool) → length starts ≡ rows + 1
    → IsAllAdjacentAnswer (λ x y b. is_some_and is_le (Some (nat_cmp x y)) ≡ b) starts r → r ≡ all_below rows (rises_at starts)
starts_rise rows starts true long answer =
    sym (all_of _ rows (λ k less. le-leb _ _ (non_decreasing_from_is_sorted starts true answer k (k + 1) 0 (omega arith) (omega arith))))
starts_rise rows starts false long answer =
    let falls = non_decreasing_from_is_sorted starts false answer in
    sym (all_fails _ falls.0 rows (omega (arith, falls.1)) (lt-leb _ _ (falls.2 0)))

-- ---- the columns, each below the next: all are structural where the last of them is
abbrev pub below_next : List ℕ → ℕ → Bool
below_next columns k = ltb (get_or columns k 0) (get_or columns (k + 1) 0)

below : (a b c : ℕ) → ltb a b ≡ true → ltb b c ≡ true → ltb a c ≡ true
below a b c e f = lt-ltb a c (omega (arith, ltb-true a b e, ltb-true b c f))

-- one column more: s₀ says that the one before it is structural, s that it is, b that it is below the next
joined : (all b s₀ s : Bool) → (all ≡ true → s ≡ true → s₀ ≡ true) → ((all && b) && s) ≡ ((all && s₀) && (s && b))
joined false b s₀ s h = refl
joined true true true true h = refl
joined true true true false h = refl
joined true true false true h = absurd (true≢false (sym (h refl refl)))
joined true true false false h = refl
joined true false true true h = refl
joined true false true false h = refl
joined true false false s h = refl

module _ (structurals : ℕ) (columns : List ℕ) where
  up_to : (m : ℕ) → (all_below (suc m) (below_next columns) && ltb (get_or columns m 0) structurals) ≡ all_below (suc m) (column_fine_at structurals columns)
  unfolding all_below
  up_to zero = joined true (below_next columns 0) true (ltb (get_or columns 0 0) structurals) (λ a s. refl)
  up_to (suc m) =
      joined (all_below (suc m) (below_next columns)) (below_next columns (suc m)) (ltb (get_or columns m 0) structurals) (ltb (get_or columns (suc m) 0) structurals)
      (λ all s.
      below _ _ _
      (and_right (all_below m (below_next columns)) (below_next columns m) all)
      (subst (λ (k : ℕ). ltb (get_or columns k 0) structurals ≡ true) (sym (add-one m)) s))
      ∙ ap (λ (b : Bool). b && column_fine_at structurals columns (suc m)) (up_to m)

  pub all_structural : (n : ℕ) → 2 ≤ n
      → (all_below (n - 1) (below_next columns) && ltb (get_or columns (n - 2) 0) structurals) ≡ all_below (n - 1) (column_fine_at structurals columns)
  all_structural n two =
      let e : n - 1 ≡ suc (n - 2) = omega arith in
      rw e (up_to (n - 2))

-- ---- an empty row
pub no_entries : (entries : List Float) → length entries < 1 → false ≡ slack_entry_fine entries
unfolding slack_entry_fine eq
no_entries [] e = refl
no_entries (x ∷ xs) e = absurd (omega (arith, e))
