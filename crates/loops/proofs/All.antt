-- Tests over all places below a number, and the loops that make them one after another: one leaves at the first that fails, one makes them all.
-- Assumes nothing.
use native.Mathlib.Omega.{arith}
use native.Mathlib.Nat.{le_antisymm}
use native.Mathlib.Numerals.{add-one}
use mathlib.Core.Path.{◌≡◌, refl, ap, sym, ◌∙◌}
use mathlib.Core.Logic.{inl, inr}
use mathlib.Core.List.{List, [], ◌∷◌}
use mathlib.Core.Bool.{Bool, true, false, not, ◌&&◌, and-false}
use Prim.Native.Nat.{ℕ, zero, suc, ◌+◌, ◌-◌, ◌<◌, ◌≤◌}
use borrow.Author.Tests.{not-true, not-false}
use lib.ListN.{length, get_or, take}
use lib.Seq.{take_all}
use Rattle.std.specs.List.{list_all, zip, range_with_len, IsAllAdjacentAnswer}
use Rattle.std.proofs.Common.{zero-add}
use Rattle.std.proofs.lemmas.List.FromFn.{length-range_with_len, get_or-range_with_len}
use Rattle.std.proofs.lemmas.List.Folds.{list_all_more}
use Rattle.std.proofs.lemmas.Slice.Zip.{length-zip, get_or-zip}
use Rattle.exact.proofs.Naturals.{le_or_lt}
use Rattle.loops.specs.Places.{all_below}
use Rattle.loops.proofs.Turns.{Turn, begin, advance}

-- both parts of a conjunction
pub and_left : (a b : Bool) → (a && b) ≡ true → a ≡ true
and_left true b e = refl
and_left false b e = e

pub and_right : (a b : Bool) → (a && b) ≡ true → b ≡ true
and_right true b e = e
and_right false true e = refl
and_right false false e = e

-- tests in a row, and each of them where all pass
abbrev pub in_row : Bool → List Bool → Bool
in_row before [] = before
in_row before (test ∷ tests) = in_row (before && test) tests

abbrev pub Each : List Bool → Type 0
Each [] = Unit
Each (test ∷ tests) = (test ≡ true) × Each tests

pub each : (before : Bool) (tests : List Bool) → in_row before tests ≡ true → (before ≡ true) × Each tests
each before [] e = (e, tt)
each before (test ∷ tests) e =
    let h = each (before && test) tests e in
    (and_left before test h.0, (and_right before test h.0, h.1))

-- a place that fails
pub all_fails : (test : ℕ → Bool) (k n : ℕ) → k < n → test k ≡ false → all_below n test ≡ false
unfolding all_below
all_fails test k zero less fails = absurd (omega arith)
all_fails test k (suc n) less fails =
    elim (le_or_lt n k) [
      | inl here ↦ let e : k ≡ n = omega arith in rw (sym e) (rw fails (and-false (all_below k test)))
      | inr before ↦ rw (all_fails test k n before fails) refl
    ]

-- where all pass, each does
pub all_at : (test : ℕ → Bool) (n : ℕ) → all_below n test ≡ true → (k : ℕ) → k < n → test k ≡ true
unfolding all_below
all_at test zero all k less = absurd (omega arith)
all_at test (suc n) all k less =
    elim (le_or_lt n k) [
      | inl here ↦ let e : k ≡ n = omega arith in rw e (and_right (all_below n test) (test n) all)
      | inr before ↦ all_at test n (and_left (all_below n test) (test n) all) k before
    ]

-- where each passes, all do
pub all_of : (test : ℕ → Bool) (n : ℕ) → ((k : ℕ) → k < n → test k ≡ true) → all_below n test ≡ true
unfolding all_below
all_of test zero each = refl
all_of test (suc n) each = rw (all_of test n (λ k less. each k (omega arith))) (each n (omega arith))

-- tests that agree below n
pub all_same : (f g : ℕ → Bool) (n : ℕ) → ((k : ℕ) → k < n → f k ≡ g k) → all_below n f ≡ all_below n g
unfolding all_below
all_same f g zero each = refl
all_same f g (suc n) each = rw (all_same f g n (λ k less. each k (omega arith)), each n (omega arith)) refl

-- ---- a test of each item is one at each place
module _ {A : Type 0} (p : A → Bool) (d : A) (xs : List A) where
  pub all_front : (n : ℕ) → n ≤ length xs → list_all p (take n xs) ≡ all_below n (λ k. p (get_or xs k d))
  unfolding all_below
  all_front zero within = refl
  all_front (suc n) within = rw (← (add-one n), list_all_more p xs n d (omega arith), all_front n (omega arith)) refl

  pub all_places : list_all p xs ≡ all_below (length xs) (λ k. p (get_or xs k d))
  all_places = ap (list_all p) (sym (take_all (length xs) xs (omega arith))) ∙ all_front (length xs) (omega arith)

-- and of two lists of one length
pub all_pairs : {A B : Type 0} (p : A → B → Bool) (d : A) (e : B) (xs : List A) (ys : List B) → length ys ≡ length xs
    → list_all (λ (q : A × B). p q.0 q.1) (zip xs ys) ≡ all_below (length xs) (λ k. p (get_or xs k d) (get_or ys k e))
all_pairs {A} {B} p d e xs ys same =
    let long : length (zip xs ys) ≡ length xs = omega (arith, length-zip xs ys) in
    all_places (λ (q : A × B). p q.0 q.1) (d, e) (zip xs ys)
    ∙ ap (λ (n : ℕ). all_below n (λ k. p (get_or (zip xs ys) k (d, e)).0 (get_or (zip xs ys) k (d, e)).1)) long
    ∙ all_same _ _ (length xs) (λ k less. ap (λ (q : A × B). p q.0 q.1) (get_or-zip xs ys k (d, e) less (omega arith)))

-- and of the numbers below n
pub all_range : (test : ℕ → Bool) (n : ℕ) → list_all test (range_with_len 0 n) ≡ all_below n test
all_range test n =
    all_places test 0 (range_with_len 0 n)
    ∙ ap (λ (m : ℕ). all_below m (λ k. test (get_or (range_with_len 0 n) k 0))) (length-range_with_len 0 n)
    ∙ all_same _ _ n (λ k less. ap test (get_or-range_with_len 0 n k 0 less ∙ zero-add k))

-- of an item and the next
pub all_neighbours : {A : Type 0} (test : A → A → Bool) (d : A) (xs : List A) (r : Bool) → IsAllAdjacentAnswer (λ x y b. b ≡ test x y) xs r
    → r ≡ all_below (length xs - 1) (λ k. test (get_or xs k d) (get_or xs (k + 1) d))
all_neighbours test d xs true h = sym (all_of _ (length xs - 1) (λ k less. sym (h k d (omega arith))))
all_neighbours test d xs false h = sym (all_fails _ h.0 (length xs - 1) (omega (arith, h.1)) (sym (h.2 d)))

-- ---- the loop: the places before k have passed
module _ (test : ℕ → Bool) (n : ℕ) where
  pub record Passed (k : ℕ) : Type 0 where
    pub within : k ≤ n
    pub so_far : all_below k test ≡ true

module _ {test : ℕ → Bool} {n : ℕ} where
  pub first : Passed test n 0
  unfolding all_below
  first = record { within = omega arith; so_far = refl }

  module _ {k : ℕ} (turn : Passed test n k) where
    pub next : {r : Bool} → k < n → not r ≡ false → r ≡ test k → Passed test n (k + 1)
    unfolding all_below
    next {r} less passes is =
        record { within = omega arith; so_far = rw add-one (rw turn.so_far (sym is ∙ not-false r passes)) }

    pub stop : {r : Bool} → k < n → not r ≡ true → r ≡ test k → false ≡ all_below n test
    stop {r} less fails is = sym (all_fails test k n less (sym is ∙ not-true r fails))

    pub done : n ≤ k → true ≡ all_below n test
    done end = sym turn.so_far ∙ ap (λ (m : ℕ). all_below m test) (le_antisymm turn.within end)

-- ---- the loop that makes all of them
pub none_asked : (test : ℕ → Bool) (n : ℕ) → Turn (λ k. all_below k test) n 0 true
unfolding all_below
none_asked test n = begin refl

pub one_asked : (test : ℕ → Bool) {n k : ℕ} {fine r : Bool} → Turn (λ k. all_below k test) n k fine → k < n → r ≡ test k → Turn (λ k. all_below k test) n (k + 1) (fine && r)
unfolding all_below
one_asked test {k = k} {fine} turn less is = advance less (ap (λ (r : Bool). fine && r) is ∙ ap (λ (b : Bool). b && test k) turn.so_far)
