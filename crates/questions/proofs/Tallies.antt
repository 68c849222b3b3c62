-- The pass that counts the variables at each place, on lists: what the counts come to. Assumes nothing.
use native.Mathlib.Omega.{arith}
use native.Mathlib.Nat.{add-zero, zero-add}
use native.Mathlib.Numerals.{add-one}
use mathlib.Core.Path.{◌≡◌, refl, ap, sym, ◌∙◌, subst}
use mathlib.Core.Bool.{Bool, true, false, not, cond, ◌&&◌}
use mathlib.Core.List.{List}
use Prim.Native.Nat.{ℕ, zero, suc, ◌+◌, ◌^◌, ◌<◌, ◌≤◌}
use borrow.Author.Tests.{eqb-true, eqb-false, ne_eqb, ltb-true, ltb-false, not-true, not-false}
use lib.Dec.{eqb, ltb}
use lib.ListN.{length, get_or, set, replicate, length-set}
use lib.Seq.{get_or-set_same, get_or-set_other}
use Rattle.questions.specs.Flags.{is_set}
use Rattle.questions.specs.Limits.{most_rows}
use Rattle.loops.specs.Places.{all_below}
use Rattle.questions.specs.BasisPlaces.{holders}
use Rattle.questions.specs.PlaceQuestions.{place_fine_at, held_once_at, basis_fine}
use Rattle.questions.specs.Tallies.{counted_place, counted, tallied, one_at, Countable, Tally}
use Rattle.loops.proofs.All.{all_same}

-- one more at the place q: the count of the place p
more-at : (q : ℕ) (counts : List ℕ) (p : ℕ) → p < length counts → get_or (set counts q (get_or counts q 0 + 1)) p 0 ≡ get_or counts p 0 + cond (eqb q p) 1 0
more-at q counts p less = go (eqb q p) refl
  where
    go : (t : Bool) → eqb q p ≡ t → get_or (set counts q (get_or counts q 0 + 1)) p 0 ≡ get_or counts p 0 + cond t 1 0
    go true e = let same = eqb-true q p e in rw same (get_or-set_same counts p (get_or counts p 0 + 1) 0 less)
    go false e = get_or-set_other counts q p (get_or counts q 0 + 1) 0 (λ (same : p ≡ q). eqb-false q p e (sym same)) ∙ sym (add-zero (get_or counts p 0))

-- where a variable is counted is at most the place beyond all rows'
counted-most : (rows flag q : ℕ) → rows ≤ most_rows → counted_place rows flag q ≤ most_rows
counted-most rows flag q few = go (is_set flag) (ltb q rows) refl
  where
    go : (b t : Bool) → ltb q rows ≡ t → cond (b && t) q most_rows ≤ most_rows
    go false t e = omega arith
    go true true e = omega (arith, ltb-true q rows e)
    go true false e = omega arith

-- it is a row's place just where the variable holds that
counted-there : (rows flag q p : ℕ) → rows ≤ most_rows → p < rows → eqb (counted_place rows flag q) p ≡ (is_set flag && eqb q p)
counted-there rows flag q p few less = go (is_set flag) (ltb q rows) refl
  where
    beyond : eqb most_rows p ≡ false
    beyond = ne_eqb most_rows p (λ same. omega (arith, same, few, less))

    go : (b t : Bool) → ltb q rows ≡ t → eqb (cond (b && t) q most_rows) p ≡ (b && eqb q p)
    go false t e = beyond
    go true true e = refl
    go true false e = beyond ∙ sym (ne_eqb q p (λ same. omega (arith, same, ltb-false q rows e, less)))

module _ (rows : ℕ) (basic places : List ℕ) where
  pub tallied-long : (n : ℕ) (counts : List ℕ) → length (tallied rows basic places n counts) ≡ length counts
  unfolding tallied
  tallied-long zero counts = refl
  tallied-long (suc n) counts = length-set (tallied rows basic places n counts) _ _ ∙ tallied-long n counts

  -- one variable more
  step-at : (n : ℕ) (counts : List ℕ) (p : ℕ) → p < length counts
      → get_or (tallied rows basic places (suc n) counts) p 0
      ≡ get_or (tallied rows basic places n counts) p 0 + cond (eqb (counted_place rows (get_or basic n 0) (get_or places n 0)) p) 1 0
  unfolding tallied
  step-at n counts p less =
      more-at (counted_place rows (get_or basic n 0) (get_or places n 0)) (tallied rows basic places n counts) p
      (subst (λ (m : ℕ). p < m) (sym (tallied-long n counts)) less)

  -- the count of a row's place is what it was, and the holders among the variables counted
  pub tallied-at : rows ≤ most_rows → (n : ℕ) (counts : List ℕ) (p : ℕ) → p < rows → p < length counts
      → get_or (tallied rows basic places n counts) p 0 ≡ get_or counts p 0 + holders basic places n p
  unfolding tallied holders
  tallied-at few zero counts p row less = sym (add-zero (get_or counts p 0))
  tallied-at few (suc n) counts p row less =
      let before = tallied-at few n counts p row less in
      let there = ap {B = ℕ} (λ (b : Bool). cond b 1 0) (counted-there rows (get_or basic n 0) (get_or places n 0) p few row) in
      omega (arith, before, there, step-at n counts p less)

  -- and no count is more than what it was and the variables counted
  pub tallied-most : (n : ℕ) (counts : List ℕ) (p : ℕ) → p < length counts → get_or (tallied rows basic places n counts) p 0 ≤ get_or counts p 0 + n
  unfolding tallied
  tallied-most zero counts p less = omega arith
  tallied-most (suc n) counts p less = go (eqb (counted_place rows (get_or basic n 0) (get_or places n 0)) p) (tallied-most n counts p less) (step-at n counts p less)
    where
      go : (b : Bool) → get_or (tallied rows basic places n counts) p 0 ≤ get_or counts p 0 + n
          → get_or (tallied rows basic places (suc n) counts) p 0 ≡ get_or (tallied rows basic places n counts) p 0 + cond b 1 0
          → get_or (tallied rows basic places (suc n) counts) p 0 ≤ get_or counts p 0 + suc n
      go true before here = omega (arith, before, here)
      go false before here = omega (arith, before, here)

-- ---- the loop that counts
pub record Counted (rows : ℕ) (basic places counts₀ : List ℕ) (v : ℕ) (counts : List ℕ) : Type 0 where
  pub within : v ≤ length basic
  pub so_far : counts ≡ tallied rows basic places v counts₀

module _ {rows : ℕ} {basic places counts₀ : List ℕ} (asked : Tally rows basic places counts₀) where
  pub first : Counted rows basic places counts₀ 0 counts₀
  unfolding tallied
  first = record { within = omega arith; so_far = refl }

  module _ {v : ℕ} {counts : List ℕ} (turn : Counted rows basic places counts₀ v counts) where
    pub asks : v < length basic → length basic < 2 ^ 64 → Countable rows (get_or basic v 0) (get_or places v 0) counts
    asks less small =
        let p = counted_place rows (get_or basic v 0) (get_or places v 0) in
        let lies : p < length counts₀ = omega (arith, counted-most rows (get_or basic v 0) (get_or places v 0) asked.few, asked.room) in
        record {
          inside = subst (λ (xs : List ℕ). p < length xs) (sym turn.so_far) (subst (λ (m : ℕ). p < m) (sym (tallied-long rows basic places v counts₀)) lies);
          fits =
              subst
              (λ (xs : List ℕ). get_or xs p 0 + 1 < 2 ^ 64)
              (sym turn.so_far)
              (omega (arith, tallied-most rows basic places v counts₀ p lies, asked.zeros p));
        }

    pub next : {after : List ℕ} → v < length basic → after ≡ counted rows (get_or basic v 0) (get_or places v 0) counts
        → Counted rows basic places counts₀ (v + 1) after
    unfolding tallied
    next less e = record { within = omega arith; so_far = rw add-one (e ∙ ap (counted rows (get_or basic v 0) (get_or places v 0)) turn.so_far) }

-- ---- the counts are 1 where just one variable holds the place
pub ones : {rows : ℕ} {basic places counts₀ counts : List ℕ} → Tally rows basic places counts₀ → counts ≡ tallied rows basic places (length basic) counts₀
    → all_below rows (one_at counts) ≡ all_below rows (held_once_at basic places)
ones {rows} {basic} {places} {counts₀} {counts} asked e =
    all_same (one_at counts) (held_once_at basic places) rows
    (λ p less.
    ap
    (λ (n : ℕ). eqb n 1)
    (ap (λ (xs : List ℕ). get_or xs p 0) e
    ∙ tallied-at rows basic places asked.few (length basic) counts₀ p less (omega (arith, asked.few, asked.room))
    ∙ ap (λ (n : ℕ). n + holders basic places (length basic) p) (asked.zeros p)
    ∙ zero-add (holders basic places (length basic) p)))

-- ---- the ninth question from its two parts
module _ (rows : ℕ) (basic places : List ℕ) {r : Bool} (is : r ≡ all_below (length basic) (place_fine_at rows basic places)) where
  pub some_beyond : not r ≡ true → false ≡ basis_fine rows basic places
  unfolding basis_fine
  some_beyond fails = ap (λ (b : Bool). b && all_below rows (held_once_at basic places)) (sym (not-true r fails) ∙ is)

  none_beyond : not r ≡ false → all_below (length basic) (place_fine_at rows basic places) ≡ true
  none_beyond passes = sym is ∙ not-false r passes

  pub then_held : {h : Bool} → not r ≡ false → h ≡ all_below rows (held_once_at basic places) → h ≡ basis_fine rows basic places
  unfolding basis_fine
  then_held passes held = held ∙ ap (λ (b : Bool). b && all_below rows (held_once_at basic places)) (sym (none_beyond passes))

-- a list of one thing over and over
pub get_d_replicate : {A : Type 0} (n : ℕ) (a : A) (k : ℕ) → get_or (replicate n a) k a ≡ a
get_d_replicate zero a k = refl
get_d_replicate (suc n) a zero = refl
get_d_replicate (suc n) a (suc k) = get_d_replicate n a k
