-- What the pass over the basis places finds, on lists. Assumes nothing.
use native.Mathlib.Omega.{arith}
use mathlib.Core.Path.{◌≡◌, refl, ap, ◌∙◌}
use mathlib.Core.Logic.{inl, inr}
use mathlib.Core.Bool.{Bool, true, false, cond, ◌&&◌}
use mathlib.Core.List.{List}
use Prim.Native.Nat.{ℕ, zero, suc, ◌+◌, ◌<◌, ◌≤◌}
use borrow.Author.Tests.{ltb-false}
use lib.Dec.{eqb, ltb}
use lib.ListN.{length}
use Rattle.std.proofs.Common.{Option, Some, None, unwrap_or}
use Rattle.std.specs.List.{zip, position_or_len}
use Rattle.std.proofs.lemmas.List.Sums.{position_or_len_is}
use Rattle.std.proofs.lemmas.Slice.Zip.{length-zip, get_or-zip}
use Rattle.exact.proofs.Naturals.{le_or_lt}
use Rattle.questions.specs.Flags.{is_set}
use Rattle.questions.specs.BasisPlaces.{holds_place}
use Rattle.edges.specs.Variables.{holder_from}

-- ---- the basis places
from_position : (n len : ℕ) {r : Option ℕ} → r ≡ cond (ltb n len) (Some n) None → n ≤ len → unwrap_or r len ≡ n
from_position n len e within = ap (λ (o : Option ℕ). unwrap_or o len) e ∙ go (ltb n len) refl
  where
    go : (b : Bool) → ltb n len ≡ b → unwrap_or (cond b (Some n) None) len ≡ n
    go true t = refl
    go false t = omega (arith, ltb-false n len t, within)

abbrev pub holds : ℕ → ℕ × ℕ → Bool
holds p item = is_set item.0 && eqb item.1 p

module _ (basic places : List ℕ) (p : ℕ) where
  -- h is the first of the variables from v on, n of them, that holds the place, or the one after them
  record First (v n h : ℕ) : Type 0 where
    within : h ≤ v + n
    before : (k : ℕ) → v ≤ k → k < h → holds_place basic places p k ≡ false
    there : h < v + n → holds_place basic places p h ≡ true

  first : (v n : ℕ) → First v n (holder_from basic places p v n)
  unfolding holder_from
  first v zero = record { within = omega arith; before = λ k from less. absurd (omega arith); there = λ less. absurd (omega arith) }
  first v (suc n) = go (holds_place basic places p v) refl (first (suc v) n)
    where
      go : (b : Bool) → holds_place basic places p v ≡ b → First (suc v) n (holder_from basic places p (suc v) n)
          → First v (suc n) (cond b v (holder_from basic places p (suc v) n))
      go true e rest = record { within = omega arith; before = λ k from less. absurd (omega arith); there = λ less. e }
      go false e rest =
          record {
            within = omega (arith, rest.within);
            before =
                λ k from less.
                elim (le_or_lt k v) [ inl here ↦ let at : k ≡ v = omega arith in rw at e | inr after ↦ rest.before k (omega arith) less ];
            there = λ less. rest.there (omega arith);
          }

  module _ (same : length places ≡ length basic) where
    abbrev holder : ℕ
    holder = holder_from basic places p 0 (length basic)

    long : length (zip basic places) ≡ length basic
    long = omega (arith, length-zip basic places)

    found : First 0 (length basic) holder
    found = first 0 (length basic)

    position_is : position_or_len (holds p) (zip basic places) ≡ holder
    position_is =
        position_or_len_is (holds p) (zip basic places) holder (0, 0) (omega (arith, long, found.within))
        (λ k less. rw (get_or-zip basic places k (0, 0) (omega (arith, found.within)) (omega (arith, found.within))) (found.before k (omega arith) less))
        (λ less. let here : holder < length basic = omega (arith, long) in rw (get_or-zip basic places holder (0, 0) here (omega arith)) (found.there (omega arith)))

    pub found_is : {r : Option ℕ}
        → r ≡ cond (ltb (position_or_len (holds p) (zip basic places)) (length (zip basic places))) (Some (position_or_len (holds p) (zip basic places))) None
        → unwrap_or r (length basic) ≡ holder
    found_is e = from_position (position_or_len (holds p) (zip basic places)) (length basic) (rw long at e) (omega (arith, position_is, found.within)) ∙ position_is
