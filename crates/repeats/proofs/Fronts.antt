-- The front of a slice that was filled from the front, for whoever cuts the slice there. Assumes nothing.
use mathlib.Core.Path.{◌≡◌, refl, ap, ◌∙◌}
use mathlib.Core.List.{List, [], ◌∷◌, map}
use Prim.Native.Nat.{ℕ, zero, suc, ◌+◌, ◌≤◌}
use native.Mathlib.Nat.{le_refl}
use native.Mathlib.Numerals.{add-one}
use native.Mathlib.Omega.{arith}
use lib.ListN.{length, get_or, take, length-map}
use lib.Seq.{sets, take_all}
use Rattle.repeats.specs.Filled.{column, filled_from}
use Rattle.repeats.proofs.Stores.{sets_behind}

-- as many of the values as are cut off, where there are as many of both
pub front_sets : {A : Type 0} (k : ℕ) (l vs : List A) → k ≤ length l → k ≤ length vs → take k (sets l 0 vs) ≡ take k vs
front_sets zero l vs h g = refl
front_sets (suc k) [] vs h g = absurd (omega arith)
front_sets (suc k) (x ∷ l) [] h g = absurd (omega arith)
front_sets (suc k) (x ∷ l) (v ∷ vs) h g = rw (sets_behind v l 0 vs) (ap (λ (r : List _). v ∷ r) (front_sets k l vs (omega (arith, h)) (omega (arith, g))))

module _ {R A : Type 0} (f : R → A) (things : List R) where
  -- all of them, where the slice has room for all
  pub whole_front : (before : List A) → length things ≤ length before → take (length things) (column f things before) ≡ map f things
  whole_front before h =
      front_sets (length things) before (map f things) h (rw length-map (le_refl (length things)))
      ∙ take_all (length things) (map f things) (rw length-map (le_refl (length things)))

  -- stored from the second place on, behind what the first place held
  pub behind_first : (before : List A) (x : A) → length things + 1 ≤ length before → get_or before 0 x ≡ x → take (length things + 1) (filled_from 1 f things before) ≡ x ∷ map f things
  behind_first before x h e = go before h e
    where
      go : (l : List A) → length things + 1 ≤ length l → get_or l 0 x ≡ x → take (length things + 1) (filled_from 1 f things l) ≡ x ∷ map f things
      go [] h e = absurd (omega arith)
      go (y ∷ l) h e = rw (add-one (length things), sets_behind y l 0 (map f things), e) (ap (λ (r : List A). x ∷ r) (whole_front l (omega (arith, h))))
