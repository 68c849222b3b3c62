-- Stores one after the other. Assumes nothing.
use mathlib.Core.Path.{◌≡◌, refl, ◌∙◌}
use mathlib.Core.List.{List, [], ◌∷◌, ◌++◌}
use Prim.Native.Nat.{ℕ, suc, ◌+◌, ◌-◌, ◌<◌}
use native.Mathlib.Nat.{add-zero}
use native.Mathlib.Omega.{arith}
use lib.ListN.{length, set}
use lib.Seq.{sets}

-- what is left of n before a turn, and after it
pub step_left : (n i : ℕ) → i < n → n - i ≡ suc (n - suc i)
step_left n i h = omega arith

-- two lists of values, one behind the other
pub sets_append : {A : Type 0} (l : List A) (i : ℕ) (xs ys : List A) → sets l i (xs ++ ys) ≡ sets (sets l i xs) (i + length xs) ys
sets_append l i [] ys = rw add-zero
sets_append l i (x ∷ xs) ys = let e : suc i + length xs ≡ i + suc (length xs) = omega arith in sets_append (set l i x) (suc i) xs ys ∙ rw e

-- stores behind the first place leave it
pub sets_behind : {A : Type 0} (x : A) (l : List A) (i : ℕ) (vs : List A) → sets (x ∷ l) (suc i) vs ≡ x ∷ sets l i vs
sets_behind x l i [] = refl
sets_behind x l i (v ∷ vs) = sets_behind x (set l i v) (suc i) vs
