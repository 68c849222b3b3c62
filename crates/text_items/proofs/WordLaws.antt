-- A word is read just where its bytes stand, and none behind what does not follow the form. Assumes nothing.
use mathlib.Core.Path.{◌≡◌, refl, sym}
use mathlib.Core.List.{List}
use mathlib.Core.Bool.{Bool, true, false, cond}
use mathlib.Core.Logic.{◌⊎◌, inl, inr}
use Prim.Native.Nat.{ℕ, ◌+◌}
use lib.ListN.{length, take, drop}
use lib.Dec.{eqb}
use Rattle.std.specs.Prelude.{None, Some}
use Rattle.std.specs.List.{starts_with}
use Rattle.std.proofs.lemmas.Slice.Eq.{bytes_eq-Decides}
use Rattle.text_items.specs.Words.{expect}

-- nothing is read where there is no position
pub expect_stuck : (text word : List ℕ) → expect text None word ≡ None
unfolding expect
expect_stuck text word = refl

-- a word is read where its bytes stand
pub expect_stands : (text : List ℕ) (p : ℕ) (word : List ℕ)
    → (expect text (Some p) word ≡ None) ⊎ ((expect text (Some p) word ≡ Some (p + length word)) × (take (length word) (drop p text) ≡ word))
unfolding expect
expect_stands text p word = go (starts_with eqb (drop p text) word) refl
  where
    go : (b : Bool) → starts_with eqb (drop p text) word ≡ b
        → (cond b (Some (p + length word)) None ≡ None) ⊎ ((cond b (Some (p + length word)) None ≡ Some (p + length word)) × (take (length word) (drop p text) ≡ word))
    go false e = inl refl
    go true e = inr (refl, sym ((bytes_eq-Decides word (take (length word) (drop p text))).0 e))
