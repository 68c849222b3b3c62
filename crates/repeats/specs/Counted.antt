-- A counted run of things, read one after the other: `read i σ` is the i-th, read in the state σ (the position in a text, say), and `next` the
-- state after it. Assumes nothing.
use Rattle.std.specs.Prelude.{List, [], ◌∷◌, ◌++◌, ℕ, zero, suc}

module _ {S R : Type 0} (read : ℕ → S → R) (next : R → S) where
  -- n of them, from the i-th on
  unfoldable pub run : ℕ → ℕ → S → List R
  run i zero σ = []
  run i (suc n) σ = read i σ ∷ run (suc i) n (next (read i σ))

  -- the state after them
  unfoldable pub after : ℕ → ℕ → S → S
  after i zero σ = σ
  after i (suc n) σ = after (suc i) n (next (read i σ))

  -- where each brings a list of its own: these lists, joined
  unfoldable pub gather : {A : Type 0} → (S → List A) → ℕ → ℕ → S → List A
  gather own i zero σ = []
  gather own i (suc n) σ = own σ ++ gather own (suc i) n (next (read i σ))
