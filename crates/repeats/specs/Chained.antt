-- Things read at a position, one after the other, until there is none where the next would stand. What a position is, and whether one may be
-- missing, is the reader's. Assumes nothing.
use Rattle.std.specs.Prelude.{Bool, cond, List, [], ◌∷◌, ℕ, zero, suc}

module _ {P R : Type 0} (none : P → Bool) (read : P → R) (next : R → P) where
  -- those from a position on, n at most
  unfoldable pub chain : ℕ → P → List R
  chain zero at = []
  chain (suc n) at = cond (none at) [] (read at ∷ chain n (next (read at)))

  -- the position after them
  unfoldable pub chain_end : ℕ → P → P
  chain_end zero at = at
  chain_end (suc n) at = cond (none at) at (chain_end n (next (read at)))
