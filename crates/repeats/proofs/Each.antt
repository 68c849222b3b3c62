-- What holds of each thing that is read holds at every place of the list of a part of them, and past its end of the default. Assumes nothing.
use mathlib.Core.Bool.{Bool, true, false, cond}
use mathlib.Core.List.{List, [], ◌∷◌, ◌++◌, map}
use Prim.Native.Nat.{ℕ, zero, suc}
use lib.ListN.{get_or}
use Rattle.repeats.specs.Counted.{run, gather}
use Rattle.repeats.specs.Chained.{chain}

module _ {R A : Type 0} (P : A → Type 0) (f : R → A) (d : A) where
  abbrev pub Each : List R → Type 0
  Each xs = (k : ℕ) → P (get_or (map f xs) k d)

  each_joined : (xs ys : List R) → Each xs → Each ys → Each (xs ++ ys)
  each_joined [] ys one other k = other k
  each_joined (x ∷ xs) ys one other zero = one zero
  each_joined (x ∷ xs) ys one other (suc k) = each_joined xs ys (λ j. one (suc j)) other k

  module _ (past : P d) where
    module _ {S : Type 0} (read : ℕ → S → R) (next : R → S) where
      pub each_run : ((i : ℕ) (σ : S) → P (f (read i σ))) → (i n : ℕ) (σ : S) → Each (run read next i n σ)
      unfolding run
      each_run here i zero σ k = past
      each_run here i (suc n) σ zero = here i σ
      each_run here i (suc n) σ (suc k) = each_run here (suc i) n (next (read i σ)) k

    module _ {Q : Type 0} (none : Q → Bool) (read : Q → R) (next : R → Q) where
      pub each_chain : ((at : Q) → P (f (read at))) → (n : ℕ) (at : Q) → Each (chain none read next n at)
      unfolding chain
      each_chain here zero at k = past
      each_chain here (suc n) at k = go (none at) k (each_chain here n (next (read at)))
        where
          go : (b : Bool) (k : ℕ) → Each (chain none read next n (next (read at))) → P (get_or (map f (cond b [] (read at ∷ chain none read next n (next (read at))))) k d)
          go true k rest = past
          go false zero rest = here at
          go false (suc k) rest = rest k

    module _ {S T : Type 0} (read : ℕ → S → T) (next : T → S) (own : S → List R) where
      pub each_gathered : ((σ : S) → Each (own σ)) → (i n : ℕ) (σ : S) → Each (gather read next own i n σ)
      unfolding gather
      each_gathered here i zero σ k = past
      each_gathered here i (suc n) σ k =
          each_joined (own σ) (gather read next own (suc i) n (next (read i σ))) (here σ) (each_gathered here (suc i) n (next (read i σ))) k
