-- A loop that reads n things, each with a list of its own. Assumes nothing.
use mathlib.Core.Path.{◌≡◌, ◌∙◌}
use mathlib.Core.List.{List}
use Prim.Native.Nat.{ℕ, zero, suc, ◌+◌}
use native.Mathlib.Omega.{arith}
use lib.ListN.{length, length-append}
use Rattle.repeats.specs.Counted.{after, gather}

-- where each thing moves the place on by as many as its list has, the last place counts them all
pub gather_counts : {S R A : Type 0} (read : ℕ → S → R) (next : R → S) (own : S → List A) (place : S → ℕ) → ((i : ℕ) (σ : S) → place (next (read i σ)) ≡ place σ + length (own σ))
    → (i n : ℕ) (σ : S) → place (after read next i n σ) ≡ place σ + length (gather read next own i n σ)
unfolding after gather
gather_counts read next own place moves i zero σ = omega arith
gather_counts read next own place moves i (suc n) σ =
    gather_counts read next own place moves (suc i) n (next (read i σ))
    ∙ rw (moves i σ, length-append (own σ) (gather read next own (suc i) n (next (read i σ)))) (omega arith)
