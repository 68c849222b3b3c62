-- A loop that reads n things: what is left to do at its head, one turn, and its end. Assumes nothing.
use mathlib.Core.Path.{◌≡◌, refl, sym, ap, ◌∙◌}
use Prim.Native.Nat.{ℕ, zero, suc, ◌+◌, ◌-◌, ◌<◌, ◌≤◌}
use native.Mathlib.Numerals.{add-one}
use native.Mathlib.Omega.{arith}
use lib.ListN.{length}
use Rattle.repeats.specs.Counted.{run, after}
use Rattle.repeats.proofs.Stores.{step_left}

-- the state σ before the i-th thing leads where the first state σ₀ leads
pub record Leads {S R : Type 0} (read : ℕ → S → R) (next : R → S) (n : ℕ) (σ₀ : S) (i : ℕ) (σ : S) : Type 0 where
  pub is : after read next 0 n σ₀ ≡ after read next i (n - i) σ

-- as many are read as were asked for
pub run_length : {S R : Type 0} (read : ℕ → S → R) (next : R → S) (i n : ℕ) (σ : S) → length (run read next i n σ) ≡ n
unfolding run
run_length read next i zero σ = refl
run_length read next i (suc n) σ = ap suc (run_length read next (suc i) n (next (read i σ)))

module _ {S R : Type 0} {read : ℕ → S → R} {next : R → S} {n : ℕ} {σ₀ : S} where
  pub leads_start : Leads read next n σ₀ 0 σ₀
  leads_start = let z : n - 0 ≡ n = omega arith in record { is = rw z }

  pub leads_turn : {i : ℕ} {σ : S} {r : R} → i < n → r ≡ read i σ → Leads read next n σ₀ i σ → Leads read next n σ₀ (i + 1) (next r)
  unfolding after
  leads_turn {i} {σ} h e t = record { is = t.is ∙ rw (step_left n i h) (rw (add-one, e)) }

  pub leads_end : {i : ℕ} {σ : S} → n ≤ i → Leads read next n σ₀ i σ → σ ≡ after read next 0 n σ₀
  unfolding after
  leads_end {i} h t = let z : n - i ≡ 0 = omega arith in sym (t.is ∙ rw z)
