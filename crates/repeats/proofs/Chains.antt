-- A loop that reads things until there is none, n at most in all: what is left to do at its head, one turn, and its end. `first` things were
-- read before the loop began, `count` before this turn. Assumes nothing.
use mathlib.Core.Path.{◌≡◌, refl, sym, ◌∙◌}
use mathlib.Core.List.{[]}
use mathlib.Core.Bool.{Bool, true, false}
use mathlib.Core.Logic.{◌⊎◌, inl, inr}
use Prim.Native.Nat.{ℕ, zero, suc, ◌+◌, ◌-◌, ◌<◌, ◌≤◌}
use native.Mathlib.Numerals.{add-one}
use native.Mathlib.Omega.{arith}
use lib.ListN.{length}
use Rattle.repeats.specs.Chained.{chain, chain_end}
use Rattle.repeats.proofs.Stores.{step_left}

-- the position p leads where the first position leads
pub record ChainLeads {P R : Type 0} (none : P → Bool) (read : P → R) (next : R → P) (n first : ℕ) (p₀ : P) (count : ℕ) (p : P) : Type 0 where
  pub is : chain_end none read next (n - first) p₀ ≡ chain_end none read next (n - count) p

-- the count, with what is left, is that of all
pub record ChainCounts {P R : Type 0} (none : P → Bool) (read : P → R) (next : R → P) (n first : ℕ) (p₀ : P) (count : ℕ) (p : P) : Type 0 where
  pub is : first + length (chain none read next (n - first) p₀) ≡ count + length (chain none read next (n - count) p)

-- the loop is over: n are read, or there is none
pub record Over {P : Type 0} (none : P → Bool) (n count : ℕ) (p : P) : Type 0 where
  pub why : (n ≤ count) ⊎ (none p ≡ true)

over : {P : Type 0} {none : P → Bool} {n count : ℕ} {p : P} → Over none n count p → (n - count ≡ 0) ⊎ (none p ≡ true)
over {P} {none} {n} {count} {p} o = elim o.why [ inl h ↦ inl (omega arith) | inr k ↦ inr k ]

module _ {P R : Type 0} (none : P → Bool) (read : P → R) (next : R → P) where
  end_over : (n : ℕ) (p : P) → (n ≡ 0) ⊎ (none p ≡ true) → chain_end none read next n p ≡ p
  unfolding chain_end
  end_over zero p w = refl
  end_over (suc n) p (inl z) = absurd (omega arith)
  end_over (suc n) p (inr k) = rw k

  chain_over : (n : ℕ) (p : P) → (n ≡ 0) ⊎ (none p ≡ true) → chain none read next n p ≡ []
  unfolding chain
  chain_over zero p w = refl
  chain_over (suc n) p (inl z) = absurd (omega arith)
  chain_over (suc n) p (inr k) = rw k

module _ {P R : Type 0} {none : P → Bool} {read : P → R} {next : R → P} {n first : ℕ} {p₀ : P} where
  pub chain_leads_turn : {count : ℕ} {p : P} {r : R} → count < n → none p ≡ false → r ≡ read p
      → ChainLeads none read next n first p₀ count p → ChainLeads none read next n first p₀ (count + 1) (next r)
  unfolding chain_end
  chain_leads_turn {count} {p} h k q t = record { is = t.is ∙ rw (step_left n count h) (rw (k, q, add-one)) }

  pub chain_leads_end : {count : ℕ} {p : P} → Over none n count p → ChainLeads none read next n first p₀ count p → p ≡ chain_end none read next (n - first) p₀
  chain_leads_end {count} {p} o t = sym (t.is ∙ end_over none read next (n - count) p (over o))

  pub chain_counts_turn : {count : ℕ} {p : P} {r : R} → count < n → none p ≡ false → r ≡ read p
      → ChainCounts none read next n first p₀ count p → ChainCounts none read next n first p₀ (count + 1) (next r)
  unfolding chain
  chain_counts_turn {count} {p} h k q t = record { is = t.is ∙ rw (step_left n count h) (rw (k, q, add-one) (omega arith)) }

  pub chain_counts_end : {count : ℕ} {p : P} → Over none n count p → ChainCounts none read next n first p₀ count p
      → count ≡ first + length (chain none read next (n - first) p₀)
  chain_counts_end {count} {p} o t = sym (t.is ∙ rw (chain_over none read next (n - count) p (over o)) (omega arith))
