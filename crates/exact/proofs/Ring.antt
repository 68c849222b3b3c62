-- The ring laws of the integers that the library lacks, and two sets for `simp`. Assumes nothing.
use mathlib.Core.Path.{◌≡◌}
use native.Mathlib.Omega.{arith}
use lib.IntN.{ℤ, neg_ℤ, ◌+ℤ◌, ◌*ℤ◌, neg_ℤ-+ℤ, neg_ℤ-neg_ℤ, +ℤ_assoc, +ℤ_comm, *ℤ_comm}
use Rattle.exact.proofs.Difference.{all, differences}

pub *ℤ_assoc : (a b c : ℤ) → (a *ℤ b) *ℤ c ≡ a *ℤ (b *ℤ c)
*ℤ_assoc = all _ λ a a'. all _ λ b b'. all _ λ c c'. simp differences (omega arith)

pub *ℤ_distl : (a b c : ℤ) → a *ℤ (b +ℤ c) ≡ a *ℤ b +ℤ a *ℤ c
*ℤ_distl = all _ λ a a'. all _ λ b b'. all _ λ c c'. simp differences (omega arith)

pub *ℤ_distr : (a b c : ℤ) → (a +ℤ b) *ℤ c ≡ a *ℤ c +ℤ b *ℤ c
*ℤ_distr = all _ λ a a'. all _ λ b b'. all _ λ c c'. simp differences (omega arith)

pub *ℤ_left_comm : (a b c : ℤ) → a *ℤ (b *ℤ c) ≡ b *ℤ (a *ℤ c)
*ℤ_left_comm = all _ λ a a'. all _ λ b b'. all _ λ c c'. simp differences (omega arith)

pub +ℤ_left_comm : (a b c : ℤ) → a +ℤ (b +ℤ c) ≡ b +ℤ (a +ℤ c)
+ℤ_left_comm = all _ λ a a'. all _ λ b b'. all _ λ c c'. simp differences (omega arith)

pub neg-*l : (a b : ℤ) → neg_ℤ a *ℤ b ≡ neg_ℤ (a *ℤ b)
neg-*l = all _ λ a a'. all _ λ b b'. simp differences (omega arith)

pub neg-*r : (a b : ℤ) → a *ℤ neg_ℤ b ≡ neg_ℤ (a *ℤ b)
neg-*r = all _ λ a a'. all _ λ b b'. simp differences (omega arith)

-- products multiplied out and their factors in one order; before `Difference.products`
pub ruleset multiply = (*ℤ_distl, *ℤ_distr, *ℤ_assoc, *ℤ_comm, *ℤ_left_comm, neg-*l, neg-*r, neg_ℤ-+ℤ, neg_ℤ-neg_ℤ)

-- the same with the terms of small sums in one order
pub ruleset rearrange = (multiply, +ℤ_assoc, +ℤ_comm, +ℤ_left_comm)
