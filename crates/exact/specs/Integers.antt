-- The integers' order written at the level of an equation, the larger of two, and sums over indices. Assumes nothing.
use Rattle.std.specs.Prelude.{cond, ℕ, zero, suc, ℤ, pos, ◌+ℤ◌, ◌≤ℤ◌, ◌<ℤ◌}
use Rattle.std.specs.Int.Signed.{lt_z}

-- the library's order: its own symbols bind tighter than a sum
infix 4 ◌≼◌ ◌≺◌
abbrev pub ◌≼◌ : ℤ → ℤ → Type 0
a ≼ b = a ≤ℤ b

abbrev pub ◌≺◌ : ℤ → ℤ → Type 0
a ≺ b = a <ℤ b

-- the larger of two
unfoldable pub max_ℤ : ℤ → ℤ → ℤ
max_ℤ a b = cond (lt_z a b) b a

-- f 0 + f 1 + … + f (n - 1)
unfoldable pub Σ< : ℕ → (ℕ → ℤ) → ℤ
Σ< zero f = pos 0
Σ< (suc n) f = Σ< n f +ℤ f n
