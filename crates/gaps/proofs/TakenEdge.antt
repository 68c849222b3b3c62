-- The edge that a coefficient takes, by its sign. Assumes nothing.
use mathlib.Core.Path.{◌≡◌}
use mathlib.Core.Bool.{Bool, true, false, not, cond}
use lib.Dec.{T}
use lib.IntN.{ℤ, pos, ◌*ℤ◌, zero-*ℤ}
use lib.Signed.{lt_z, lt_z_yes, lt_z_no}
use lib.Ieee.{Float}
use Rattle.exact.specs.Integers.{◌≼◌, ◌≺◌}
use Rattle.exact.proofs.Order.{≼_antisym}
use Rattle.cdouble.specs.Compensated.{plus_zero}
use Rattle.gaps.specs.ExactGap.{taken}

-- the same choice with another edge where the coefficient is 0
abbrev pub pick : ℤ → Float → Float → Float → Float
pick c low high other = cond (lt_z (pos 0) c) high (cond (lt_z c (pos 0)) low other)

-- what is shown of each case holds of both choices
pub taken_ind : (P : Float → Float → Type 0) (c : ℤ) (low high other : Float) → (pos 0 ≺ c → P high high) → (c ≺ pos 0 → P low low) → (c ≡ pos 0 → P other plus_zero)
    → P (pick c low high other) (taken c low high)
unfolding taken
taken_ind P c low high other above below level = go (lt_z (pos 0) c) (lt_z c (pos 0)) lt_z_yes lt_z_no lt_z_yes lt_z_no
  where
    go : (p q : Bool) → (T p → pos 0 ≺ c) → (T (not p) → c ≼ pos 0) → (T q → c ≺ pos 0) → (T (not q) → pos 0 ≼ c) → P (cond p high (cond q low other)) (cond p high (cond q low plus_zero))
    go true q a b f g = above (a tt)
    go false true a b f g = below (f tt)
    go false false a b f g = level (≼_antisym (b tt) (g tt))

-- where the coefficient is 0 no edge matters
pub times_zero : (c x y : ℤ) → c ≡ pos 0 → c *ℤ x ≡ c *ℤ y
times_zero c x y e = rw (e, zero-*ℤ x, zero-*ℤ y)
