-- Integers given by a sign and a magnitude: negation, sum, product and order; the magnitude of a difference. Assumes nothing.
use mathlib.Core.Path.{◌≡◌, refl, sym}
use mathlib.Core.Logic.{◌↔◌}
use mathlib.Core.Bool.{Bool, true, false, not, true≢false}
use Prim.Native.Nat.{ℕ, zero, suc, ◌+◌, ◌-◌, ◌*◌, ◌≤◌, ◌<◌}
use native.Mathlib.Omega.{arith}
use lib.IntN.{ℤ, pos, negsuc, neg_ℤ, nat_abs, ◌+ℤ◌, ◌*ℤ◌}
use lib.Ieee.{unlike}
use Rattle.exact.specs.Value.{signed}
use Rattle.exact.specs.Integers.{◌≼◌, ◌≺◌}
use Rattle.exact.proofs.Naturals.{distance}
use Rattle.exact.proofs.Difference.{dif, differences}

-- every integer is a sign and a magnitude
pub by_sign : (P : ℤ → Type 0) → ((s : Bool) (n : ℕ) → P (signed s n)) → (z : ℤ) → P z
by_sign P h (pos n) = h false n
by_sign P h (negsuc n) = h true (suc n)

pub signed_zero : (s : Bool) → signed s 0 ≡ pos 0
signed_zero true = refl
signed_zero false = refl

pub signed_neg : (s : Bool) (n : ℕ) → neg_ℤ (signed s n) ≡ signed (not s) n
signed_neg false n = refl
signed_neg true n = simp differences

pub signed_abs : (s : Bool) (n : ℕ) → nat_abs (signed s n) ≡ n
signed_abs false n = refl
signed_abs true zero = refl
signed_abs true (suc n) = refl

pub signed_+ : (s : Bool) (a b : ℕ) → signed s a +ℤ signed s b ≡ signed s (a + b)
signed_+ false a b = refl
signed_+ true a b = simp differences (omega arith)

-- opposite signs: the larger magnitude has its way
pub signed-- : (s t : Bool) (a b : ℕ) → unlike s t ≡ true → b ≤ a → signed s a +ℤ signed t b ≡ signed s (a - b)
signed-- false true a b e h = simp differences (omega arith)
signed-- true false a b e h = simp differences (omega arith)
signed-- true true a b e h = absurd (true≢false (sym e))
signed-- false false a b e h = absurd (true≢false (sym e))

pub signed_* : (s t : Bool) (m n : ℕ) → signed s m *ℤ signed t n ≡ signed (unlike s t) (m * n)
signed_* false false m n = refl
signed_* true true m n = simp differences (omega arith)
signed_* true false m n = simp differences (omega arith)
signed_* false true m n = simp differences (omega arith)

pub signed_scale : (s : Bool) (n c : ℕ) → signed s n *ℤ pos c ≡ signed s (n * c)
signed_scale false n c = refl
signed_scale true n c = signed_* true false n c

-- ---- the order, by signs and magnitudes
abbrev pub above : Bool → ℕ → ℕ
above false n = n
above true n = 0

abbrev pub below : Bool → ℕ → ℕ
below false n = 0
below true n = n

abbrev pub SignedLe : Bool → ℕ → Bool → ℕ → Type 0
SignedLe s m t n = above s m + below t n ≤ above t n + below s m

abbrev pub SignedLt : Bool → ℕ → Bool → ℕ → Type 0
SignedLt s m t n = above s m + below t n < above t n + below s m

pub signed_≼ : (s : Bool) (m : ℕ) (t : Bool) (n : ℕ) → (signed s m ≼ signed t n) ↔ SignedLe s m t n
signed_≼ false m false n = simp differences (λ h. omega arith, λ h. omega arith)
signed_≼ false m true n = simp differences (λ h. omega arith, λ h. omega arith)
signed_≼ true m false n = simp differences (λ h. omega arith, λ h. omega arith)
signed_≼ true m true n = simp differences (λ h. omega arith, λ h. omega arith)

pub signed_≺ : (s : Bool) (m : ℕ) (t : Bool) (n : ℕ) → (signed s m ≺ signed t n) ↔ SignedLt s m t n
signed_≺ false m false n = simp differences (λ h. omega arith, λ h. omega arith)
signed_≺ false m true n = simp differences (λ h. omega arith, λ h. omega arith)
signed_≺ true m false n = simp differences (λ h. omega arith, λ h. omega arith)
signed_≺ true m true n = simp differences (λ h. omega arith, λ h. omega arith)

-- ---- how far apart two naturals are is the magnitude of their difference
pub nat_abs_dif : (a b : ℕ) → nat_abs (dif a b) ≡ distance a b
nat_abs_dif a b = go (dif a b) refl
  where
    go : (z : ℤ) → z ≡ dif a b → nat_abs z ≡ distance a b
    go (pos n) e = omega (arith, simp differences at e)
    go (negsuc n) e = omega (arith, simp differences at e)
