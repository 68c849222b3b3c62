-- The ordered ring of the integers. The one law that is not linear is that a product of two numbers not below 0 is not below 0;
-- from it come the monotone products, and the largest value of a product over an interval. Assumes nothing.
use mathlib.Core.Path.{◌≡◌}
use mathlib.Core.Logic.{◌⊎◌, inl, inr, ⊎_elim, ◌↔◌}
use mathlib.Core.Bool.{Bool, true, false, not}
use Prim.Native.Nat.{ℕ, ◌*◌, ◌≤◌, ◌<◌, zero-le}
use native.Mathlib.Nat.{le_of_mul-le-mul_left}
use native.Mathlib.Omega.{arith}
use lib.Dec.{T}
use lib.IntN.{ℤ, pos, negsuc, neg_ℤ, ◌+ℤ◌, ◌*ℤ◌, ◌-ℤ◌, *ℤ_comm}
use lib.Signed.{lt_z, lt_z_yes, lt_z_no}
use Rattle.exact.specs.Integers.{◌≼◌, ◌≺◌, max_ℤ}
use Rattle.exact.proofs.Difference.{all, cond_ind, differences}

-- ---- the order
pub ≼_refl : (a : ℤ) → a ≼ a
≼_refl = all _ λ a a'. simp differences (omega arith)

pub ≼_trans : {a b c : ℤ} → a ≼ b → b ≼ c → a ≼ c
≼_trans {a} {b} {c} = go a b c
  where
    go : (a b c : ℤ) → a ≼ b → b ≼ c → a ≼ c
    go = all _ λ a a'. all _ λ b b'. all _ λ c c'. simp differences (λ h k. omega arith)

pub ≼_antisym : {a b : ℤ} → a ≼ b → b ≼ a → a ≡ b
≼_antisym {a} {b} = go a b
  where
    go : (a b : ℤ) → a ≼ b → b ≼ a → a ≡ b
    go = all _ λ a a'. all _ λ b b'. simp differences (λ h k. omega arith)

pub ≼_of_≺ : {a b : ℤ} → a ≺ b → a ≼ b
≼_of_≺ {a} {b} = go a b
  where
    go : (a b : ℤ) → a ≺ b → a ≼ b
    go = all _ λ a a'. all _ λ b b'. simp differences (λ h. omega arith)

pub ≺_not_≼ : {a b : ℤ} → a ≺ b → b ≼ a → ⊥
≺_not_≼ {a} {b} = go a b
  where
    go : (a b : ℤ) → a ≺ b → b ≼ a → ⊥
    go = all _ λ a a'. all _ λ b b'. simp differences (λ h k. omega arith)

pub ≼_or_≺ : (a b : ℤ) → (a ≼ b) ⊎ (b ≺ a)
≼_or_≺ a b = go (lt_z b a) (λ t. t) (λ t. t)
  where
    go : (t : Bool) → (T t → T (lt_z b a)) → (T (not t) → T (not (lt_z b a))) → (a ≼ b) ⊎ (b ≺ a)
    go true f g = inr (lt_z_yes (f tt))
    go false f g = inl (lt_z_no (g tt))

pub ≼_total : (a b : ℤ) → (a ≼ b) ⊎ (b ≼ a)
≼_total a b = ⊎_elim inl (λ h. inr (≼_of_≺ h)) (≼_or_≺ a b)

pub pos_≼ : (m n : ℕ) → (pos m ≼ pos n) ↔ (m ≤ n)
pos_≼ m n = simp differences (λ h. omega arith, λ h. omega arith)

-- ---- sums and negatives
pub +_mono : (a b c d : ℤ) → a ≼ b → c ≼ d → a +ℤ c ≼ b +ℤ d
+_mono = all _ λ a a'. all _ λ b b'. all _ λ c c'. all _ λ d d'. simp differences (λ h k. omega arith)

pub neg-≼ : (a b : ℤ) → (a ≼ b → neg_ℤ b ≼ neg_ℤ a) × (neg_ℤ b ≼ neg_ℤ a → a ≼ b)
neg-≼ a b = (to a b, from a b)
  where
    to : (a b : ℤ) → a ≼ b → neg_ℤ b ≼ neg_ℤ a
    to = all _ λ a a'. all _ λ b b'. simp differences (λ h. omega arith)

    from : (a b : ℤ) → neg_ℤ b ≼ neg_ℤ a → a ≼ b
    from = all _ λ a a'. all _ λ b b'. simp differences (λ h. omega arith)

pub neg-≺ : (a b : ℤ) → a ≺ b → neg_ℤ b ≺ neg_ℤ a
neg-≺ = all _ λ a a'. all _ λ b b'. simp differences (λ h. omega arith)

-- ---- products
pub *_nonneg : (x y : ℤ) → pos 0 ≼ x → pos 0 ≼ y → pos 0 ≼ x *ℤ y
*_nonneg (pos a) (pos b) h k = (pos_≼ 0 (a * b)).1 zero-le
*_nonneg (pos a) (negsuc b) h k = absurd k.le
*_nonneg (negsuc a) y h k = absurd h.le

pub *_mono : (c a b : ℤ) → pos 0 ≼ c → a ≼ b → c *ℤ a ≼ c *ℤ b
*_mono c a b h k = back c a b (*_nonneg c (b -ℤ a) h (over a b k))
  where
    over : (a b : ℤ) → a ≼ b → pos 0 ≼ b -ℤ a
    over = all _ λ a a'. all _ λ b b'. simp differences (λ h. omega arith)

    back : (c a b : ℤ) → pos 0 ≼ c *ℤ (b -ℤ a) → c *ℤ a ≼ c *ℤ b
    back = all _ λ c c'. all _ λ a a'. all _ λ b b'. simp differences (λ h. omega arith)

pub *_anti : (c a b : ℤ) → c ≼ pos 0 → a ≼ b → c *ℤ b ≼ c *ℤ a
*_anti c a b h k = back c a b (*_mono (neg_ℤ c) a b (flip c h) k)
  where
    flip : (c : ℤ) → c ≼ pos 0 → pos 0 ≼ neg_ℤ c
    flip = all _ λ c c'. simp differences (λ h. omega arith)

    back : (c a b : ℤ) → neg_ℤ c *ℤ a ≼ neg_ℤ c *ℤ b → c *ℤ b ≼ c *ℤ a
    back = all _ λ c c'. all _ λ a a'. all _ λ b b'. simp differences (λ h. omega arith)

-- a positive factor goes from both sides
pub *_cancel : (d : ℕ) (a b : ℤ) → 0 < d → pos d *ℤ a ≼ pos d *ℤ b → a ≼ b
*_cancel d = all _ λ a a'. all _ λ b b'. simp differences (λ h k. le_of_mul-le-mul_left {k = d} (omega arith) h)

-- ---- the larger of two
pub max_l : (a b : ℤ) → a ≼ max_ℤ a b
unfolding max_ℤ
max_l a b = cond_ind (lt_z a b) b a (λ z. a ≼ z) (λ t. ≼_of_≺ (lt_z_yes t)) (λ t. ≼_refl a)

pub max_r : (a b : ℤ) → b ≼ max_ℤ a b
unfolding max_ℤ
max_r a b = cond_ind (lt_z a b) b a (λ z. b ≼ z) (λ t. ≼_refl b) (λ t. lt_z_no t)

pub max_least : {a b c : ℤ} → a ≼ c → b ≼ c → max_ℤ a b ≼ c
unfolding max_ℤ
max_least {a} {b} {c} h k = cond_ind (lt_z a b) b a (λ z. z ≼ c) (λ t. k) (λ t. h)

pub max_mono : {a b c d : ℤ} → a ≼ c → b ≼ d → max_ℤ a b ≼ max_ℤ c d
max_mono {a} {b} {c} {d} h k = max_least (≼_trans h (max_l c d)) (≼_trans k (max_r c d))

-- ---- c z for a z of an interval, and for a c of another as well
pub interval : (c lo hi z : ℤ) → lo ≼ z → z ≼ hi → c *ℤ z ≼ max_ℤ (c *ℤ lo) (c *ℤ hi)
interval c lo hi z h k =
    ⊎_elim (λ p. ≼_trans (*_mono c z hi p k) (max_r _ _)) (λ n. ≼_trans (*_anti c lo z n h) (max_l _ _)) (≼_total (pos 0) c)

pub rectangle : (cl cu c lo hi z : ℤ) → cl ≼ c → c ≼ cu → lo ≼ z → z ≼ hi → c *ℤ z ≼ max_ℤ (max_ℤ (cl *ℤ lo) (cu *ℤ lo)) (max_ℤ (cl *ℤ hi) (cu *ℤ hi))
rectangle cl cu c lo hi z p q h k = ≼_trans (interval c lo hi z h k) (max_mono (side lo) (side hi))
  where
    side : (x : ℤ) → c *ℤ x ≼ max_ℤ (cl *ℤ x) (cu *ℤ x)
    side x = rw (*ℤ_comm c x, *ℤ_comm cl x, *ℤ_comm cu x) (interval x cl cu c p q)
