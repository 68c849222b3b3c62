-- Sums over indices: equal terms, sums of sums, scaling, exchange of the order, and order. Assumes nothing.
use mathlib.Core.Path.{◌≡◌, refl, sym, ◌∙◌, ap}
use Prim.Native.Nat.{ℕ, zero, suc, ◌<◌}
use native.Mathlib.Omega.{arith}
use lib.IntN.{ℤ, pos, ◌+ℤ◌, ◌*ℤ◌, *ℤ-zero, *ℤ_comm}
use Rattle.exact.specs.Integers.{◌≼◌, Σ<}
use Rattle.exact.proofs.Ring.{*ℤ_distl, *ℤ_assoc, rearrange}
use Rattle.exact.proofs.Order.{≼_refl, +_mono}

pub Σ_ext : (n : ℕ) (f g : ℕ → ℤ) → ((i : ℕ) → i < n → f i ≡ g i) → Σ< n f ≡ Σ< n g
unfolding Σ<
Σ_ext zero f g h = refl
Σ_ext (suc n) f g h = rw (Σ_ext n f g (λ i k. h i (omega arith)), h n (omega arith))

pub Σ-zero : (n : ℕ) → Σ< n (λ i. pos 0) ≡ pos 0
unfolding Σ<
Σ-zero zero = refl
Σ-zero (suc n) = rw (Σ-zero n)

pub Σ-+ : (n : ℕ) (f g : ℕ → ℤ) → Σ< n (λ i. f i +ℤ g i) ≡ Σ< n f +ℤ Σ< n g
unfolding Σ<
Σ-+ zero f g = refl
Σ-+ (suc n) f g = rw (Σ-+ n f g) (step (Σ< n f) (Σ< n g) (f n) (g n))
  where
    step : (a b c d : ℤ) → a +ℤ b +ℤ (c +ℤ d) ≡ a +ℤ c +ℤ (b +ℤ d)
    step a b c d = simp rearrange

pub Σ-* : (c : ℤ) (n : ℕ) (f : ℕ → ℤ) → c *ℤ Σ< n f ≡ Σ< n (λ i. c *ℤ f i)
unfolding Σ<
Σ-* c zero f = *ℤ-zero c
Σ-* c (suc n) f = *ℤ_distl c (Σ< n f) (f n) ∙ ap (λ (t : ℤ). t +ℤ c *ℤ f n) (Σ-* c n f)

pub Σ_swap : (m n : ℕ) (f : ℕ → ℕ → ℤ) → Σ< m (λ i. Σ< n (λ j. f i j)) ≡ Σ< n (λ j. Σ< m (λ i. f i j))
unfolding Σ<
Σ_swap zero n f = sym (Σ-zero n)
Σ_swap (suc m) n f = rw (Σ_swap m n f) (sym (Σ-+ n (λ j. Σ< m (λ i. f i j)) (λ j. f m j)))

pub Σ_mono : (n : ℕ) (f g : ℕ → ℤ) → ((i : ℕ) → i < n → f i ≼ g i) → Σ< n f ≼ Σ< n g
unfolding Σ<
Σ_mono zero f g h = ≼_refl _
Σ_mono (suc n) f g h = +_mono _ _ _ _ (Σ_mono n f g (λ i k. h i (omega arith))) (h n (omega arith))

-- rows combined by multipliers: the sum over rows of y i times the row's value at z is the sum over columns of the combined coefficient times z j
pub combine : (m n : ℕ) (y z : ℕ → ℤ) (a : ℕ → ℕ → ℤ) → Σ< m (λ i. y i *ℤ Σ< n (λ j. a i j *ℤ z j)) ≡ Σ< n (λ j. Σ< m (λ i. y i *ℤ a i j) *ℤ z j)
combine m n y z a =
    Σ_ext m _ _ (λ i h. Σ-* (y i) n (λ j. a i j *ℤ z j))
    ∙ Σ_swap m n (λ i j. y i *ℤ (a i j *ℤ z j))
    ∙ Σ_ext n _ _ (λ j h. Σ_ext m _ _ (λ i k. sym (*ℤ_assoc (y i) (a i j) (z j)) ∙ *ℤ_comm (y i *ℤ a i j) (z j)) ∙ sym (Σ-* (z j) m (λ i. y i *ℤ a i j)) ∙ *ℤ_comm (z j) (Σ< m (λ i. y i *ℤ a i j)))
