-- Cases of the order of two naturals, powers of two, and how far apart two naturals are. Assumes nothing.
use mathlib.Core.Path.{◌≡◌, sym, ap, ◌∙◌, subst}
use mathlib.Core.Logic.{◌⊎◌, inl, inr}
use mathlib.Core.Bool.{Bool, true, false, not}
use Prim.Native.Nat.{ℕ, ◌+◌, ◌-◌, ◌*◌, ◌^◌, ◌≤◌, ◌<◌, ◌∣◌}
use native.Mathlib.Nat.{dvd-mul_left, dvd_trans, dvd-add, dvd-sub, mul_comm, mul-sub, add-mul}
use native.Mathlib.Omega.{arith}
use lib.Dec.{T, leb, leb→le, nleb→lt}
use lib.Pow.{pow-add}

pub le_or_lt : (a b : ℕ) → (a ≤ b) ⊎ (b < a)
le_or_lt a b = go (leb a b) (leb→le a b) (nleb→lt a b)
  where
    go : (t : Bool) → (T t → a ≤ b) → (T (not t) → b < a) → (a ≤ b) ⊎ (b < a)
    go true h k = inl (h tt)
    go false h k = inr (k tt)

-- a lower power of two divides what a higher one divides
pub pow_dvd : (i j n : ℕ) → i ≤ j → 2 ^ j ∣ n → 2 ^ i ∣ n
pow_dvd i j n h d = dvd_trans (2 ^ i) (subst (λ (x : ℕ). 2 ^ i ∣ x) (sym (pow-add 2 (j - i) i) ∙ ap (λ (x : ℕ). 2 ^ x) (back i j h)) (dvd-mul_left (2 ^ i) (2 ^ (j - i)))) d
  where
    back : (i j : ℕ) → i ≤ j → j - i + i ≡ j
    back i j h = omega arith

-- |a - b|
abbrev pub distance : ℕ → ℕ → ℕ
distance a b = (a - b) + (b - a)

-- |a - b| ≤ k
abbrev pub Within : ℕ → ℕ → ℕ → Type 0
Within k a b = (a ≤ b + k) × (b ≤ a + k)

pub distance_dvd : (k a b : ℕ) → k ∣ a → k ∣ b → k ∣ distance a b
distance_dvd k a b d e = dvd-add k (dvd-sub k d e) (dvd-sub k e d)

pub sub_mul : (a b c : ℕ) → (a - b) * c ≡ a * c - b * c
sub_mul a b c = omega (arith, mul_comm (a - b) c, mul-sub c a b, mul_comm c a, mul_comm c b)

pub distance_mul : (a b c : ℕ) → distance (a * c) (b * c) ≡ distance a b * c
distance_mul a b c = omega (arith, sub_mul a b c, sub_mul b a c, add-mul (a - b) (b - a) c)
