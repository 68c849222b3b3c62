-- Rounding to nearest and powers of two: what divides a rounded number, how far off it is, and that a power of two goes through. Assumes nothing.
-- At l = 0, where a number of units is rounded to p digits.
use mathlib.Core.Path.{◌≡◌, refl, sym, ap, ◌∙◌, subst}
use mathlib.Core.Logic.{inl, inr}
use Prim.Native.Nat.{ℕ, zero, suc, ◌+◌, ◌-◌, ◌*◌, ◌/◌, ◌^◌, ◌≤◌, ◌<◌, ◌∣◌}
use native.Mathlib.Nat.{le_refl, le_trans, le_of_eq, le_of_lt, lt_of_lt_of_le, not-le_of_lt, eq-or-lt_of_le, mul_assoc, mul-one, mul-pos, one-mul, mul-le-mul_right, dvd-mul_left, div-mul_cancel, div-one, one-dvd, two-pow-succ, zero-lt-suc}
use native.Mathlib.Omega.{arith}
use lib.Pow.{pow-add, pow_pos, pow_mono, shl_lt}
use lib.Ieee.{size}
use lib.Ieee.Digits.{size-lt, size-le, size_reaches}
use lib.Ieee.Nearest.{closest, closest_same}
use Rattle.exact.specs.Representable.{Representable}
use Rattle.exact.specs.Nearest.{nearest_units}
use Rattle.exact.proofs.Naturals.{le_or_lt, pow_dvd}
use Rattle.exact.proofs.Representable.{representable_pow, representable_up}
use Rattle.exact.proofs.Nearest.{closest_lo, closest_hi, closest_half, nearest_same}

-- the definition at l = 0
nearest_is : (p n : ℕ) → nearest_units p 0 n ≡ closest n (2 ^ (size n - p)) * 2 ^ (size n - p)
unfolding nearest_units
nearest_is p n = ap (λ (x : ℕ). closest n (2 ^ 0 * 2 ^ (size x - p)) * 2 ^ (size x - p)) (div-one n) ∙ ap (λ (x : ℕ). closest n x * 2 ^ (size n - p)) (one-mul (2 ^ (size n - p)))

closest_dvd : (n u : ℕ) → 0 < u → u ∣ n → closest n u * u ≡ n
closest_dvd n u U d = omega (arith, closest_lo n u, closest_hi n u (n / u) U (le_of_eq (sym (div-mul_cancel u d))), div-mul_cancel u d)

pub half_le : (n : ℕ) → 0 < n → 2 ^ size n ≤ n + n
half_le n h = go (size n) refl
  where
    none : n < 1 → ⊥
    none l = omega arith

    go : (z : ℕ) → size n ≡ z → 2 ^ z ≤ n + n
    go zero e = absurd (none (subst (λ (z : ℕ). n < 2 ^ z) e (size-lt n)))
    go (suc z) e = le_trans (le_of_eq (two-pow-succ z)) (twice (size_reaches n z (subst (λ (x : ℕ). z < x) (sym e) (le_refl (suc z)))))
      where
        twice : {x y : ℕ} → x ≤ y → x + x ≤ y + y
        twice h = omega arith

size_shift : (n t : ℕ) → 0 < n → size (n * 2 ^ t) ≡ size n + t
size_shift n t h =
    elim (le_or_lt (size n + t) (size (n * 2 ^ t))) [
      | inl l ↦ omega (arith, size-le (n * 2 ^ t) (size n + t) (shl_lt (size n) t (size-lt n)))
      | inr l ↦ absurd (no (size-lt (n * 2 ^ t)) (pow_mono l) (two-pow-succ (size (n * 2 ^ t))) (mul-le-mul_right (2 ^ t) (half_le n h)) (pow-add 2 (size n) t))
    ]
  where
    no : n * 2 ^ t < 2 ^ size (n * 2 ^ t) → 2 ^ suc (size (n * 2 ^ t)) ≤ 2 ^ (size n + t) → 2 ^ suc (size (n * 2 ^ t)) ≡ 2 ^ size (n * 2 ^ t) + 2 ^ size (n * 2 ^ t) → 2 ^ size n * 2 ^ t ≤ (n + n) * 2 ^ t → 2 ^ (size n + t) ≡ 2 ^ size n * 2 ^ t → ⊥
    no a b c d e = omega arith

module _ (p : ℕ) (P : 0 < p) where
  -- a power of two that divides a number divides it rounded
  pub nearest_dvd : (n i : ℕ) → 2 ^ i ∣ n → 2 ^ i ∣ nearest_units p 0 n
  nearest_dvd n i d =
      let k = size n - p in
      subst (λ (x : ℕ). 2 ^ i ∣ x) (sym (nearest_is p n))
      (elim (le_or_lt i k) [
        | inl l ↦ pow_dvd i k (closest n (2 ^ k) * 2 ^ k) l (dvd-mul_left (2 ^ k) (closest n (2 ^ k)))
        | inr l ↦ subst (λ (x : ℕ). 2 ^ i ∣ x) (sym (closest_dvd n (2 ^ k) (pow_pos k) (pow_dvd k i n (le_of_lt l) d))) d
      ])

  -- a number of at most p + t digits moves by half of 2 ^ t at most
  pub nearest_error : (n t : ℕ) → n ≤ 2 ^ (p + t) → (nearest_units p 0 n + nearest_units p 0 n ≤ n + n + 2 ^ t) × (n + n ≤ nearest_units p 0 n + nearest_units p 0 n + 2 ^ t)
  nearest_error n t h = elim (eq-or-lt_of_le h) [ inl e ↦ omega (arith, same e) | inr l ↦ go l ]
    where
      same : n ≡ 2 ^ (p + t) → nearest_units p 0 n ≡ n
      same e = nearest_same p P 0 n n (subst (λ (x : ℕ). Representable p x) (sym e) (representable_pow p P (p + t))) (sym (mul-one n))

      fewer : (z : ℕ) → z ≤ p + t → z - p ≤ t
      fewer z h = omega arith

      go : n < 2 ^ (p + t) → (nearest_units p 0 n + nearest_units p 0 n ≤ n + n + 2 ^ t) × (n + n ≤ nearest_units p 0 n + nearest_units p 0 n + 2 ^ t)
      go l = omega (arith, nearest_is p n, closest_half n (2 ^ (size n - p)) (pow_pos (size n - p)), pow_mono (fewer (size n) (size-le n (p + t) l)))

  -- a number of at least p + t digits, or half of that, becomes a multiple of 2 ^ t
  pub nearest_multiple : (n t : ℕ) → 2 ^ (p + t) ≤ n + n → 2 ^ t ∣ nearest_units p 0 n
  nearest_multiple n t h =
      let k = size n - p in
      subst (λ (x : ℕ). 2 ^ t ∣ x) (sym (nearest_is p n)) (pow_dvd t k (closest n (2 ^ k) * 2 ^ k) (left (size n) (reach (p + t) h)) (dvd-mul_left (2 ^ k) (closest n (2 ^ k))))
    where
      left : (z : ℕ) → p + t ≤ z → t ≤ z - p
      left z l = omega arith

      reach : (j : ℕ) → 2 ^ j ≤ n + n → j ≤ size n
      reach j h = elim (le_or_lt j (size n)) [ inl l ↦ l | inr l ↦ absurd (no (size-lt n) (pow_mono l) (two-pow-succ (size n))) ]
        where
          no : n < 2 ^ size n → 2 ^ suc (size n) ≤ 2 ^ j → 2 ^ suc (size n) ≡ 2 ^ size n + 2 ^ size n → ⊥
          no a b c = omega (arith, h)

  -- a power of two goes through
  pub nearest_shift : (n t : ℕ) → nearest_units p 0 (n * 2 ^ t) ≡ nearest_units p 0 n * 2 ^ t
  nearest_shift n t =
      elim (le_or_lt (size n) p) [
        | inl l ↦
            let R : Representable p n = record { exp = 0; dvd = one-dvd n; fit = lt_of_lt_of_le (size-lt n) (pow_mono (room l)) } in
            nearest_same p P 0 (n * 2 ^ t) (n * 2 ^ t) (representable_up p n t R) (sym (mul-one (n * 2 ^ t))) ∙ ap (λ (x : ℕ). x * 2 ^ t) (sym (nearest_same p P 0 n n R (sym (mul-one n))))
        | inr l ↦
            let k = size n - p in
            nearest_is p (n * 2 ^ t)
            ∙ ap (λ (z : ℕ). closest (n * 2 ^ t) (2 ^ z) * 2 ^ z) (ap (λ (z : ℕ). z - p) (size_shift n t (some n l)) ∙ move (size n) l)
            ∙ ap (λ (z : ℕ). closest (n * 2 ^ t) z * z) (pow-add 2 k t)
            ∙ ap (λ (z : ℕ). z * (2 ^ k * 2 ^ t)) (closest_same (n * 2 ^ t) (2 ^ k * 2 ^ t) n (2 ^ k) (mul-pos (pow_pos k) (pow_pos t)) (pow_pos k) (swap n (2 ^ t) (2 ^ k)))
            ∙ sym (mul_assoc (closest n (2 ^ k)) (2 ^ k) (2 ^ t))
            ∙ ap (λ (z : ℕ). z * 2 ^ t) (sym (nearest_is p n))
      ]
    where
      room : size n ≤ p → size n ≤ p + 0
      room h = omega arith

      move : (z : ℕ) → p < z → z + t - p ≡ z - p + t
      move z h = omega arith

      swap : (x y z : ℕ) → x * y * z ≡ x * (z * y)
      swap x y z = omega arith

      some : (n : ℕ) → p < size n → 0 < n
      some zero h = absurd (not-le_of_lt h (le_trans (size-le 0 0 (zero-lt-suc 0)) (le_of_lt P)))
      some (suc n) h = zero-lt-suc n
