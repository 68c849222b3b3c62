-- Which naturals p binary digits and a power of two write. Assumes nothing.
use mathlib.Core.Path.{◌≡◌, sym, ap, ◌∙◌, subst}
use mathlib.Core.Logic.{inl, inr}
use Prim.Native.Nat.{ℕ, ◌+◌, ◌-◌, ◌*◌, ◌^◌, ◌≤◌, ◌<◌, ◌∣◌}
use native.Mathlib.Nat.{zero-mul, dvd_refl, dvd-mul_left, one-dvd, mul-dvd-mul_right, dvd_of_mul-dvd-mul_right, eq-or-lt_of_le, lt_of_lt_of_le, lt_of_mul-lt-mul_right, le_trans, le_of_eq}
use native.Mathlib.Omega.{arith}
use lib.Pow.{pow-add, pow_pos, pow_mono, pow-lt, shl_lt}
use Rattle.exact.specs.Representable.{Representable}
use Rattle.exact.proofs.Naturals.{le_or_lt}

pub representable_pow : (p : ℕ) → 0 < p → (j : ℕ) → Representable p (2 ^ j)
representable_pow p P j = record { exp = j; dvd = dvd_refl (2 ^ j); fit = pow-lt (more p j P) }
  where
    more : (p j : ℕ) → 0 < p → j < p + j
    more p j h = omega arith

pub representable-zero : (p : ℕ) → Representable p 0
representable-zero p = record { exp = 0; dvd = subst (λ (n : ℕ). 2 ^ 0 ∣ n) (zero-mul (2 ^ 0)) (dvd-mul_left (2 ^ 0) 0); fit = pow_pos (p + 0) }

-- the bound 2 ^ (p + t) itself is a power of two
pub representable_of : (p : ℕ) → 0 < p → (n t : ℕ) → 2 ^ t ∣ n → n ≤ 2 ^ (p + t) → Representable p n
representable_of p P n t d h =
    elim (eq-or-lt_of_le h) [
      | inl e ↦ subst (λ (x : ℕ). Representable p x) (sym e) (representable_pow p P (p + t))
      | inr l ↦ record { exp = t; dvd = d; fit = l }
    ]

-- more digits hold as much
pub representable_more : (p q n : ℕ) → p ≤ q → Representable p n → Representable q n
representable_more p q n h R = record { exp = R.exp; dvd = R.dvd; fit = lt_of_lt_of_le R.fit (pow_mono (more R.exp)) }
  where
    more : (e : ℕ) → p + e ≤ q + e
    more e = omega arith

-- ---- a power of two changes nothing
pub representable_up : (p n t : ℕ) → Representable p n → Representable p (n * 2 ^ t)
representable_up p n t R = record {
  exp = R.exp + t;
  dvd = subst (λ (x : ℕ). x ∣ n * 2 ^ t) (sym (pow-add 2 R.exp t)) (mul-dvd-mul_right (2 ^ R.exp) R.dvd (2 ^ t));
  fit = subst (λ (x : ℕ). n * 2 ^ t < 2 ^ x) (assoc p R.exp t) (shl_lt (p + R.exp) t R.fit);
}
  where
    assoc : (x y z : ℕ) → x + y + z ≡ x + (y + z)
    assoc x y z = omega arith

pub representable_down : (p n t : ℕ) → Representable p (n * 2 ^ t) → Representable p n
representable_down p n t R =
    elim (le_or_lt t R.exp) [
      | inl l ↦ record {
        exp = R.exp - t;
        dvd = dvd_of_mul-dvd-mul_right (2 ^ (R.exp - t)) (pow_pos t) (subst (λ (x : ℕ). x ∣ n * 2 ^ t) (ap (λ (x : ℕ). 2 ^ x) (back R.exp l) ∙ pow-add 2 (R.exp - t) t) R.dvd);
        fit = lt_of_mul-lt-mul_right (2 ^ t) (subst (λ (x : ℕ). n * 2 ^ t < x) (ap (λ (x : ℕ). 2 ^ x) (over R.exp l) ∙ pow-add 2 (p + (R.exp - t)) t) R.fit);
      }
      | inr l ↦ record {
        exp = 0;
        dvd = one-dvd n;
        fit = lt_of_mul-lt-mul_right (2 ^ t) (lt_of_lt_of_le R.fit (le_trans (pow_mono (room R.exp l)) (le_of_eq (pow-add 2 (p + 0) t))));
      }
    ]
  where
    back : (e : ℕ) → t ≤ e → e ≡ e - t + t
    back e h = omega arith

    over : (e : ℕ) → t ≤ e → p + e ≡ p + (e - t) + t
    over e h = omega arith

    room : (e : ℕ) → e < t → p + e ≤ p + 0 + t
    room e h = omega arith

-- twice a number is one digit longer and one place higher
pub representable_twice : (p n : ℕ) → Representable p n → Representable p (n + n)
representable_twice p n R = subst (λ (x : ℕ). Representable p x) (two n) (representable_up p n 1 R)
  where
    two : (n : ℕ) → n * 2 ^ 1 ≡ n + n
    two n = omega arith
