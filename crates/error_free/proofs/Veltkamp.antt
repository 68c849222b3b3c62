-- Veltkamp's split: a number of q + 1 digits is a number of q + 1 - s digits, its high half, plus or minus one of s - 1. Assumes nothing.
-- On naturals; each rounded result is the nearest number of q + 1 digits, and s ≤ q.
use mathlib.Core.Path.{◌≡◌, sym, ap, ◌∙◌, subst}
use mathlib.Core.Logic.{inl, inr}
use Prim.Native.Nat.{ℕ, suc, ◌+◌, ◌-◌, ◌*◌, ◌/◌, ◌^◌, ◌≤◌, ◌<◌, ◌∣◌, zero-le}
use native.Mathlib.Nat.{le_trans, le_of_eq, le_of_lt, lt_of_le_of_lt, eq-or-lt_of_le, eq-zero-or-pos, zero-lt-suc, mul-one, mul-zero, mul-le-mul, mul-le-mul_right, mul_assoc, le_of_mul-le-mul_right, lt_of_mul-lt-mul_right, two-pow-succ, dvd_refl, dvd-sub, dvd-mul_left, dvd-mul_left_of_dvd, le_of_dvd, div-mul_cancel, add-mul, add_comm, mul-dvd-mul}
use native.Mathlib.Omega.{arith}
use lib.Pow.{pow-add, pow_pos, pow_mono}
use lib.Ieee.{size}
use lib.Ieee.Digits.{size-lt, size-le}
use Rattle.exact.specs.Nearest.{nearest_units}
use Rattle.exact.specs.Representable.{Representable}
use Rattle.exact.proofs.Naturals.{le_or_lt, pow_dvd, distance, distance_dvd, distance_mul, sub_mul}
use Rattle.exact.proofs.Representable.{representable-zero, representable_pow, representable_of, representable_down}
use Rattle.exact.proofs.Nearest.{nearest_le, nearest_same}
use Rattle.exact.proofs.Digits.{half_le, nearest_dvd, nearest_error, nearest_multiple, nearest_shift}

module _ (q s : ℕ) where
  -- the factor 2 ^ s + 1 times A, rounded; that less A, rounded; and their difference, the high half
  abbrev pub scaled : ℕ → ℕ
  scaled A = nearest_units (suc q) 0 ((2 ^ s + 1) * A)

  abbrev pub excess : ℕ → ℕ
  excess A = nearest_units (suc q) 0 (scaled A - A)

  abbrev pub high : ℕ → ℕ
  high A = scaled A - excess A

  -- the split's differences are of naturals, the smaller from the larger, and its halves have few digits
  pub record Halves (A : ℕ) : Type 0 where
    pub a_le : A ≤ scaled A
    pub b_le : excess A ≤ scaled A
    pub high_digits : Representable (suc q - s) (high A)
    pub low_digits : Representable (s - 1) (distance A (high A))
    pub high_le : high A + high A ≤ A + A + A

-- a has q + 1 digits from the place e up, all in use, and h is a multiple of 2 ^ (s + e) within half of that of a
pub record Split (q s e a h : ℕ) : Type 0 where
  pub least : 2 ^ q * 2 ^ e ≤ a
  pub most : a ≤ (2 ^ q + 2 ^ q) * 2 ^ e
  pub dvd : 2 ^ e ∣ a
  pub h_most : h ≤ (2 ^ q + 2 ^ q) * 2 ^ e
  pub h_dvd : 2 ^ (s + e) ∣ h
  pub near : distance a h + distance a h ≤ 2 ^ s * 2 ^ e

-- q + 1 digits from the place t up
pub pow_digits : (q t : ℕ) → 2 ^ (suc q + t) ≡ (2 ^ q + 2 ^ q) * 2 ^ t
pow_digits q t = pow-add 2 (suc q) t ∙ ap (λ (x : ℕ). x * 2 ^ t) (two-pow-succ q)

-- powers of two that divide two numbers
pub dvd_product : (i j x y : ℕ) → 2 ^ i ∣ x → 2 ^ j ∣ y → 2 ^ (i + j) ∣ x * y
dvd_product i j x y d g = subst (λ (z : ℕ). z ∣ x * y) (sym (pow-add 2 i j)) (mul-dvd-mul (2 ^ i) (2 ^ j) d g)

-- the factor is at most 2 ^ (s + 1)
pub product_cap : (s A x : ℕ) → A ≤ 2 ^ x → (2 ^ s + 1) * A ≤ 2 ^ (suc s + x)
product_cap s A x h = le_trans (mul-le-mul (one (2 ^ s) (2 ^ suc s) (two-pow-succ s) (pow_pos s)) h) (le_of_eq (sym (pow-add 2 (suc s) x)))
  where
    one : (S T : ℕ) → T ≡ S + S → 0 < S → S + 1 ≤ T
    one S T h g = omega arith

-- ---- a number with all its q + 1 digits in use
module _ (q s e : ℕ) (sq : s ≤ q) (m : ℕ) (lo : 2 ^ q ≤ m) (hi : m < 2 ^ q + 2 ^ q) where
  abbrev Q : ℕ
  Q = 2 ^ q

  abbrev S : ℕ
  S = 2 ^ s

  abbrev E : ℕ
  E = 2 ^ e

  abbrev a : ℕ
  a = m * E

  abbrev product : ℕ
  product = (S + 1) * a

  place : 2 ^ (s + e) ≡ S * E
  place = pow-add 2 s e

  digits_at_place : 2 ^ (suc q + (s + e)) ≡ (Q + Q) * (S * E)
  digits_at_place = pow_digits q (s + e) ∙ ap (λ (x : ℕ). (Q + Q) * x) place

  S≤Q : S ≤ Q
  S≤Q = pow_mono sq

  one_place : S * E ≤ a
  one_place = omega (arith, mul-le-mul_right E S≤Q, mul-le-mul_right E lo)

  -- the first rounding keeps q + 1 digits from the place s + e or s + e + 1 up
  product_most : product ≤ 2 ^ (suc q + suc (s + e))
  product_most = omega (arith, pow_digits q (suc (s + e)), ap (λ (x : ℕ). (Q + Q) * x) (two-pow-succ (s + e)), ap (λ (x : ℕ). (Q + Q) * x) place, mul-le-mul_right a (pow_pos s), mul-le-mul_right (S * E) hi)

  scaled_error : (scaled q s a ≤ product + S * E) × (product ≤ scaled q s a + S * E)
  scaled_error = omega (arith, nearest_error (suc q) (zero-lt-suc q) product (suc (s + e)) product_most, two-pow-succ (s + e), place)

  scaled_dvd : 2 ^ (s + e) ∣ scaled q s a
  scaled_dvd = nearest_multiple (suc q) (zero-lt-suc q) product (s + e) (omega (arith, digits_at_place, mul-le-mul_right (S * E) lo))

  -- of the least such number, a power of two, the product is exact
  power_exact : m ≡ Q → scaled q s a ≡ product
  power_exact h = nearest_same (suc q) (zero-lt-suc q) 0 product product (representable_of (suc q) (zero-lt-suc q) product (q + e) (subst (λ (x : ℕ). 2 ^ (q + e) ∣ x) is (dvd-mul_left (2 ^ (q + e)) (S + 1))) short) (sym (mul-one product))
    where
      is : (S + 1) * 2 ^ (q + e) ≡ product
      is = ap (λ (x : ℕ). (S + 1) * x) (pow-add 2 q e ∙ ap (λ (x : ℕ). x * E) (sym h))

      few : S + 1 ≤ Q + Q
      few = omega (arith, S≤Q, pow_pos q)

      short : product ≤ 2 ^ (suc q + (q + e))
      short = le_trans (le_of_eq (sym is)) (le_trans (mul-le-mul_right (2 ^ (q + e)) few) (le_of_eq (sym (pow_digits q (q + e)))))

  -- so what is beyond a has q + 1 digits from the place s + e up, and no more
  scaled_least : Q * (S * E) + a ≤ scaled q s a
  scaled_least = elim (eq-or-lt_of_le lo) [ inl h ↦ omega (arith, power_exact (sym h), ap (λ (x : ℕ). x * (S * E)) h) | inr l ↦ omega (arith, scaled_error, mul-le-mul_right (S * E) l) ]

  scaled_most : scaled q s a ≤ (Q + Q) * (S * E) + a
  scaled_most = omega (arith, scaled_error, mul-le-mul_right (S * E) hi)

  excess_error : (excess q s a + excess q s a ≤ (scaled q s a - a) + (scaled q s a - a) + S * E) × ((scaled q s a - a) + (scaled q s a - a) ≤ excess q s a + excess q s a + S * E)
  excess_error = omega (arith, nearest_error (suc q) (zero-lt-suc q) (scaled q s a - a) (s + e) (omega (arith, scaled_most, digits_at_place)), place)

  excess_dvd : 2 ^ (s + e) ∣ excess q s a
  excess_dvd = nearest_multiple (suc q) (zero-lt-suc q) (scaled q s a - a) (s + e) (omega (arith, scaled_least, digits_at_place))

  excess_le : excess q s a ≤ scaled q s a
  excess_le = omega (arith, excess_error, scaled_least, one_place)

  high_near : distance a (high q s a) + distance a (high q s a) ≤ S * E
  high_near = omega (arith, excess_error, scaled_least, excess_le)

  high_place : 2 ^ (s + e) ∣ high q s a
  high_place = dvd-sub (2 ^ (s + e)) scaled_dvd excess_dvd

  -- above (Q + Q) * E, a multiple itself, the next multiple is too far from a
  high_most : high q s a ≤ (Q + Q) * E
  high_most =
      elim (le_or_lt (high q s a) ((Q + Q) * E)) [
        | inl l ↦ l
        | inr l ↦ omega (arith, high_near, mul-le-mul_right E hi, place, pow_pos e, le_of_dvd (some l) (dvd-sub (2 ^ (s + e)) high_place (subst (λ (x : ℕ). 2 ^ (s + e) ∣ x) (pow_digits q e) (pow_dvd (s + e) (suc q + e) (2 ^ (suc q + e)) (within sq) (dvd_refl (2 ^ (suc q + e)))))))
      ]
    where
      some : {x y : ℕ} → x < y → 0 < y - x
      some h = omega arith

      within : s ≤ q → s + e ≤ suc q + e
      within h = omega arith

  split_full : Split q s e a (high q s a)
  split_full = record { least = mul-le-mul_right E lo; most = mul-le-mul_right E (le_of_lt hi); dvd = dvd-mul_left E m; h_most = high_most; h_dvd = high_place; near = high_near }

  scaled_ge : a ≤ scaled q s a
  scaled_ge = omega (arith, scaled_least)

-- ---- any number: a power of two goes through every step, so it may be scaled up until it has q + 1 digits
abbrev up : ℕ → ℕ → ℕ
up q A = A * 2 ^ suc q

module _ (q : ℕ) where
  -- A scaled up, as its q + 1 digits from the place `size A` up
  record Full (A : ℕ) : Type 0 where
    pub m : ℕ
    pub is : m * 2 ^ size A ≡ up q A
    pub lo : 2 ^ q ≤ m
    pub hi : m < 2 ^ q + 2 ^ q

  full : (A : ℕ) → 0 < A → Representable (suc q) A → Full A
  full A h R =
      let E = 2 ^ size A in
      let d : E ∣ up q A = pow_dvd (size A) (R.exp + suc q) (up q A) (le_trans (size-le A (suc q + R.exp) R.fit) (le_of_eq (add_comm (suc q) R.exp))) (dvd_product R.exp (suc q) A (2 ^ suc q) R.dvd (dvd_refl (2 ^ suc q))) in
      let w : up q A / E * E ≡ up q A = div-mul_cancel E d in
      record {
        m = up q A / E;
        is = w;
        lo = le_of_mul-le-mul_right (le_trans (from (2 ^ q) E A (2 ^ suc q) (two-pow-succ q) (half_le A h)) (le_of_eq (sym w))) (pow_pos (size A));
        hi = lt_of_mul-lt-mul_right E (lt_of_le_of_lt (le_of_eq w) (to (2 ^ q) E A (2 ^ suc q) (two-pow-succ q) (pow_pos q) (size-lt A)));
      }
    where
      from : (Q E A P : ℕ) → P ≡ Q + Q → E ≤ A + A → Q * E ≤ A * P
      from Q E A P t h = omega (arith, mul-le-mul_right Q h, ap (λ (x : ℕ). A * x) t)

      to : (Q E A P : ℕ) → P ≡ Q + Q → 0 < Q → A < E → A * P < (Q + Q) * E
      to Q E A P t z h = omega (arith, mul-le-mul_right (Q + Q) h, ap (λ (x : ℕ). A * x) t)

module _ (q s : ℕ) where
  scaled_up : (A : ℕ) → scaled q s (up q A) ≡ up q (scaled q s A)
  scaled_up A = ap (nearest_units (suc q) 0) (sym (mul_assoc (2 ^ s + 1) A (2 ^ suc q))) ∙ nearest_shift (suc q) (zero-lt-suc q) ((2 ^ s + 1) * A) (suc q)

  excess_up : (A : ℕ) → excess q s (up q A) ≡ up q (excess q s A)
  excess_up A = ap (λ (x : ℕ). nearest_units (suc q) 0 (x - up q A)) (scaled_up A) ∙ ap (nearest_units (suc q) 0) (sym (sub_mul (scaled q s A) A (2 ^ suc q))) ∙ nearest_shift (suc q) (zero-lt-suc q) (scaled q s A - A) (suc q)

  high_up : (A : ℕ) → high q s (up q A) ≡ up q (high q s A)
  high_up A = ap (λ (x : ℕ). x - excess q s (up q A)) (scaled_up A) ∙ ap (λ (x : ℕ). up q (scaled q s A) - x) (excess_up A) ∙ sym (sub_mul (scaled q s A) (excess q s A) (2 ^ suc q))

  -- what divides A divides every step's result
  pub high_dvd : (A i : ℕ) → 2 ^ i ∣ A → 2 ^ i ∣ high q s A
  high_dvd A i d =
      let g = nearest_dvd (suc q) (zero-lt-suc q) ((2 ^ s + 1) * A) i (dvd-mul_left_of_dvd (2 ^ i) d (2 ^ s + 1)) in
      dvd-sub (2 ^ i) g (nearest_dvd (suc q) (zero-lt-suc q) (scaled q s A - A) i (dvd-sub (2 ^ i) g d))

  pub scaled_cap : (A x : ℕ) → A ≤ 2 ^ x → scaled q s A ≤ 2 ^ (suc s + x)
  scaled_cap A x h = nearest_le (suc q) (zero-lt-suc q) 0 ((2 ^ s + 1) * A) (2 ^ (suc s + x)) (representable_pow (suc q) (zero-lt-suc q) (suc s + x)) (le_trans (product_cap s A x h) (le_of_eq (sym (mul-one (2 ^ (suc s + x))))))

  -- of 0 every step's result is 0
  pub scaled_zero : scaled q s 0 ≡ 0
  scaled_zero = nearest_same (suc q) (zero-lt-suc q) 0 ((2 ^ s + 1) * 0) 0 (representable-zero (suc q)) (mul-zero (2 ^ s + 1))

  pub excess_zero : excess q s 0 ≡ 0
  excess_zero = ap (λ (x : ℕ). nearest_units (suc q) 0 (x - 0)) scaled_zero ∙ nearest_same (suc q) (zero-lt-suc q) 0 0 0 (representable-zero (suc q)) (mul-one 0)

  pub high_zero : high q s 0 ≡ 0
  high_zero = omega (arith, scaled_zero)

module _ (q s : ℕ) (sq : s ≤ q) where
  pub split : (A : ℕ) → 0 < A → Representable (suc q) A → Split q s (size A) (A * 2 ^ suc q) (high q s A * 2 ^ suc q)
  split A h R =
      let F = full q A h R in
      subst (λ (x : ℕ). Split q s (size A) (up q A) x) (high_up q s A) (subst (λ (x : ℕ). Split q s (size A) x (high q s x)) F.is (split_full q s (size A) sq F.m F.lo F.hi))

  module _ (one<s : 1 < s) where
    halves_zero : Halves q s 0
    halves_zero = record {
      a_le = zero-le;
      b_le = le_of_eq (excess_zero q s ∙ sym (scaled_zero q s));
      high_digits = subst (λ (x : ℕ). Representable (suc q - s) x) (sym (high_zero q s)) (representable-zero (suc q - s));
      low_digits = subst (λ (x : ℕ). Representable (s - 1) (distance 0 x)) (sym (high_zero q s)) (representable-zero (s - 1));
      high_le = omega (arith, high_zero q s);
    }

    halves_some : (A : ℕ) → 0 < A → Representable (suc q) A → Halves q s A
    halves_some A h R =
        let e = size A in
        let F = full q A h R in
        let H = high q s A in
        let Z = split A h R in
        record {
          a_le = le_of_mul-le-mul_right (le_trans (subst (λ (x : ℕ). x ≤ scaled q s x) F.is (scaled_ge q s e sq F.m F.lo F.hi)) (le_of_eq (scaled_up q s A))) (pow_pos (suc q));
          b_le = le_of_mul-le-mul_right (le_trans (le_of_eq (sym (excess_up q s A))) (le_trans (subst (λ (x : ℕ). excess q s x ≤ scaled q s x) F.is (excess_le q s e sq F.m F.lo F.hi)) (le_of_eq (scaled_up q s A)))) (pow_pos (suc q));
          high_digits =
              representable_down (suc q - s) H (suc q)
              (representable_of (suc q - s) (some q s sq) (up q H) (s + e) Z.h_dvd (le_trans Z.h_most (le_of_eq (sym (pow_digits q e) ∙ ap (λ (x : ℕ). 2 ^ x) (rest q s e sq)))));
          low_digits =
              representable_down (s - 1) (distance A H) (suc q)
              (subst (λ (x : ℕ). Representable (s - 1) x) (distance_mul A H (2 ^ suc q))
              (representable_of (s - 1) (less s one<s) (distance (up q A) (up q H)) e (distance_dvd (2 ^ e) (up q A) (up q H) Z.dvd (pow_dvd e (s + e) (up q H) (above s e) Z.h_dvd))
              (half (distance (up q A) (up q H)) (2 ^ s * 2 ^ e) (2 ^ (s - 1 + e)) Z.near (sym (pow-add 2 s e) ∙ ap (λ (x : ℕ). 2 ^ x) (before s e one<s) ∙ two-pow-succ (s - 1 + e)))));
          high_le = bound H A (le_of_mul-le-mul_right (le_trans (le_of_eq (twice (distance A H) (2 ^ suc q) (distance (up q A) (up q H)) (distance_mul A H (2 ^ suc q)))) (le_trans Z.near (le_trans (mul-le-mul_right (2 ^ e) (pow_mono sq)) Z.least))) (pow_pos (suc q)));
        }
      where
        some : (q s : ℕ) → s ≤ q → 0 < suc q - s
        some q s h = omega arith

        rest : (q s e : ℕ) → s ≤ q → suc q + e ≡ suc q - s + (s + e)
        rest q s e h = omega arith

        less : (s : ℕ) → 1 < s → 0 < s - 1
        less s h = omega arith

        above : (s e : ℕ) → e ≤ s + e
        above s e = omega arith

        before : (s e : ℕ) → 1 < s → s + e ≡ suc (s - 1 + e)
        before s e h = omega arith

        half : (d k j : ℕ) → d + d ≤ k → k ≡ j + j → d ≤ j
        half d k j h e = omega arith

        twice : (d U D : ℕ) → D ≡ d * U → (d + d) * U ≡ D + D
        twice d U D h = omega (arith, add-mul d d U)

        bound : (H A : ℕ) → distance A H + distance A H ≤ A → H + H ≤ A + A + A
        bound H A h = omega arith

    pub halves : (A : ℕ) → Representable (suc q) A → Halves q s A
    halves A R = elim (eq-zero-or-pos A) [ inl z ↦ subst (Halves q s) (sym z) halves_zero | inr h ↦ halves_some A h R ]
