-- Rounding to nearest: no representable number is nearer, a representable number stays, and order is kept. Assumes nothing.
use mathlib.Core.Path.{◌≡◌, refl, sym, ap, ◌∙◌, subst}
use mathlib.Core.Logic.{◌⊎◌, inl, inr}
use mathlib.Core.Bool.{Bool, true, false, not}
use Prim.Native.Nat.{ℕ, zero, suc, ◌+◌, ◌-◌, ◌*◌, ◌/◌, ◌%◌, ◌^◌, ◌≤◌, ◌<◌, compare, Ordering}
use native.Mathlib.Nat.{le_trans, le_of_eq, le_of_lt, le_antisymm, mul_assoc, mul_comm, mul-one, mul-pos, mod-lt, mod-one, div-add-mod', div-one, div-mul-le_self, div-div-eq-div-mul, mul-le-mul_right, le_of_mul-le-mul_right, mul-div_cancel, le-div_iff_mul-le, dvd-mul_left, div-mul_cancel, zero-mul}
use native.Mathlib.Omega.{arith}
use lib.IntN.{ℤ, pos, neg_ℤ, nat_abs, ◌*ℤ◌}
use lib.Dec.{T, is_le, compare_is_eq, leb→le, nleb→lt, eqb→eq, lit<}
use lib.Pow.{pow-add, pow_pos, pow_mono}
use lib.Ieee.{size, nearest}
use lib.Ieee.Digits.{size_reaches}
use lib.Ieee.Fits.{kept-lt}
use lib.Ieee.Fits.{nearest-le as one_up}
use lib.Ieee.Nearest.{closest, closest_mono, closest_same}
use lib.Ieee.Nearest.{nearest-ge as no_less}
use Rattle.exact.specs.Value.{signed}
use Rattle.exact.specs.Integers.{◌≼◌}
use Rattle.exact.specs.Nearest.{nearest_units, to_nearest}
use Rattle.exact.proofs.Naturals.{le_or_lt, pow_dvd}
use Rattle.exact.specs.Representable.{Representable}
use Rattle.exact.proofs.Representable.{representable-zero, representable_of}
use Rattle.exact.proofs.Signed.{SignedLe, signed_neg, signed_abs, signed_≼, signed_scale, by_sign}

-- ---- n / u to the nearest whole number: the quotient, or the next number up
abbrev Which : ℕ → ℕ → ℕ → ℕ → Type 0
Which c q x u = ((c ≡ q) × (x ≤ u)) ⊎ ((c ≡ suc q) × (u ≤ x))

which : (n u : ℕ) → Which (closest n u) (n / u) (n % u * 2) u
which n u = go (compare (n % u * 2) u) (leb→le (n % u * 2) u) (nleb→lt (n % u * 2) u) (eqb→eq (n % u * 2) u)
  where
    tie : (q x : ℕ) → x ≡ u → Which (q + q % 2) q x u
    tie q x e = elim (le_or_lt (q % 2) 0) [ inl h ↦ inl (omega arith, omega arith) | inr h ↦ inr (omega arith, omega arith) ]

    go : (o : Ordering) → (T (is_le o) → n % u * 2 ≤ u) → (T (not (is_le o)) → u < n % u * 2) → (T (compare_is_eq o) → n % u * 2 ≡ u) → Which (nearest (n / u) o) (n / u) (n % u * 2) u
    go Ordering.lt h k e = inl (refl, h tt)
    go Ordering.eq h k e = tie (n / u) (n % u * 2) (e tt)
    go Ordering.gt h k e = inr (refl, le_of_lt (k tt))

times : (u c d : ℕ) → c ≡ d → c * u ≡ d * u
times u c d e = ap (λ (x : ℕ). x * u) e

-- it is no further from n than the multiple of u below
pub closest_lo : (n u : ℕ) → closest n u * u + n / u * u ≤ n + n
closest_lo n u = elim (which n u) [ inl h ↦ omega (arith, div-add-mod' n u, times u _ _ h.0) | inr h ↦ omega (arith, div-add-mod' n u, times u _ _ h.0) ]

-- nor than any multiple above
pub closest_hi : (n u r : ℕ) → 0 < u → n ≤ r * u → n + n ≤ closest n u * u + r * u
closest_hi n u r U l =
    let s = div-add-mod' n u in
    let b = mod-lt n U in
    elim (which n u) [
      | inl h ↦
          let m = times u (closest n u) (n / u) h.0 in
          elim (le_or_lt r (n / u)) [ inl k ↦ omega (arith, mul-le-mul_right u k) | inr k ↦ omega (arith, mul-le-mul_right u k) ]
      | inr h ↦ omega (arith, times u _ _ h.0)
    ]

-- and it is within half of u
pub closest_half : (n u : ℕ) → 0 < u → (closest n u * u + closest n u * u ≤ n + n + u) × (n + n ≤ closest n u * u + closest n u * u + u)
closest_half n u U =
    let s = div-add-mod' n u in
    let b = mod-lt n U in
    elim (which n u) [ inl h ↦ omega (arith, times u _ _ h.0) | inr h ↦ omega (arith, times u _ _ h.0) ]

-- and it does not pass a whole number
closest_le : (n u r : ℕ) → 0 < u → n ≤ r * u → closest n u ≤ r
closest_le n u r U h = le_trans (closest_mono n u r 1 U (pow_pos 0) (le_trans (le_of_eq (mul-one n)) h)) (le_of_eq whole_stays)
  where
    whole_stays : closest r 1 ≡ r
    whole_stays = ap (λ (x : ℕ). nearest x (compare (r % 1 * 2) 1)) (div-one r) ∙ ap (λ (x : ℕ). nearest r (compare (x * 2) 1)) (mod-one r)

-- ---- the laws. The whole part of n / 2 ^ l has `extra` digits beyond p; the result is a multiple of 2 ^ extra units, which is `step` of n's.
module _ (p : ℕ) (P : 0 < p) (l n : ℕ) where
  abbrev part : ℕ
  part = n / 2 ^ l

  abbrev extra : ℕ
  extra = size (n / 2 ^ l) - p

  abbrev step : ℕ
  step = 2 ^ l * 2 ^ (size (n / 2 ^ l) - p)

  step_pos : 0 < step
  step_pos = mul-pos (pow_pos l) (pow_pos extra)

  in-steps : (c : ℕ) → c * 2 ^ extra * 2 ^ l ≡ c * step
  in-steps c = mul_assoc c (2 ^ extra) (2 ^ l) ∙ ap (λ (x : ℕ). c * x) (mul_comm (2 ^ extra) (2 ^ l))

  -- a representable number of too small an exponent is less than every number that has extra digits
  high : (e : ℕ) → e < extra → 2 ^ (p + e) ≤ part / 2 ^ extra * 2 ^ extra
  high e h =
      le_trans (pow_mono (room p e extra P h))
      (le_trans (le_of_eq (pow-add 2 (p - 1) extra))
      (mul-le-mul_right (2 ^ extra) ((le-div_iff_mul-le (pow_pos extra)).1 (le_trans (le_of_eq (sym (pow-add 2 (p - 1) extra))) (size_reaches part (p - 1 + extra) (in_use (size part) p e P h))))))
    where
      room : (p e k : ℕ) → 0 < p → e < k → p + e ≤ p - 1 + k
      room p e k P h = omega arith

      in_use : (z p e : ℕ) → 0 < p → e < z - p → p - 1 + (z - p) < z
      in_use z p e P h = omega arith

  module _ (r : ℕ) (R : Representable p r) where
    -- from below: it is no more than the multiple below n
    under : r * 2 ^ l ≤ n → r ≤ n / step * 2 ^ extra
    under h = subst (λ (x : ℕ). r ≤ x * 2 ^ extra) (div-div-eq-div-mul n (2 ^ l) (2 ^ extra)) (go ((le-div_iff_mul-le (pow_pos l)).1 h))
      where
        go : r ≤ part → r ≤ part / 2 ^ extra * 2 ^ extra
        go k =
            elim (le_or_lt extra R.exp) [
              | inl i ↦
                  let e = div-mul_cancel (2 ^ extra) (pow_dvd extra R.exp r i R.dvd) in
                  le_trans (le_of_eq (sym e)) (mul-le-mul_right (2 ^ extra) ((le-div_iff_mul-le (pow_pos extra)).1 (le_trans (le_of_eq e) k)))
              | inr i ↦ le_trans (le_of_lt R.fit) (high R.exp i)
            ]

    -- from above: it is a multiple itself
    over : n ≤ r * 2 ^ l → r / 2 ^ extra * 2 ^ extra ≡ r
    over h =
        div-mul_cancel (2 ^ extra)
        (elim (le_or_lt extra R.exp) [
          | inl i ↦ pow_dvd extra R.exp r i R.dvd
          | inr i ↦ absurd (clash (2 ^ (p + R.exp)) (part / 2 ^ extra * 2 ^ extra) part r (high R.exp i) (div-mul-le_self part (2 ^ extra)) (le_of_mul-le-mul_right (le_trans (div-mul-le_self n (2 ^ l)) h) (pow_pos l)) R.fit)
        ])
      where
        clash : (a b c d : ℕ) → a ≤ b → b ≤ c → c ≤ d → d < a → ⊥
        clash a b c d h i j k = omega arith

    over_steps : n ≤ r * 2 ^ l → r * 2 ^ l ≡ r / 2 ^ extra * step
    over_steps h = ap (λ (x : ℕ). x * 2 ^ l) (sym (over h)) ∙ in-steps (r / 2 ^ extra)

    pub nearest_ge : r * 2 ^ l ≤ n → r ≤ nearest_units p l n
    unfolding nearest_units
    nearest_ge h = le_trans (under h) (mul-le-mul_right (2 ^ extra) (no_less (n / step) (compare (n % step * 2) step)))

    pub nearest_lo : r * 2 ^ l ≤ n → nearest_units p l n * 2 ^ l + r * 2 ^ l ≤ n + n
    unfolding nearest_units
    nearest_lo h = omega (arith, closest_lo n step, in-steps (closest n step), in-steps (n / step), mul-le-mul_right (2 ^ l) (under h))

    pub nearest_le : n ≤ r * 2 ^ l → nearest_units p l n ≤ r
    unfolding nearest_units
    nearest_le h = le_trans (mul-le-mul_right (2 ^ extra) (closest_le n step (r / 2 ^ extra) step_pos (le_trans h (le_of_eq (over_steps h))))) (le_of_eq (over h))

    pub nearest_hi : n ≤ r * 2 ^ l → n + n ≤ nearest_units p l n * 2 ^ l + r * 2 ^ l
    unfolding nearest_units
    nearest_hi h = omega (arith, closest_hi n step (r / 2 ^ extra) step_pos (le_trans h (le_of_eq (over_steps h))), in-steps (closest n step), over_steps h)

    pub nearest_same : n ≡ r * 2 ^ l → nearest_units p l n ≡ r
    nearest_same e = le_antisymm (nearest_le (le_of_eq e)) (nearest_ge (le_of_eq (sym e)))

  pub nearest_representable : Representable p (nearest_units p l n)
  unfolding nearest_units
  nearest_representable =
      representable_of p P (closest n step * 2 ^ extra) extra (dvd-mul_left (2 ^ extra) (closest n step))
      (le_trans (mul-le-mul_right (2 ^ extra) (le_trans (one_up (n / step) (compare (n % step * 2) step)) (subst (λ (x : ℕ). x < 2 ^ p) (div-div-eq-div-mul n (2 ^ l) (2 ^ extra)) (kept-lt p part))))
      (le_of_eq (sym (pow-add 2 p extra))))

-- what is a whole number of units already needs no smaller ones
pub nearest_whole : (p l n : ℕ) → nearest_units p l (n * 2 ^ l) ≡ nearest_units p 0 n
unfolding nearest_units
nearest_whole p l n =
    let k = size (n / 2 ^ 0) - p in
    ap (λ (x : ℕ). closest (n * 2 ^ l) (2 ^ l * 2 ^ (size x - p)) * 2 ^ (size x - p)) (mul-div_cancel n (pow_pos l) ∙ sym (div-one n))
    ∙ ap (λ (x : ℕ). x * 2 ^ k) (closest_same (n * 2 ^ l) (2 ^ l * 2 ^ k) n (2 ^ 0 * 2 ^ k) (mul-pos (pow_pos l) (pow_pos k)) (mul-pos (pow_pos 0) (pow_pos k)) (even n (2 ^ l) (2 ^ k)))
  where
    even : (n a b : ℕ) → n * a * (2 ^ 0 * b) ≡ n * (a * b)
    even n a b = omega arith

-- a and b being the results: where b < m ≤ n ≤ a, n's choice of b says n is not past the middle of the two, and m's choice of a that m is not before it, so m is n
pub nearest_mono : (p : ℕ) → 0 < p → (l m n : ℕ) → m ≤ n → nearest_units p l m ≤ nearest_units p l n
nearest_mono p P l m n h =
    let a = nearest_units p l m in
    let b = nearest_units p l n in
    let A : Representable p a = nearest_representable p P l m in
    let B : Representable p b = nearest_representable p P l n in
    elim (le_or_lt n (a * 2 ^ l)) [
      | inl up ↦
          elim (le_or_lt m (b * 2 ^ l)) [
            | inl i ↦ nearest_le p P l m b B i
            | inr i ↦ le_of_eq (ap (nearest_units p l) (meet m n (a * 2 ^ l) (b * 2 ^ l) h (nearest_lo p P l m b B (le_of_lt i)) (nearest_hi p P l n a A up)))
          ]
      | inr down ↦ nearest_ge p P l n a A (le_of_lt down)
    ]
  where
    meet : (m n a b : ℕ) → m ≤ n → a + b ≤ m + m → n + n ≤ b + a → m ≡ n
    meet m n a b h i j = omega arith

-- ---- integers
digits : 0 < 53
digits = lit< tt

pub nearest_zero : (l : ℕ) → nearest_units 53 l 0 ≡ 0
nearest_zero l = nearest_same 53 digits l 0 0 (representable-zero 53) (sym (zero-mul (2 ^ l)))

pub to_nearest_signed : (l : ℕ) (s : Bool) (n : ℕ) → to_nearest l (signed s n) ≡ signed s (nearest_units 53 l n)
unfolding to_nearest
to_nearest_signed l false n = refl
to_nearest_signed l true zero = ap pos (nearest_zero l) ∙ sym (ap (signed true) (nearest_zero l))
to_nearest_signed l true (suc n) = refl

pub to_nearest-neg : (l : ℕ) (z : ℤ) → to_nearest l (neg_ℤ z) ≡ neg_ℤ (to_nearest l z)
to_nearest-neg l = by_sign _ λ s n. ap (to_nearest l) (signed_neg s n) ∙ to_nearest_signed l (not s) n ∙ sym (signed_neg s (nearest_units 53 l n)) ∙ ap neg_ℤ (sym (to_nearest_signed l s n))

pub to_nearest_mono : (l : ℕ) (z w : ℤ) → z ≼ w → to_nearest l z ≼ to_nearest l w
to_nearest_mono l = by_sign _ λ s m. by_sign _ λ t n. λ h. rw (to_nearest_signed l s m, to_nearest_signed l t n) ((signed_≼ s (nearest_units 53 l m) t (nearest_units 53 l n)).1 (go s m t n ((signed_≼ s m t n).0 h)))
  where
    go : (s : Bool) (m : ℕ) (t : Bool) (n : ℕ) → SignedLe s m t n → SignedLe s (nearest_units 53 l m) t (nearest_units 53 l n)
    go false m false n h = omega (arith, nearest_mono 53 digits l m n (omega arith))
    go false m true n h = omega (arith, nearest_mono 53 digits l m 0 (omega arith), nearest_mono 53 digits l n 0 (omega arith), nearest_zero l)
    go true m false n h = omega arith
    go true m true n h = omega (arith, nearest_mono 53 digits l n m (omega arith))

-- a double's value stays
pub to_nearest_same : (l : ℕ) (w : ℤ) → Representable 53 (nat_abs w) → to_nearest l (w *ℤ pos (2 ^ l)) ≡ w
to_nearest_same l = by_sign _ λ s n R.
    ap (to_nearest l) (signed_scale s n (2 ^ l)) ∙ to_nearest_signed l s (n * 2 ^ l) ∙ ap (signed s) (nearest_same 53 digits l (n * 2 ^ l) n (rw (signed_abs s n) at R) refl)
