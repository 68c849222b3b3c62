-- Steps of arithmetic on doubles whose exact values are known: rounded once, or kept where the result has 53 digits. Assumes nothing.
use mathlib.Core.Path.{◌≡◌, refl, sym, ap, ◌∙◌, subst}
use Prim.Native.Nat.{ℕ, ◌*◌, ◌^◌, ◌≤◌, ◌<◌}
use native.Mathlib.Nat.{le_trans, le_of_eq, lt_of_le_of_lt, mul-one}
use lib.IntN.{ℤ, pos, nat_abs, ◌+ℤ◌, ◌-ℤ◌, ◌*ℤ◌}
use lib.Dec.{T, lit<}
use lib.Pow.{pow_pos, pow-lt}
use lib.Ieee.{Float, binary64, fits, add, sub, mul}
use lib.Ieee.Fits.{add-fits, sub-fits, mul-fits}
use lib.Ieee.Scale.{finite, overflow}
use Rattle.exact.specs.Value.{magnitude, signed, exact}
use Rattle.exact.specs.Representable.{Representable}
use Rattle.exact.specs.Nearest.{nearest_units, to_nearest, IsNearest}
use Rattle.exact.proofs.Representable.{representable-zero, representable_pow}
use Rattle.exact.proofs.Signed.{by_sign, signed_abs, signed_scale}
use Rattle.exact.proofs.Values.{whole, exact_abs}
use Rattle.exact.proofs.Nearest.{nearest_le, nearest_whole, to_nearest_signed}
use Rattle.exact.proofs.Operations.{exactly, by_one, add_nearest, sub_nearest, mul_nearest}
use Rattle.error_free.proofs.Knuth.{Exactly}

-- half of the overflow threshold: what is at most this rounds to a finite double
abbrev pub top : ℕ
top = 2 ^ 2097

-- x is a finite double of exact value z
pub record HasExact (z : ℤ) (x : Float) : Type 0 where
  pub is_finite : T (finite x)
  pub fit : T (fits binary64 x)
  pub value : exact x ≡ z

pub known : (x : Float) → T (finite x) → T (fits binary64 x) → HasExact (exact x) x
known x f h = record { is_finite = f; fit = h; value = refl }

pub as_value : {z w : ℤ} {x : Float} → z ≡ w → HasExact z x → HasExact w x
as_value e v = record { is_finite = v.is_finite; fit = v.fit; value = v.value ∙ e }

-- a double has 53 digits
pub known_exactly : (k : ℕ) (x : Float) → T (finite x) → T (fits binary64 x) → magnitude x ≤ k → Exactly k (exact x)
known_exactly k x f h c = record {
  digits = subst (λ (n : ℕ). Representable 53 n) (sym (exact_abs x)) (whole x f h).representable;
  cap = le_trans (le_of_eq (exact_abs x)) c;
}

below_overflow : top < overflow binary64
below_overflow = pow-lt {i = 2097} {j = 2098} (lit< tt)

-- z is some double's value
pub record IsDouble (z : ℤ) : Type 0 where
  pub digits : Representable 53 (nat_abs z)
  pub small : nat_abs z < overflow binary64

pub is_double : {z : ℤ} → Exactly top z → IsDouble z
is_double E = record { digits = E.digits; small = lt_of_le_of_lt E.cap below_overflow }

pub known_double : {z : ℤ} {x : Float} → HasExact z x → IsDouble z
known_double {z} {x} v =
    let w = whole x v.is_finite v.fit in
    let e : magnitude x ≡ nat_abs z = sym (exact_abs x) ∙ ap nat_abs v.value in
    record { digits = subst (λ (n : ℕ). Representable 53 n) e w.representable; small = subst (λ (n : ℕ). n < overflow binary64) e w.small }

pub double_as : {z w : ℤ} → z ≡ w → IsDouble z → IsDouble w
double_as e D = subst IsDouble e D

pub zero_double : IsDouble (pos 0)
zero_double = record { digits = representable-zero 53; small = pow_pos 2098 }

-- ---- what rounding comes to in range
pub in_range : (z : ℤ) → nat_abs z ≤ top → nat_abs (to_nearest 0 z) < overflow binary64
in_range = by_sign _ λ s n h.
    lt_of_le_of_lt
    (le_trans (le_of_eq (ap nat_abs (to_nearest_signed 0 s n) ∙ signed_abs s (nearest_units 53 0 n)))
    (nearest_le 53 (lit< tt) 0 n top (representable_pow 53 (lit< tt) 2097) (le_trans (le_of_eq (sym (signed_abs s n))) (le_trans h (le_of_eq (sym (mul-one top)))))))
    below_overflow

-- a whole number w of units rounds alike in units and in smaller ones
whole_nearest : (l : ℕ) (w : ℤ) → to_nearest l (w *ℤ pos (2 ^ l)) ≡ to_nearest 0 w
whole_nearest l = by_sign _ λ s n. ap (to_nearest l) (signed_scale s n (2 ^ l)) ∙ to_nearest_signed l s (n * 2 ^ l) ∙ ap (signed s) (nearest_whole 53 l n) ∙ sym (to_nearest_signed 0 s n)

module _ (l : ℕ) (z w : ℤ) (d : Float) (N : IsNearest l z d) (e : z ≡ w *ℤ pos (2 ^ l)) (h : T (fits binary64 d)) where
  rounded_step : nat_abs (to_nearest 0 w) < overflow binary64 → HasExact (to_nearest 0 w) d
  rounded_step c =
      let same : to_nearest l z ≡ to_nearest 0 w = ap (to_nearest l) e ∙ whole_nearest l w in
      let v = N.within (subst (λ (x : ℤ). nat_abs x < overflow binary64) (sym same) c) in
      record { is_finite = v.0; fit = h; value = v.1 ∙ same }

  kept_step : IsDouble w → HasExact w d
  kept_step D = let v = exactly l z w d N e D.digits D.small in record { is_finite = v.0; fit = h; value = v.1 }

-- ---- the operations
module _ {a b : ℤ} {x y : Float} (u : HasExact a x) (v : HasExact b y) where
  sum : IsNearest 0 (a +ℤ b) (add binary64 x y)
  sum = rw (sym u.value, sym v.value) (add_nearest x y u.is_finite v.is_finite u.fit v.fit)

  difference : IsNearest 0 (a -ℤ b) (sub binary64 x y)
  difference = rw (sym u.value, sym v.value) (sub_nearest x y u.is_finite v.is_finite u.fit v.fit)

  product : IsNearest 1074 (a *ℤ b) (mul binary64 x y)
  product = rw (sym u.value, sym v.value) (mul_nearest x y u.is_finite v.is_finite u.fit v.fit)

  pub add_rounded : nat_abs (to_nearest 0 (a +ℤ b)) < overflow binary64 → HasExact (to_nearest 0 (a +ℤ b)) (add binary64 x y)
  add_rounded = rounded_step 0 (a +ℤ b) (a +ℤ b) (add binary64 x y) sum (by_one (a +ℤ b)) (add-fits binary64 x y)

  pub sub_rounded : nat_abs (to_nearest 0 (a -ℤ b)) < overflow binary64 → HasExact (to_nearest 0 (a -ℤ b)) (sub binary64 x y)
  sub_rounded = rounded_step 0 (a -ℤ b) (a -ℤ b) (sub binary64 x y) difference (by_one (a -ℤ b)) (sub-fits binary64 x y)

  pub add_kept : IsDouble (a +ℤ b) → HasExact (a +ℤ b) (add binary64 x y)
  add_kept = kept_step 0 (a +ℤ b) (a +ℤ b) (add binary64 x y) sum (by_one (a +ℤ b)) (add-fits binary64 x y)

  pub sub_kept : IsDouble (a -ℤ b) → HasExact (a -ℤ b) (sub binary64 x y)
  sub_kept = kept_step 0 (a -ℤ b) (a -ℤ b) (sub binary64 x y) difference (by_one (a -ℤ b)) (sub-fits binary64 x y)

  -- a product that is a whole number of units
  module _ (w : ℤ) (e : a *ℤ b ≡ w *ℤ pos (2 ^ 1074)) where
    pub mul_rounded : nat_abs (to_nearest 0 w) < overflow binary64 → HasExact (to_nearest 0 w) (mul binary64 x y)
    mul_rounded = rounded_step 1074 (a *ℤ b) w (mul binary64 x y) product e (mul-fits binary64 x y)

    pub mul-kept : IsDouble w → HasExact w (mul binary64 x y)
    mul-kept = kept_step 1074 (a *ℤ b) w (mul binary64 x y) product e (mul-fits binary64 x y)
