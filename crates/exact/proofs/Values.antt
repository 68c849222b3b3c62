-- Every finite double that fits binary64 is a whole number of units of 2 ^ -1074, of 53 digits and below 2 ^ 2098; negation of doubles negates it. Assumes nothing.
use mathlib.Core.Path.{◌≡◌, refl, sym, ap, ◌∙◌, subst}
use mathlib.Core.Logic.{inl, inr}
use mathlib.Core.Bool.{Bool, true, false, ◌&&◌}
use Prim.Native.Nat.{ℕ, zero, suc, ◌+◌, ◌-◌, ◌*◌, ◌/◌, ◌%◌, ◌^◌, ◌≤◌, ◌<◌}
use native.Mathlib.Nat.{lt_of_lt_of_le, lt_of_le_of_lt, lt_of_mul-lt-mul_right, le_of_eq, not-le_of_lt}
use native.Mathlib.Nat.{mul_assoc, mul_comm, mul-one, mul_right_comm, mul-div_cancel, mul-lt-mul_of_pos_right, zero-mul, dvd-mul_left}
use native.Mathlib.Omega.{arith}
use lib.IntN.{ℤ, pos, negsuc, neg_ℤ, nat_abs, ◌*ℤ◌}
use lib.Dec.{T, leb, ltb, eqb, ltb→lt, leb→le}
use lib.Pow.{pow-add, pow_pos, pow-lt, shl_lt}
use lib.Ieee.{Float, nan, inf, fin, binary64, up, down, neg, fits}
use lib.Ieee.Fits.{down_pos, and_l, and_r}
use lib.Ieee.Exact.{HasValue}
use lib.Ieee.Scale.{finite, overflow}
use Rattle.exact.specs.Value.{sign, magnitude, signed, exact, exact_at}
use Rattle.exact.proofs.Naturals.{le_or_lt}
use Rattle.exact.specs.Representable.{Representable}
use Rattle.exact.proofs.Representable.{representable-zero}
use Rattle.exact.proofs.Ring.{neg-*l}
use Rattle.exact.proofs.Signed.{signed_neg, signed_abs, signed_scale}

-- ---- a value is known by its sign and its number of units
pub value_of : (x : Float) (s : Bool) (n : ℕ) → HasValue x s n (2 ^ 1074) → T (finite x) × (sign x ≡ s) × (magnitude x ≡ n)
unfolding magnitude
value_of nan s n h = absurd h
value_of (inf t) s n h = absurd h
value_of (fin t m e) s n h = (tt, h.0, ap (λ (x : ℕ). x / down e) h.1 ∙ mul-div_cancel n (down_pos e))

pub exact_is : (x : Float) → exact x ≡ signed (sign x) (magnitude x)
unfolding exact
exact_is x = refl

-- without its sign it is the magnitude
pub exact_abs : (x : Float) → nat_abs (exact x) ≡ magnitude x
exact_abs x = ap nat_abs (exact_is x) ∙ signed_abs (sign x) (magnitude x)

pub exact_of : (x : Float) (s : Bool) (n : ℕ) → HasValue x s n (2 ^ 1074) → T (finite x) × (exact x ≡ signed s n)
exact_of x s n h =
    let v = value_of x s n h in
    (v.0, exact_is x ∙ ap (λ (t : Bool). signed t (magnitude x)) v.1 ∙ ap (signed s) v.2)

-- ---- a double that fits is a whole number of units
pub record Whole (x : Float) : Type 0 where
  pub representable : Representable 53 (magnitude x)
  pub has : HasValue x (sign x) (magnitude x) (2 ^ 1074)
  pub small : magnitude x < overflow binary64

-- m * 2 ^ e in units, where 2 ^ e is one unit at least
in-units : (l m : ℕ) (e : ℤ) → down e ≤ 2 ^ l → (j : ℕ) × (m * up e * 2 ^ l ≡ m * 2 ^ j * down e)
in-units l m (pos k) h = (k + l, mul_assoc m (2 ^ k) (2 ^ l) ∙ ap (λ (x : ℕ). m * x) (sym (pow-add 2 k l)) ∙ sym (mul-one (m * 2 ^ (k + l))))
in-units l m (negsuc k) h = (
  l - suc k,
  ap (λ (x : ℕ). x * 2 ^ l) (mul-one m)
      ∙ ap (λ (x : ℕ). m * x) (ap (λ (x : ℕ). 2 ^ x) (sym (back l (suc k) under)) ∙ pow-add 2 (l - suc k) (suc k))
      ∙ sym (mul_assoc m (2 ^ (l - suc k)) (2 ^ suc k)),
)
  where
    back : (a b : ℕ) → b ≤ a → a - b + b ≡ a
    back a b h = omega arith

    under : suc k ≤ l
    under = elim (le_or_lt (suc k) l) [ inl i ↦ i | inr i ↦ absurd (not-le_of_lt (pow-lt i) h) ]

whole_of : (s : Bool) (m : ℕ) (e : ℤ) (n : ℕ) → m * up e * 2 ^ 1074 ≡ n * down e → Representable 53 n → n < overflow binary64 → Whole (fin s m e)
whole_of s m e n h r b =
    let q = sym (value_of (fin s m e) s n (refl, h)).2 in
    record {
      representable = subst (λ (x : ℕ). Representable 53 x) q r;
      has = (refl, h ∙ ap (λ (x : ℕ). x * down e) q);
      small = subst (λ (x : ℕ). x < overflow binary64) q b;
    }

pub whole : (x : Float) → T (finite x) → T (fits binary64 x) → Whole x
unfolding fits
whole nan t h = absurd t
whole (inf s) t h = absurd t
whole (fin s zero e) t h = whole_of s zero e zero (ap (λ (x : ℕ). x * 2 ^ 1074) (zero-mul (up e)) ∙ zero-mul (2 ^ 1074) ∙ sym (zero-mul (down e))) (representable-zero 53) (pow_pos 2098)
whole (fin s (suc m) e) t h =
    let a : Bool = eqb (suc m % 2) 1 in
    let b : Bool = ltb (suc m) (2 ^ 53) in
    let c : Bool = leb (down e) (2 ^ 1074) in
    let d : Bool = ltb (suc m * up e) (2 ^ 1024 * down e) in
    let h3 : T (a && b && c) = and_l (a && b && c) d h in
    let j = in-units 1074 (suc m) e (leb→le (down e) (2 ^ 1074) (and_r (a && b) c h3)) in
    whole_of s (suc m) e (suc m * 2 ^ j.0) j.1
    record { exp = j.0; dvd = dvd-mul_left (2 ^ j.0) (suc m); fit = shl_lt 53 j.0 (ltb→lt (suc m) (2 ^ 53) (and_r a b (and_l (a && b) c h3))) }
    (under (2 ^ 1074) (2 ^ 1024) (suc m * 2 ^ j.0) (suc m * up e) (down e) (pow_pos 1074) j.1 (ltb→lt (suc m * up e) (2 ^ 1024 * down e) (and_r (a && b && c) d h)))
  where
    under : (unit top n v d : ℕ) → 0 < unit → v * unit ≡ n * d → v < top * d → n < top * unit
    under unit top n v d U i k = lt_of_mul-lt-mul_right d (lt_of_lt_of_le (lt_of_le_of_lt (le_of_eq (sym i)) (mul-lt-mul_of_pos_right k U)) (le_of_eq (mul_right_comm top d unit)))

-- ---- negation
pub neg-neg : (x : Float) → neg (neg x) ≡ x
unfolding neg
neg-neg nan = refl
neg-neg (inf true) = refl
neg-neg (inf false) = refl
neg-neg (fin true m e) = refl
neg-neg (fin false m e) = refl

pub finite-neg : (x : Float) → finite (neg x) ≡ finite x
unfolding neg
finite-neg nan = refl
finite-neg (inf s) = refl
finite-neg (fin s m e) = refl

pub magnitude-neg : (x : Float) → magnitude (neg x) ≡ magnitude x
unfolding magnitude neg
magnitude-neg nan = refl
magnitude-neg (inf s) = refl
magnitude-neg (fin s m e) = refl

pub exact-neg : (x : Float) → exact (neg x) ≡ neg_ℤ (exact x)
unfolding exact neg magnitude
exact-neg nan = refl
exact-neg (inf true) = refl
exact-neg (inf false) = refl
exact-neg (fin s m e) = sym (signed_neg s (magnitude (fin s m e)))

-- ---- in smaller units
pub exact_at_is : (l : ℕ) (x : Float) → exact_at l x ≡ signed (sign x) (magnitude x * 2 ^ l)
exact_at_is l x = ap (λ (z : ℤ). z *ℤ pos (2 ^ l)) (exact_is x) ∙ signed_scale (sign x) (magnitude x) (2 ^ l)

pub exact_at-neg : (l : ℕ) (x : Float) → exact_at l (neg x) ≡ neg_ℤ (exact_at l x)
exact_at-neg l x = ap (λ (z : ℤ). z *ℤ pos (2 ^ l)) (exact-neg x) ∙ neg-*l (exact x) (pos (2 ^ l))

-- ---- the numerators of two doubles over their common denominator, in units: what `lib.Ieee` compares and adds
pub common : (s : Bool) (m : ℕ) (e : ℤ) (t : Bool) (n : ℕ) (d : ℤ) → Whole (fin s m e) → Whole (fin t n d)
    → (m * up e * down d * 2 ^ 1074 ≡ magnitude (fin s m e) * (down e * down d)) × (n * up d * down e * 2 ^ 1074 ≡ magnitude (fin t n d) * (down e * down d))
common s m e t n d u v =
    (over (2 ^ 1074) (m * up e) (down e) (down d) _ u.has.1, over (2 ^ 1074) (n * up d) (down d) (down e) _ v.has.1 ∙ ap (λ (x : ℕ). magnitude (fin t n d) * x) (mul_comm (down d) (down e)))
  where
    over : (unit v d e a : ℕ) → v * unit ≡ a * d → v * e * unit ≡ a * (d * e)
    over unit v d e a h = mul_right_comm v e unit ∙ ap (λ (x : ℕ). x * e) h ∙ mul_assoc a d e
