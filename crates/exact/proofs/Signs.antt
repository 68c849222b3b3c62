-- A sum or a product of clear signs has a clear sign, a NaN counting as clear, and a sum is −0 only where its operands are. Assumes nothing.
use mathlib.Core.Path.{◌≡◌, refl, sym, ap, ◌∙◌, subst}
use mathlib.Core.Logic.{◌⊎◌, inl, inr}
use mathlib.Core.Bool.{Bool, true, false, not, ◌&&◌, beq, cond, true≢false}
use Prim.Native.Nat.{ℕ, zero, suc, ◌+◌, ◌-◌, ◌*◌, ◌^◌, ◌≤◌}
use native.Mathlib.Nat.{le_of_eq, lt_irrefl, not-le_of_lt, mul-pos, mul-one, one-mul, zero-mul, zero-lt-suc, eq_of_mul-eq-mul_right}
use native.Mathlib.Omega.{arith}
use lib.IntN.{ℤ, pos, negsuc, nat_abs, ◌+ℤ◌}
use lib.Dec.{T, eqb, ltb, eqb→eq, ltb→lt, not_T, lit<}
use lib.Pow.{pow_pos, pow-lt}
use lib.Ieee.{Float, nan, inf, fin, binary64, up, down, odd, units, round, neg, sum, add, sub, mul, of_int, fits}
use lib.Ieee.Fits.{round_is, up_pos, neg-fits}
use lib.Ieee.Bits.{is_false}
use lib.Ieee.Scale.{finite, overflow}
use Rattle.exact.specs.Value.{sign, magnitude, signed, exact}
use Rattle.exact.specs.Nearest.{nearest_units, to_nearest, IsNearest}
use Rattle.exact.specs.Integers.{◌≼◌}
use Rattle.exact.proofs.Naturals.{le_or_lt}
use Rattle.exact.proofs.Difference.{differences}
use Rattle.exact.proofs.Representable.{representable_pow}
use Rattle.exact.proofs.Signed.{by_sign, signed_abs, signed_zero}
use Rattle.exact.proofs.Values.{Whole, whole, exact_is, common}
use Rattle.exact.proofs.Nearest.{nearest_ge, to_nearest_signed}
use Rattle.exact.proofs.Operations.{add_nearest}

-- ---- a rounded fraction has the sign that it is given
odd_sign : (s : Bool) (q k : ℕ) → sign (odd 54 s q k 1074) ≡ s
unfolding odd
odd_sign s zero k = refl
odd_sign s (suc q) k = refl

units_sign : (s : Bool) (q k : ℕ) → sign (units binary64 s q k) ≡ s
unfolding units
units_sign s q k = go (ltb (q * 2 ^ k) (2 ^ 2098))
  where
    go : (b : Bool) → sign (cond b (odd 54 s q k 1074) (inf s)) ≡ s
    go true = odd_sign s q k
    go false = refl

round_sign : (s : Bool) (num den : ℕ) → sign (round binary64 s num den) ≡ s
round_sign s num den = ap sign (round_is binary64 s num den) ∙ units_sign s _ _

-- a sum of like signs has theirs
like_sign : (s : Bool) (a b c : ℕ) → sign (sum binary64 s a s b c) ≡ s
unfolding sum
like_sign true a b c = round_sign true (a + b) c
like_sign false a b c = round_sign false (a + b) c

-- ---- clear signs
pub cond_clear : (q : Bool) (x y : Float) → sign x ≡ false → sign y ≡ false → sign (cond q x y) ≡ false
cond_clear true x y h k = h
cond_clear false x y h k = k

pub add_clear : (a b : Float) → sign a ≡ false → sign b ≡ false → sign (add binary64 a b) ≡ false
unfolding add
add_clear nan b h k = refl
add_clear (inf true) b h k = absurd (true≢false h)
add_clear (inf false) nan h k = refl
add_clear (inf false) (inf true) h k = absurd (true≢false k)
add_clear (inf false) (inf false) h k = refl
add_clear (inf false) (fin t n d) h k = refl
add_clear (fin true m e) b h k = absurd (true≢false h)
add_clear (fin false m e) nan h k = refl
add_clear (fin false m e) (inf t) h k = k
add_clear (fin false m e) (fin true n d) h k = absurd (true≢false k)
add_clear (fin false m e) (fin false n d) h k = like_sign false (m * up e * down d) (n * up d * down e) (down e * down d)

pub mul_clear : (a b : Float) → sign a ≡ false → sign b ≡ false → sign (mul binary64 a b) ≡ false
unfolding mul
mul_clear nan b h k = refl
mul_clear (inf true) b h k = absurd (true≢false h)
mul_clear (inf false) nan h k = refl
mul_clear (inf false) (inf true) h k = absurd (true≢false k)
mul_clear (inf false) (inf false) h k = refl
mul_clear (inf false) (fin true n d) h k = absurd (true≢false k)
mul_clear (inf false) (fin false n d) h k = cond_clear (eqb n 0) nan (inf false) refl refl
mul_clear (fin true m e) b h k = absurd (true≢false h)
mul_clear (fin false m e) nan h k = refl
mul_clear (fin false m e) (inf true) h k = absurd (true≢false k)
mul_clear (fin false m e) (inf false) h k = cond_clear (eqb m 0) nan (inf false) refl refl
mul_clear (fin false m e) (fin true n d) h k = absurd (true≢false k)
mul_clear (fin false m e) (fin false n d) h k = round_sign false (m * up e * (n * up d)) (down e * down d)

pub of_int_clear : (n : ℕ) → sign (of_int binary64 (pos n)) ≡ false
unfolding of_int
of_int_clear n = round_sign false n 1

-- a finite double with a clear sign is not below 0
pub exact_clear : (x : Float) → sign x ≡ false → pos 0 ≼ exact x
exact_clear x h = rw (exact_is x, h) (go (magnitude x))
  where
    go : (n : ℕ) → pos 0 ≼ pos n
    go n = simp differences (omega arith)

-- ---- −0
abbrev pub minus_zero : Float
minus_zero = fin true 0 (pos 0)

-- only 0 rounds to 0
zero_rounded : (z : ℤ) → to_nearest 0 z ≡ pos 0 → z ≡ pos 0
zero_rounded = by_sign _ λ s n e.
    let none : nearest_units 53 0 n ≡ 0 = sym (signed_abs s (nearest_units 53 0 n)) ∙ ap nat_abs (sym (to_nearest_signed 0 s n) ∙ e) in
    elim (le_or_lt 1 n) [
      | inl h ↦ absurd (some (nearest_units 53 0 n) (nearest_ge 53 (lit< tt) 0 n 1 (representable_pow 53 (lit< tt) 0) h) none)
      | inr h ↦ ap (signed s) (least n h) ∙ signed_zero s
    ]
  where
    some : (n : ℕ) → 1 ≤ n → n ≡ 0 → ⊥
    some n h e = omega arith

    least : (n : ℕ) → suc n ≤ 1 → n ≡ 0
    least n h = omega arith

-- the one way to write a zero
zero_exponent : (e : ℤ) → up e * down e ≡ 1 → e ≡ pos 0
zero_exponent (pos zero) h = refl
zero_exponent (pos (suc k)) h = absurd (not-le_of_lt (pow-lt {i = 0} {j = suc k} (omega arith)) (le_of_eq (sym (mul-one (2 ^ suc k)) ∙ h)))
zero_exponent (negsuc k) h = absurd (not-le_of_lt (pow-lt {i = 0} {j = suc k} (omega arith)) (le_of_eq (sym (one-mul (2 ^ suc k)) ∙ h)))

zero_double : (s : Bool) (m : ℕ) (e : ℤ) → T (fits binary64 (fin s m e)) → Whole (fin s m e) → magnitude (fin s m e) ≡ 0 → fin s m e ≡ fin s 0 (pos 0)
unfolding fits
zero_double s zero e h w z = ap (fin s 0) (zero_exponent e (eqb→eq (up e * down e) 1 h))
zero_double s (suc m) e h w z = absurd (not-le_of_lt (mul-pos (mul-pos (zero-lt-suc m) (up_pos e)) (pow_pos 1074)) (le_of_eq (w.has.1 ∙ ap (λ (x : ℕ). x * down e) z ∙ zero-mul (down e))))

-- ---- a sum that is 0
-- unlike signs that cancel give +0
unlike_sign : (s : Bool) (a c : ℕ) → sign (sum binary64 s a (not s) a c) ≡ false
unfolding sum
unlike_sign s a c = go s (is_false (ltb a a) (not_T (ltb a a) (λ t. lt_irrefl a (ltb→lt a a t))))
  where
    go : (s : Bool) → ltb a a ≡ false → sign (sum binary64 s a (not s) a c) ≡ false
    go true e = ap (λ (q : Bool). sign (cond q (round binary64 false (a - a) c) (round binary64 (true && q) (a - a) c))) e ∙ round_sign false (a - a) c
    go false e = ap (λ (q : Bool). sign (cond q (round binary64 true (a - a) c) (round binary64 (false && q) (a - a) c))) e ∙ round_sign false (a - a) c

-- two numbers whose sum is 0 are both 0, or cancel
cancel : (s t : Bool) (a b : ℕ) → signed s a +ℤ signed t b ≡ pos 0 → ((t ≡ s) × (a ≡ 0)) ⊎ ((t ≡ not s) × (a ≡ b))
cancel true true a b e = inl (refl, omega (arith, simp differences at e))
cancel false false a b e = inl (refl, omega (arith, simp differences at e))
cancel true false a b e = inr (refl, omega (arith, simp differences at e))
cancel false true a b e = inr (refl, omega (arith, simp differences at e))

nearest_minus_zero : (z : ℤ) → IsNearest 0 z minus_zero → z ≡ pos 0
unfolding exact magnitude
nearest_minus_zero z N = zero_rounded z (elim (le_or_lt (overflow binary64) (nat_abs (to_nearest 0 z))) [
  | inl k ↦ absurd (subst (λ (x : Float). T (finite x)) (N.beyond k) tt)
  | inr k ↦ sym (N.within k).1
])

add-finite : (s : Bool) (m : ℕ) (e : ℤ) (t : Bool) (n : ℕ) (d : ℤ) → T (fits binary64 (fin s m e)) → T (fits binary64 (fin t n d)) → add binary64 (fin s m e) (fin t n d) ≡ minus_zero → fin s m e ≡ minus_zero
unfolding add
add-finite s m e t n d h k z =
    let a = fin s m e in
    let b = fin t n d in
    let w = whole a tt h in
    let v = whole b tt k in
    let c = common s m e t n d w v in
    let A = m * up e * down d in
    let B = n * up d * down e in
    let C = down e * down d in
    let none : signed s (magnitude a) +ℤ signed t (magnitude b) ≡ pos 0 = rw (sym (exact_is a), sym (exact_is b)) (nearest_minus_zero _ (subst (IsNearest 0 (exact a +ℤ exact b)) z (add_nearest a b tt tt h k))) in
    elim (cancel s t (magnitude a) (magnitude b) none) [
      | inl j ↦
          let is : s ≡ true = sym (like_sign s A B C) ∙ ap (λ (r : Bool). sign (sum binary64 s A r B C)) (sym j.0) ∙ ap sign z in
          zero_double s m e h w j.1 ∙ ap (λ (r : Bool). fin r 0 (pos 0)) is
      | inr j ↦
          let same : A ≡ B = eq_of_mul-eq-mul_right (2 ^ 1074) (pow_pos 1074) A B (c.0 ∙ ap (λ (x : ℕ). x * C) j.1 ∙ sym c.1) in
          absurd (true≢false (sym (ap sign z) ∙ ap (λ (r : Bool). sign (sum binary64 s A r B C)) j.0 ∙ ap (λ (x : ℕ). sign (sum binary64 s A (not s) x C)) (sym same) ∙ unlike_sign s A C))
    ]

-- a sum is −0 only where its first operand is
pub add_minus_zero : (a b : Float) → T (fits binary64 a) → T (fits binary64 b) → add binary64 a b ≡ minus_zero → a ≡ minus_zero
unfolding add
add_minus_zero nan b h k e = e
add_minus_zero (inf s) nan h k e = absurd (subst (λ (x : Float). T (finite x)) (sym e) tt)
add_minus_zero (inf s) (inf t) h k e = absurd (go (beq s t) e)
  where
    go : (q : Bool) → cond q (inf s) nan ≡ minus_zero → ⊥
    go true e = subst (λ (x : Float). T (finite x)) (sym e) tt
    go false e = subst (λ (x : Float). T (finite x)) (sym e) tt
add_minus_zero (inf s) (fin t n d) h k e = e
add_minus_zero (fin s m d) nan h k e = absurd (subst (λ (x : Float). T (finite x)) (sym e) tt)
add_minus_zero (fin s m d) (inf t) h k e = absurd (subst (λ (x : Float). T (finite x)) (sym e) tt)
add_minus_zero (fin s m d) (fin t n c) h k e = add-finite s m d t n c h k e

pub sub_minus_zero : (a b : Float) → T (fits binary64 a) → T (fits binary64 b) → sub binary64 a b ≡ minus_zero → a ≡ minus_zero
unfolding sub
sub_minus_zero a b h k = add_minus_zero a (neg b) h (neg-fits binary64 b k)
