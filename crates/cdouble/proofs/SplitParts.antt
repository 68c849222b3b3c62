-- Dekker's split of a double is exact, in halves of at most 26 significant bits. Assumes nothing.
use Rattle.std.proofs.Common.{◌≡◌, ℕ, ◌+◌, ◌-◌, ◌*◌, ◌^◌, ◌≤◌, Bool, true, false, T, ℤ, pos, ◌+ℤ◌, ◌-ℤ◌, ◌*ℤ◌, nat_abs, sym, refl, ap, ◌∙◌, subst, zero-le, le_trans, le_of_eq, arith, lit≤}
use lib.Ieee.{Float, binary64, fits, of_bits}
use lib.Ieee.Scale.{finite}
use Rattle.exact.specs.Value.{sign, magnitude, exact}
use Rattle.exact.specs.Representable.{Representable}
use Rattle.exact.specs.Nearest.{nearest_units, to_nearest}
use Rattle.exact.proofs.Naturals.{distance}
use Rattle.exact.proofs.Difference.{differences}
use Rattle.exact.proofs.Representable.{representable_more}
use Rattle.exact.proofs.Values.{whole, exact_is, exact_abs}
use Rattle.exact.proofs.Nearest.{to_nearest_signed}
use Rattle.cdouble.specs.Compensated.{◌⊖◌, ◌⊗◌, factor, split}
use Rattle.cdouble.specs.Exactness.{AtMost, IsSplit}
use Rattle.error_free.proofs.Veltkamp.{scaled, excess, product_cap, scaled_cap}
use Rattle.error_free.proofs.Product.{high64, halves64}
use Rattle.error_free.proofs.Steps.{top, HasExact, known, as_value, in_range, sub_rounded, mul_rounded}
use Rattle.cdouble.proofs.SignedSteps.{offset, offset_signed, offset_same, offset_abs, offset_sub, sub_offset}

pub to_nearest_offset : (s : Bool) (n : ℕ) → to_nearest 0 (offset s n 0) ≡ offset s (nearest_units 53 0 n) 0
to_nearest_offset s n = ap (to_nearest 0) (sym (offset_signed s n)) ∙ to_nearest_signed 0 s n ∙ offset_signed s (nearest_units 53 0 n)

pub alone : (n : ℕ) → distance n 0 ≡ n
alone n = omega arith

offset_cap : (s : Bool) (n : ℕ) → n ≤ top → nat_abs (offset s n 0) ≤ top
offset_cap s n h = le_trans (le_of_eq (offset_abs s n 0 ∙ alone n)) h

-- a double is its magnitude with its sign
pub known_offset : (a : Float) → T (finite a) → T (fits binary64 a) → HasExact (offset (sign a) (magnitude a) 0) a
known_offset a f h = as_value (exact_is a ∙ offset_signed (sign a) (magnitude a)) (known a f h)

factor_known : HasExact (pos ((2 ^ 27 + 1) * 2 ^ 1074)) factor
unfolding exact magnitude fits
factor_known = record { is_finite = tt; fit = tt; value = refl }

-- ---- the split
pub record Parts (a : Float) : Type 0 where
  pub hi : HasExact (offset (sign a) (high64 (magnitude a)) 0) (split a).hi
  pub lo : HasExact (offset (sign a) (magnitude a) (high64 (magnitude a))) (split a).lo

pub parts : (a : Float) → T (fits binary64 a) → AtMost 995 a → Parts a
unfolding split
parts a h R =
    let s = sign a in
    let A = magnitude a in
    let S = scaled 52 27 A in
    let E = excess 52 27 A in
    let H = high64 A in
    let Z = halves64 A (whole a R.is_finite h).representable in
    let x = known_offset a R.is_finite h in
    let S≤ : S ≤ top = scaled_cap 52 27 A 2069 R.cap in
    let c : HasExact (offset s S 0) (factor ⊗ a) =
    as_value (to_nearest_offset s ((2 ^ 27 + 1) * A))
    (mul_rounded factor_known x (offset s ((2 ^ 27 + 1) * A) 0) (times s (2 ^ 27 + 1) A (2 ^ 1074)) (in_range (offset s ((2 ^ 27 + 1) * A) 0) (offset_cap s ((2 ^ 27 + 1) * A) (product_cap 27 A 2069 R.cap)))) in
    let less : offset s S 0 -ℤ offset s A 0 ≡ offset s (S - A) 0 = offset_sub s S 0 A 0 ∙ offset_same s (S + 0) (0 + A) (S - A) 0 (taken S A Z.a_le) in
    let b : HasExact (offset s E 0) ((factor ⊗ a) ⊖ a) =
    as_value (ap (to_nearest 0) less ∙ to_nearest_offset s (S - A))
    (sub_rounded c x (in_range (offset s S 0 -ℤ offset s A 0) (subst (λ (z : ℤ). nat_abs z ≤ top) (sym less) (offset_cap s (S - A) (le_trans (fewer S A) S≤))))) in
    let hi : HasExact (offset s H 0) (split a).hi =
    sub_offset H 0 (subst (λ (n : ℕ). Representable 53 n) (sym (alone H)) (representable_more 26 53 H (lit≤ tt) Z.high_digits)) (le_trans (fewer S E) S≤) zero-le
    s (factor ⊗ a) ((factor ⊗ a) ⊖ a) S 0 E 0 c b (taken S E Z.b_le) in
    record {
      hi = hi;
      lo = sub_offset A H (representable_more 26 53 (distance A H) (lit≤ tt) Z.low_digits) (le_trans Z.a_le S≤) (le_trans (fewer S E) S≤) s a (split a).hi A 0 H 0 x hi (both A H);
    }
  where
    times : (s : Bool) (k n l : ℕ) → pos (k * l) *ℤ offset s n 0 ≡ offset s (k * n) 0 *ℤ pos l
    times false k n l = simp differences (omega arith)
    times true k n l = simp differences (omega arith)

    taken : (n m : ℕ) → m ≤ n → n + 0 + 0 ≡ n - m + (0 + m)
    taken n m h = omega arith

    fewer : (n m : ℕ) → n - m ≤ n
    fewer n m = omega arith

    both : (a b : ℕ) → a + 0 + b ≡ a + (0 + b)
    both a b = omega arith

-- what 01 and the Rust say of it
pub split_exact : (a : Float) → T (fits binary64 a) → AtMost 995 a → IsSplit a (split a)
split_exact a h R =
    let s = sign a in
    let A = magnitude a in
    let H = high64 A in
    let P = parts a h R in
    let Z = halves64 A (whole a R.is_finite h).representable in
    record {
      hi_finite = P.hi.is_finite;
      lo_finite = P.lo.is_finite;
      whole = ap (λ (z : ℤ). z +ℤ exact (split a).lo) P.hi.value ∙ ap (λ (z : ℤ). offset s H 0 +ℤ z) P.lo.value ∙ joined s H A ∙ sym (known_offset a R.is_finite h).value;
      hi_digits = subst (λ (n : ℕ). Representable 26 n) (sym (size (split a).hi H 0 P.hi.value ∙ alone H)) Z.high_digits;
      lo_digits = subst (λ (n : ℕ). Representable 26 n) (sym (size (split a).lo A H P.lo.value)) Z.low_digits;
    }
  where
    joined : (s : Bool) (h a : ℕ) → offset s h 0 +ℤ offset s a h ≡ offset s a 0
    joined false h a = simp differences (omega arith)
    joined true h a = simp differences (omega arith)

    size : (x : Float) (m n : ℕ) → exact x ≡ offset (sign a) m n → magnitude x ≡ distance m n
    size x m n e = sym (exact_abs x) ∙ ap nat_abs e ∙ offset_abs (sign a) m n

-- the factor, as the compiler works it out
pub factor_is : of_bits binary64 0x41A0_0000_0200_0000 ≡ factor
unfolding of_bits
factor_is = refl
