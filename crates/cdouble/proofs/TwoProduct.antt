-- Dekker's product of doubles is exact. Assumes nothing.
use Rattle.std.proofs.Common.{◌≡◌, ℕ, ◌+◌, ◌*◌, ◌^◌, ◌<◌, ◌≤◌, Bool, true, false, T, ℤ, pos, ◌+ℤ◌, ◌*ℤ◌, nat_abs, sym, refl, ap, ◌∙◌, subst, inl, inr, zero-le, le_trans, le_of_eq, mul-zero, zero-mul, arith, pow_pos}
use lib.Ieee.{Float, binary64, fits, unlike}
use lib.Ieee.Fits.{mul-fits}
use lib.Ieee.Scale.{finite, overflow}
use Rattle.exact.specs.Value.{sign, magnitude, signed, exact, exact_at}
use Rattle.exact.specs.Representable.{Representable}
use Rattle.exact.specs.Nearest.{nearest_units, to_nearest, IsNearest}
use Rattle.exact.proofs.Naturals.{le_or_lt}
use Rattle.exact.proofs.Difference.{differences}
use Rattle.exact.proofs.Signed.{signed_abs, signed_*}
use Rattle.exact.proofs.Values.{whole, exact_is, exact_abs}
use Rattle.exact.proofs.Nearest.{to_nearest_signed}
use Rattle.exact.proofs.Operations.{mul_nearest}
use Rattle.cdouble.specs.declared.CDouble.{CDouble}
use Rattle.cdouble.specs.Compensated.{◌⊖◌, ◌⊗◌, split, product_error, two_product}
use Rattle.cdouble.specs.Exactness.{AtMost, IsZero, ProductRange, IsExact}
use Rattle.error_free.proofs.Product.{high64, Terms, terms, rounded_zero, terms_zero_l, terms_zero_r}
use Rattle.error_free.proofs.Steps.{top, HasExact}
use Rattle.cdouble.proofs.SignedSteps.{offset, offset_signed, sub_offset, mul_offset}
use Rattle.cdouble.proofs.SplitParts.{parts, alone}

-- a finite result of rounding is the number rounded
nearest_value : (l : ℕ) (z : ℤ) (d : Float) → IsNearest l z d → T (finite d) → exact d ≡ to_nearest l z
nearest_value l z d N f =
    elim (le_or_lt (overflow binary64) (nat_abs (to_nearest l z))) [
      | inl h ↦ absurd (subst (λ (x : Float). T (finite x)) (N.beyond h) f)
      | inr h ↦ (N.within h).1
    ]

-- ---- the error term, from the exact values of the halves and of the rounded product x: ab - x, with the product's sign
module _ (s t : Bool) (A B x : ℕ) (K : Terms A B x) (a b : CDouble) (r : Float) (ahi : HasExact (offset s (high64 A) 0) a.hi) (alo : HasExact (offset s A (high64 A)) a.lo)
    (bhi : HasExact (offset t (high64 B) 0) b.hi) (blo : HasExact (offset t B (high64 B)) b.lo) (rounded : HasExact (offset (unlike s t) x 0) r) where
  abbrev L : ℕ
  L = 2 ^ 1074

  left : (m n k : ℕ) → m + n ≤ k → m ≤ k
  left m n k h = omega arith

  right : (m n k : ℕ) → m + n ≤ k → n ≤ k
  right m n k h = omega arith

  hh≤ : K.hh ≤ top
  hh≤ = right K.ab K.hh top K.cap_hh

  ah≤ : K.ah ≤ top
  ah≤ = left K.ah K.hb top K.cap_mid

  x≤ : x ≤ top
  x≤ = left x K.hh top K.cap_x

  -- the four products
  hi_hi : HasExact (offset (unlike s t) K.hh 0) (a.hi ⊗ b.hi)
  hi_hi =
      mul_offset K.hh 0 (subst (λ (n : ℕ). Representable 53 n) (sym (alone K.hh)) K.short.hh_digits) hh≤ zero-le s t a.hi b.hi (high64 A) 0 (high64 B) 0 ahi bhi
      (alone_l (high64 A * high64 B) (K.hh * L) K.hh_is) (none (high64 A) (high64 B) L)
    where
      alone_l : (m k : ℕ) → m ≡ k → m + 0 * 0 ≡ k
      alone_l m k h = omega arith

      none : (m n l : ℕ) → m * 0 + 0 * n ≡ 0 * l
      none m n l = omega arith

  lo_hi : HasExact (offset (unlike s t) K.ah K.hh) (a.lo ⊗ b.hi)
  lo_hi =
      mul_offset K.ah K.hh K.short.lh_digits ah≤ hh≤ s t a.lo b.hi A (high64 A) (high64 B) 0 alo bhi
      (first (A * high64 B) (K.ah * L) (high64 A) K.ah_is) (second (high64 A * high64 B) (K.hh * L) A K.hh_is)
    where
      first : (m k n : ℕ) → m ≡ k → m + n * 0 ≡ k
      first m k n h = omega arith

      second : (m k n : ℕ) → m ≡ k → n * 0 + m ≡ k
      second m k n h = omega arith

  hi_lo : HasExact (offset (unlike s t) K.hb K.hh) (a.hi ⊗ b.lo)
  hi_lo =
      mul_offset K.hb K.hh K.short.hl_digits (right K.ah K.hb top K.cap_mid) hh≤ s t a.hi b.lo (high64 A) 0 B (high64 B) ahi blo
      (either (high64 A * B) (K.hb * L) (high64 B) K.hb_is) (either (high64 A * high64 B) (K.hh * L) B K.hh_is)
    where
      either : (m k n : ℕ) → m ≡ k → m + 0 * n ≡ k
      either m k n h = omega arith

  lo_lo : HasExact (offset (unlike s t) (K.ab + K.hh) (K.ah + K.hb)) (a.lo ⊗ b.lo)
  lo_lo =
      mul_offset (K.ab + K.hh) (K.ah + K.hb) K.short.ll_digits K.cap_hh K.cap_mid s t a.lo b.lo A (high64 A) B (high64 B) alo blo
      (joined (A * B) (high64 A * high64 B) K.ab K.hh L K.ab_is K.hh_is) (joined (A * high64 B) (high64 A * B) K.ah K.hb L K.ah_is K.hb_is)
    where
      joined : (m n i j l : ℕ) → m ≡ i * l → n ≡ j * l → m + n ≡ (i + j) * l
      joined m n i j l h k = omega arith

  -- the three differences in the bracket, and the last
  pub error_value : HasExact (offset (unlike s t) K.ab x) (product_error r a b)
  unfolding product_error
  error_value =
      let p = unlike s t in
      let u = sub_offset x K.hh K.short.first x≤ hh≤ p r (a.hi ⊗ b.hi) x 0 K.hh 0 rounded hi_hi (one x K.hh) in
      let v = sub_offset x K.ah K.short.second x≤ ah≤ p (r ⊖ a.hi ⊗ b.hi) (a.lo ⊗ b.hi) x K.hh K.ah K.hh u lo_hi (two x K.hh K.ah) in
      let w = sub_offset (x + K.hh) (K.ah + K.hb) K.short.third K.cap_x K.cap_mid p ((r ⊖ a.hi ⊗ b.hi) ⊖ a.lo ⊗ b.hi) (a.hi ⊗ b.lo) x K.ah K.hb K.hh v hi_lo refl in
      sub_offset K.ab x K.short.last (left K.ab K.hh top K.cap_hh) x≤ p (a.lo ⊗ b.lo) (((r ⊖ a.hi ⊗ b.hi) ⊖ a.lo ⊗ b.hi) ⊖ a.hi ⊗ b.lo) (K.ab + K.hh) (K.ah + K.hb) (x + K.hh) (K.ah + K.hb) lo_lo w
      (four K.ab K.hh (K.ah + K.hb) x)
    where
      one : (m n : ℕ) → m + 0 + n ≡ m + (0 + n)
      one m n = omega arith

      two : (m n k : ℕ) → m + n + k ≡ m + (n + k)
      two m n k = omega arith

      four : (i j k m : ℕ) → i + j + k + m ≡ i + (k + (m + j))
      four i j k m = omega arith

-- ---- the product of two doubles
module _ (a b : Float) (fa : T (finite a)) (fb : T (finite b)) (ha : T (fits binary64 a)) (hb : T (fits binary64 b)) where
  abbrev A : ℕ
  A = magnitude a

  abbrev B : ℕ
  B = magnitude b

  abbrev X : ℕ
  X = nearest_units 53 1074 (magnitude a * magnitude b)

  abbrev p : Bool
  p = unlike (sign a) (sign b)

  product_is : exact a *ℤ exact b ≡ signed p (A * B)
  product_is = ap (λ (z : ℤ). z *ℤ exact b) (exact_is a) ∙ ap (λ (z : ℤ). signed (sign a) A *ℤ z) (exact_is b) ∙ signed_* (sign a) (sign b) A B

  rounded_is : to_nearest 1074 (exact a *ℤ exact b) ≡ signed p X
  rounded_is = ap (to_nearest 1074) product_is ∙ to_nearest_signed 1074 p (A * B)

  pub product_finite : X < overflow binary64 → T (finite (a ⊗ b))
  product_finite h = ((mul_nearest a b fa fb ha hb).within (subst (λ (n : ℕ). n < overflow binary64) (sym (ap nat_abs rounded_is ∙ signed_abs p X)) h)).0

  module _ (f : T (finite (a ⊗ b))) where
    product_nearest : exact (a ⊗ b) ≡ to_nearest 1074 (exact a *ℤ exact b)
    product_nearest = nearest_value 1074 (exact a *ℤ exact b) (a ⊗ b) (mul_nearest a b fa fb ha hb) f

    pub product_magnitude : magnitude (a ⊗ b) ≡ X
    product_magnitude = sym (exact_abs (a ⊗ b)) ∙ ap nat_abs (product_nearest ∙ rounded_is) ∙ signed_abs p X

    pub exact_of_terms : AtMost 995 a → AtMost 995 b → Terms A B X → IsExact 1074 (exact a *ℤ exact b) (two_product a b)
    unfolding two_product
    exact_of_terms ra rb K =
        let r : HasExact (offset p X 0) (a ⊗ b) = record { is_finite = f; fit = mul-fits binary64 a b; value = product_nearest ∙ rounded_is ∙ offset_signed p X } in
        let P = parts a ha ra in
        let Q = parts b hb rb in
        let y = error_value (sign a) (sign b) A B X K (split a) (split b) (a ⊗ b) P.hi P.lo Q.hi Q.lo r in
        record {
          hi_finite = f;
          lo_finite = y.is_finite;
          whole =
              ap (λ (z : ℤ). z *ℤ pos (2 ^ 1074) +ℤ exact_at 1074 (product_error (a ⊗ b) (split a) (split b))) r.value
              ∙ ap (λ (z : ℤ). offset p X 0 *ℤ pos (2 ^ 1074) +ℤ z *ℤ pos (2 ^ 1074)) y.value
              ∙ joined p K.ab X (2 ^ 1074)
              ∙ ap (λ (n : ℕ). offset p n 0) (sym K.ab_is)
              ∙ sym (product_is ∙ offset_signed p (A * B));
          nearest = product_nearest;
        }
      where
        joined : (s : Bool) (n x l : ℕ) → offset s x 0 *ℤ pos l +ℤ offset s n x *ℤ pos l ≡ offset s (n * l) 0
        joined false n x l = simp differences (omega arith)
        joined true n x l = simp differences (omega arith)

-- a factor of 0: the rounded product is 0
at_zero : (x : Float) → IsZero x → AtMost 995 x
at_zero x z = record { is_finite = z.0; cap = le_trans (le_of_eq z.1) zero-le }

zero_product : (a b : Float) → T (fits binary64 a) → T (fits binary64 b) → AtMost 995 a → AtMost 995 b → magnitude a * magnitude b ≡ 0
    → Terms (magnitude a) (magnitude b) (nearest_units 53 1074 (magnitude a * magnitude b)) → IsExact 1074 (exact a *ℤ exact b) (two_product a b)
zero_product a b ha hb ra rb e K =
    let fa = ra.is_finite in
    let fb = rb.is_finite in
    exact_of_terms a b fa fb ha hb (product_finite a b fa fb ha hb (subst (λ (n : ℕ). n < overflow binary64) (sym (rounded_zero (magnitude a * magnitude b) e)) (pow_pos 2098))) ra rb K

pub two_product_exact : (a b : Float) → T (fits binary64 a) → T (fits binary64 b) → ProductRange a b → IsExact 1074 (exact a *ℤ exact b) (two_product a b)
two_product_exact a b ha hb (inl (z, rb)) =
    zero_product a b ha hb (at_zero a z) rb (ap (λ (n : ℕ). n * magnitude b) z.1 ∙ zero-mul (magnitude b))
    (subst (λ (n : ℕ). Terms n (magnitude b) (nearest_units 53 1074 (n * magnitude b))) (sym z.1) (terms_zero_l (magnitude b)))
two_product_exact a b ha hb (inr (inl (ra, z))) =
    zero_product a b ha hb ra (at_zero b z) (ap (λ (n : ℕ). magnitude a * n) z.1 ∙ mul-zero (magnitude a))
    (subst (λ (n : ℕ). Terms (magnitude a) n (nearest_units 53 1074 (magnitude a * n))) (sym z.1) (terms_zero_r (magnitude a)))
two_product_exact a b ha hb (inr (inr R)) =
    let fa = R.first.is_finite in
    let fb = R.second.is_finite in
    let f = R.most.is_finite in
    let is = product_magnitude a b fa fb ha hb f in
    exact_of_terms a b fa fb ha hb f R.first R.second
    (terms (magnitude a) (magnitude b) (whole a fa ha).representable (whole b fb hb).representable (le_trans R.least (le_of_eq is)) (le_trans (le_of_eq (sym is)) R.most.cap))
