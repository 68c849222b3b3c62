-- What lies on one side of a double, or between two, rounds to a double that does, and a negative rounds to the negative. Assumes nothing.
use mathlib.Core.Path.{◌≡◌, refl, sym, ap, ◌∙◌, subst}
use mathlib.Core.Logic.{◌⊎◌, inl, inr}
use mathlib.Core.Bool.{Bool, true, false, not, true≢false}
use Prim.Native.Nat.{ℕ, zero, suc, ◌≤◌, ◌<◌}
use native.Mathlib.Nat.{le_trans, le_of_eq, not-le_of_lt}
use native.Mathlib.Omega.{arith}
use lib.IntN.{ℤ, pos, negsuc, neg_ℤ, nat_abs}
use lib.Dec.{T}
use lib.Pow.{pow_pos}
use lib.Ieee.{Float, inf, binary64, fits, neg}
use lib.Ieee.Fits.{neg-fits}
use lib.Ieee.Scale.{finite, overflow}
use Rattle.exact.specs.Value.{sign, exact, exact_at}
use Rattle.exact.specs.Integers.{◌≼◌}
use Rattle.exact.specs.Nearest.{nearest_units, to_nearest, below_zero, IsNearest}
use Rattle.exact.specs.Representable.{Representable}
use Rattle.exact.proofs.Naturals.{le_or_lt}
use Rattle.exact.proofs.Difference.{all, differences}
use Rattle.exact.proofs.Order.{neg-≼}
use Rattle.exact.proofs.Signed.{nat_abs_dif}
use Rattle.exact.proofs.Values.{whole, exact_abs, exact-neg, exact_at-neg, finite-neg, neg-neg}
use Rattle.exact.proofs.Nearest.{nearest_zero, to_nearest-neg, to_nearest_mono, to_nearest_same}
use Rattle.exact.proofs.Operations.{by_one}

-- ---- the mirror
abs_neg : (z : ℤ) → nat_abs (neg_ℤ z) ≡ nat_abs z
abs_neg = all _ λ a a'. simp (differences, nat_abs_dif) (omega arith)

-- what is past the range is not 0, so its negative has the other sign
other_sign : (l : ℕ) (z : ℤ) → overflow binary64 ≤ nat_abs (to_nearest l z) → not (below_zero z) ≡ below_zero (neg_ℤ z)
unfolding to_nearest
other_sign l (pos zero) h = absurd (not-le_of_lt (pow_pos 2098) (le_trans h (le_of_eq (nearest_zero l))))
other_sign l (pos (suc n)) h = refl
other_sign l (negsuc n) h = refl

pub nearest_neg : {l : ℕ} {z : ℤ} {d : Float} → IsNearest l z d → IsNearest l (neg_ℤ z) (neg d)
unfolding neg
nearest_neg {l} {z} {d} N = record {
  within = λ h. let v = N.within (subst (λ (n : ℕ). n < overflow binary64) size_is h) in (subst T (sym (finite-neg d)) v.0, exact-neg d ∙ ap neg_ℤ v.1 ∙ sym (to_nearest-neg l z));
  beyond = λ h. let k = subst (λ (n : ℕ). overflow binary64 ≤ n) size_is h in ap neg (N.beyond k) ∙ ap inf (other_sign l z k);
}
  where
    size_is : nat_abs (to_nearest l (neg_ℤ z)) ≡ nat_abs (to_nearest l z)
    size_is = ap nat_abs (to_nearest-neg l z) ∙ abs_neg (to_nearest l z)

-- ---- beside a double; a double rounds to itself
pub nearest_own : (l : ℕ) (x : Float) → T (finite x) → T (fits binary64 x) → to_nearest l (exact_at l x) ≡ exact x
nearest_own l x f h = to_nearest_same l (exact x) (subst (λ (n : ℕ). Representable 53 n) (sym (exact_abs x)) (whole x f h).representable)

-- a negative number that is not below w is no larger
no_larger : (l n : ℕ) (w : ℤ) → w ≼ to_nearest l (negsuc n) → nat_abs (to_nearest l (negsuc n)) ≤ nat_abs w
unfolding to_nearest
no_larger l n w h = go (nearest_units 53 l (suc n)) w h
  where
    go : (m : ℕ) (w : ℤ) → w ≼ neg_ℤ (pos m) → nat_abs (neg_ℤ (pos m)) ≤ nat_abs w
    go m = all _ λ a a'. simp (differences, nat_abs_dif) (λ h. omega arith)

module _ {l : ℕ} {z : ℤ} {d : Float} (N : IsNearest l z d) where
  -- not below x: not below it, or past the range above
  pub nearest_above : (x : Float) → T (finite x) → T (fits binary64 x) → exact_at l x ≼ z → (T (finite d) × (exact x ≼ exact d)) ⊎ (d ≡ inf false)
  nearest_above x f h o =
      elim (le_or_lt (overflow binary64) (nat_abs (to_nearest l z))) [
        | inl k ↦ inr (N.beyond k ∙ ap inf (not_negative z above k))
        | inr k ↦ let v = N.within k in inl (v.0, subst (λ (w : ℤ). exact x ≼ w) (sym v.1) above)
      ]
    where
      above : exact x ≼ to_nearest l z
      above = subst (λ (w : ℤ). w ≼ to_nearest l z) (nearest_own l x f h) (to_nearest_mono l (exact_at l x) z o)

      not_negative : (z : ℤ) → exact x ≼ to_nearest l z → overflow binary64 ≤ nat_abs (to_nearest l z) → below_zero z ≡ false
      not_negative (pos n) i k = refl
      not_negative (negsuc n) i k = absurd (not-le_of_lt (whole x f h).small (le_trans k (le_trans (no_larger l n (exact x) i) (le_of_eq (exact_abs x)))))

-- in the mirror: not above y
pub nearest_below : {l : ℕ} {z : ℤ} {d : Float} → IsNearest l z d → (y : Float) → T (finite y) → T (fits binary64 y) → z ≼ exact_at l y → (T (finite d) × (exact d ≼ exact y)) ⊎ (d ≡ inf true)
unfolding neg
nearest_below {l} {z} {d} N y f h o =
    elim (nearest_above (nearest_neg N) (neg y) (subst T (sym (finite-neg y)) f) (neg-fits binary64 y h) (subst (λ (w : ℤ). w ≼ neg_ℤ z) (sym (exact_at-neg l y)) ((neg-≼ z (exact_at l y)).0 o))) [
      | inl v ↦ inl (subst T (finite-neg d) v.0, (neg-≼ (exact d) (exact y)).1 (rw (exact-neg y, exact-neg d) at v.1))
      | inr e ↦ inr (sym (neg-neg d) ∙ ap neg e)
    ]

no_infinity : {d : Float} (s : Bool) → T (finite d) → d ≡ inf s → ⊥
no_infinity s f e = subst (λ (x : Float). T (finite x)) e f

-- between x and y: finite, and between them
pub nearest_between : {l : ℕ} {z : ℤ} {d : Float} → IsNearest l z d → (x y : Float) → T (finite x) → T (fits binary64 x) → T (finite y) → T (fits binary64 y) → exact_at l x ≼ z → z ≼ exact_at l y
    → T (finite d) × (exact x ≼ exact d) × (exact d ≼ exact y)
nearest_between {d = d} N x y f h g k o p =
    elim (nearest_above N x f h o) [
      | inl v ↦ elim (nearest_below N y g k p) [ inl w ↦ (v.0, v.1, w.1) | inr e ↦ absurd (no_infinity true v.0 e) ]
      | inr e ↦ elim (nearest_below N y g k p) [ inl w ↦ absurd (no_infinity false w.0 e) | inr e' ↦ absurd (true≢false (ap sign (sym e' ∙ e))) ]
    ]

-- ---- in whole units
pub units_above : {z : ℤ} {d : Float} → IsNearest 0 z d → (x : Float) → T (finite x) → T (fits binary64 x) → exact x ≼ z → (T (finite d) × (exact x ≼ exact d)) ⊎ (d ≡ inf false)
units_above {z} N x f h o = nearest_above N x f h (subst (λ (w : ℤ). w ≼ z) (by_one (exact x)) o)

pub units_between : {z : ℤ} {d : Float} → IsNearest 0 z d → (x y : Float) → T (finite x) → T (fits binary64 x) → T (finite y) → T (fits binary64 y) → exact x ≼ z → z ≼ exact y
    → T (finite d) × (exact x ≼ exact d) × (exact d ≼ exact y)
units_between {z} N x y f h g k o p = nearest_between N x y f h g k (subst (λ (w : ℤ). w ≼ z) (by_one (exact x)) o) (subst (λ (w : ℤ). z ≼ w) (by_one (exact y)) p)
