-- Rounding signed numbers to p binary digits: what it leaves of a sum has p digits, and no number of p digits is nearer. A pair a, a' of naturals stands
-- for a - a', so that `omega` reads it. Assumes nothing.
use mathlib.Core.Path.{◌≡◌, refl, sym, ap, ◌∙◌}
use mathlib.Core.Logic.{inl, inr}
use mathlib.Core.Bool.{Bool, true, false}
use Prim.Native.Nat.{ℕ, ◌+◌, ◌-◌, ◌<◌}
use native.Mathlib.Nat.{le_of_lt}
use native.Mathlib.Omega.{arith}
use lib.IntN.{ℤ}
use Rattle.exact.specs.Value.{signed}
use Rattle.exact.specs.Representable.{Representable}
use Rattle.exact.specs.Nearest.{to_nearest}
use Rattle.exact.proofs.Naturals.{le_or_lt, distance, Within}
use Rattle.exact.proofs.Representable.{representable-zero}
use Rattle.exact.proofs.Difference.{dif, differences}
use Rattle.exact.proofs.Signed.{by_sign}
use Rattle.exact.proofs.Nearest.{nearest_zero, to_nearest_signed}
use Rattle.error_free.proofs.Sterbenz.{round, along, round_ge, round_le, round_lo, round_hi, round_same, round_representable, sum_error, difference_error}

-- x - x' is n - n' rounded
abbrev pub Rounded : ℕ → ℕ → ℕ → ℕ → ℕ → Type 0
Rounded p n n' x x' = x + round p (n' - n) ≡ x' + round p (n - n')

module _ (p : ℕ) (P : 0 < p) where
  pub rounded_positive : (n n' x x' m : ℕ) → n ≡ n' + m → Rounded p n n' x x' → x ≡ x' + round p m
  rounded_positive n n' x x' m e r =
      let none : round p (n' - n) ≡ 0 = ap (round p) (omega arith) ∙ round_same p P 0 (representable-zero p) in
      let some : round p (n - n') ≡ round p m = ap (round p) (omega arith) in
      omega arith

  pub rounded_negative : (n n' x x' m : ℕ) → n' ≡ n + m → Rounded p n n' x x' → x' ≡ x + round p m
  rounded_negative n n' x x' m e r = rounded_positive n' n x' x m e (sym r)

  pub rounded_representable : (n n' x x' : ℕ) → Rounded p n n' x x' → Representable p (distance x x')
  rounded_representable n n' x x' r =
      elim (le_or_lt n' n) [
        | inl l ↦ along (omega (arith, rounded_positive n n' x x' (n - n') (omega arith) r)) (round_representable p P (n - n'))
        | inr l ↦ along (omega (arith, rounded_negative n n' x x' (n' - n) (omega arith) r)) (round_representable p P (n' - n))
      ]

  -- ---- what rounding a sum leaves; first for a first number m, not below 0
  error⁺ : (m a a' b b' x x' : ℕ) → a ≡ a' + m → Representable p m → Representable p (distance b b') → Rounded p (a + b) (a' + b') x x' → Representable p (distance (a + b + x') (a' + b' + x))
  error⁺ m a a' b b' x x' e M B r =
      elim (le_or_lt b' b) [
        | inl l ↦
            let n = b - b' in
            let N : Representable p n = along (omega arith) B in
            let s = rounded_positive (a + b) (a' + b') x x' (m + n) (omega arith) r in
            along (omega arith) (sum_error p P m n M N)
        | inr l ↦
            let n = b' - b in
            let N : Representable p n = along (omega arith) B in
            elim (le_or_lt n m) [
              | inl h ↦
                  let s = rounded_positive (a + b) (a' + b') x x' (m - n) (omega arith) r in
                  along (omega arith) (difference_error p P m n M N h)
              | inr h ↦
                  let s = rounded_negative (a + b) (a' + b') x x' (n - m) (omega arith) r in
                  along (omega arith) (difference_error p P n m N M (le_of_lt h))
            ]
      ]

  pub rounded_error : (a a' b b' x x' : ℕ) → Representable p (distance a a') → Representable p (distance b b') → Rounded p (a + b) (a' + b') x x' → Representable p (distance (a + b + x') (a' + b' + x))
  rounded_error a a' b b' x x' A B r =
      elim (le_or_lt a' a) [
        | inl l ↦ error⁺ (a - a') a a' b b' x x' (omega arith) (along (omega arith) A) B r
        | inr l ↦ along (omega arith) (error⁺ (a' - a) a' a b' b x' x (omega arith) (along (omega arith) A) (along (omega arith) B) (sym r))
      ]

  -- ---- a rounded number is within k of the exact one if any number r - r' of p digits is
  near⁺ : (m x x' r r' k : ℕ) → x ≡ x' + round p m → Representable p (distance r r') → Within k r (r' + m) → Within k x (x' + m)
  near⁺ m x x' r r' k e R w =
      elim (le_or_lt r' r) [
        | inl l ↦
            let s = r - r' in
            let S : Representable p s = along (omega arith) R in
            elim (le_or_lt s m) [
              | inl h ↦ omega (arith, round_lo p P m s S h, round_ge p P m s S h)
              | inr h ↦ omega (arith, round_hi p P m s S (le_of_lt h), round_le p P m s S (le_of_lt h))
            ]
        | inr l ↦ omega (arith, round_lo p P m 0 (representable-zero p) (omega arith))
      ]

  pub rounded_near : (n n' x x' r r' k : ℕ) → Rounded p n n' x x' → Representable p (distance r r') → Within k (r + n') (r' + n) → Within k (x + n') (x' + n)
  rounded_near n n' x x' r r' k q R w =
      elim (le_or_lt n' n) [
        | inl l ↦ omega (arith, near⁺ (n - n') x x' r r' k (rounded_positive n n' x x' (n - n') (omega arith) q) R (omega arith))
        | inr l ↦ omega (arith, near⁺ (n' - n) x' x r' r k (rounded_negative n n' x x' (n' - n) (omega arith) q) (along (omega arith) R) (omega arith))
      ]

-- ---- integers
pub to_nearest_dif : (a b : ℕ) → to_nearest 0 (dif a b) ≡ dif (round 53 (a - b)) (round 53 (b - a))
to_nearest_dif a b = all_signs (dif a b) refl
  where
    side : (s : Bool) (n : ℕ) → signed s n ≡ dif a b → signed s (round 53 n) ≡ dif (round 53 (a - b)) (round 53 (b - a))
    side false n e =
        let d : n + b ≡ a + 0 = simp differences at e in
        let some : round 53 (a - b) ≡ round 53 n = ap (round 53) (omega arith) in
        let none : round 53 (b - a) ≡ 0 = ap (round 53) (omega arith) ∙ nearest_zero 0 in
        simp differences (omega arith)
    side true n e =
        let d : 0 + b ≡ a + n = simp differences at e in
        let some : round 53 (b - a) ≡ round 53 n = ap (round 53) (omega arith) in
        let none : round 53 (a - b) ≡ 0 = ap (round 53) (omega arith) ∙ nearest_zero 0 in
        simp differences (omega arith)

    all_signs : (z : ℤ) → z ≡ dif a b → to_nearest 0 z ≡ dif (round 53 (a - b)) (round 53 (b - a))
    all_signs = by_sign _ λ s n e. to_nearest_signed 0 s n ∙ side s n e

pub to_nearest_rounded : (n n' x x' : ℕ) → dif x x' ≡ to_nearest 0 (dif n n') → Rounded 53 n n' x x'
to_nearest_rounded n n' x x' e = omega (arith, simp (to_nearest_dif, differences) at e)
