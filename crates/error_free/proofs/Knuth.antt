-- Knuth's two-sum on integers rounded to the 53 digits of a double: with x = a + b and z = x - a rounded, all steps after z are exact, and so
-- come to what x leaves of a + b. Assumes nothing.
use mathlib.Core.Path.{◌≡◌, refl, sym}
use mathlib.Core.Logic.{inl, inr}
use Prim.Native.Nat.{ℕ, ◌+◌, ◌-◌, ◌≤◌, ◌<◌}
use native.Mathlib.Omega.{arith}
use lib.Dec.{lit<}
use lib.IntN.{ℤ, nat_abs, ◌+ℤ◌, ◌-ℤ◌}
use Rattle.exact.specs.Representable.{Representable}
use Rattle.exact.specs.Nearest.{to_nearest}
use Rattle.exact.proofs.Naturals.{le_or_lt, distance, Within}
use Rattle.exact.proofs.Difference.{dif, all, differences}
use Rattle.exact.proofs.Signed.{nat_abs_dif}
use Rattle.error_free.proofs.Sterbenz.{round, along, round_ge, round_le, round_representable, difference_error, alike_x_less_z, alike_b_less_z, larger_z, smaller_x_less_z, smaller_b_less_z}
use Rattle.error_free.proofs.SignedRounding.{Rounded, rounded_positive, rounded_negative, rounded_representable, rounded_error, rounded_near, to_nearest_rounded}

-- a - b = d - c gives |a - b| = |c - d|
same_distance : (a b c d : ℕ) → a + c ≡ b + d → distance a b ≡ distance c d
same_distance a b c d e = omega arith

-- ---- x - z and b - z, exact for reasons of their own. A pair a, a' of naturals stands for a - a'.
module _ (p : ℕ) (P : 0 < p) where
  abbrev Both : ℕ → ℕ → ℕ → ℕ → ℕ → ℕ → Type 0
  Both b b' x x' z z' = Representable p (distance (x + z') (x' + z)) × Representable p (distance (b + z') (b' + z))

  -- for a first number m, not below 0
  both⁺ : (m a a' b b' x x' z z' : ℕ) → a ≡ a' + m → Representable p m → Representable p (distance b b') → Rounded p (a + b) (a' + b') x x' → Rounded p (x + a') (x' + a) z z' → Both b b' x x' z z'
  both⁺ m a a' b b' x x' z z' e M B rx rz =
      elim (le_or_lt b' b) [
        | inl l ↦
            let n = b - b' in
            let N : Representable p n = along (omega arith) B in
            let u = round p (m + n) in
            let ex = rounded_positive p P (a + b) (a' + b') x x' (m + n) (omega arith) rx in
            let lo : m ≤ u = round_ge p P (m + n) m M (omega arith) in
            let ez = rounded_positive p P (x + a') (x' + a) z z' (u - m) (omega arith) rz in
            let hi : round p (u - m) ≤ u = round_le p P (u - m) u (round_representable p P (m + n)) (omega arith) in
            (along (omega arith) (alike_x_less_z p P m n M N), along (omega arith) (alike_b_less_z p P m n M N))
        | inr l ↦
            let n = b' - b in
            let N : Representable p n = along (omega arith) B in
            elim (le_or_lt n m) [
              | inl h ↦
                  let u = round p (m - n) in
                  let ex = rounded_positive p P (a + b) (a' + b') x x' (m - n) (omega arith) rx in
                  let hi : u ≤ m = round_le p P (m - n) m M (omega arith) in
                  let ez = rounded_negative p P (x + a') (x' + a) z z' (m - u) (omega arith) rz in
                  let f = larger_z p P m n M N h in
                  (along (omega arith) M, along (same_distance u (m - n) (b + z') (b' + z) (omega arith)) (difference_error p P m n M N h))
              | inr h ↦
                  let u = round p (n - m) in
                  let ex = rounded_negative p P (a + b) (a' + b') x x' (n - m) (omega arith) rx in
                  let ez = rounded_negative p P (x + a') (x' + a) z z' (u + m) (omega arith) rz in
                  (along (omega arith) (smaller_x_less_z p P m n M N h), along (omega arith) (smaller_b_less_z p P m n M N h))
            ]
      ]

  both : (a a' b b' x x' z z' : ℕ) → Representable p (distance a a') → Representable p (distance b b') → Rounded p (a + b) (a' + b') x x' → Rounded p (x + a') (x' + a) z z' → Both b b' x x' z z'
  both a a' b b' x x' z z' A B rx rz =
      elim (le_or_lt a' a) [
        | inl l ↦ both⁺ (a - a') a a' b b' x x' z z' (omega arith) (along (omega arith) A) B rx rz
        | inr l ↦
            let h = both⁺ (a' - a) a' a b' b x' x z' z (omega arith) (along (omega arith) A) (along (omega arith) B) (sym rx) (sym rz) in
            (along (omega arith) h.0, along (omega arith) h.1)
      ]

-- ---- integers
-- z has 53 digits and is at most k
pub record Exactly (k : ℕ) (z : ℤ) : Type 0 where
  pub digits : Representable 53 (nat_abs z)
  pub cap : nat_abs z ≤ k

-- x being a + b rounded and z being x - a rounded, no step leaves the range of twice k, and all steps after z are exact
pub record Knuth (k : ℕ) (a b x z : ℤ) : Type 0 where
  pub sum_cap : nat_abs (a +ℤ b) ≤ k + k
  pub back_cap : nat_abs (x -ℤ a) ≤ k + k
  pub x_less_z : Exactly (k + k) (x -ℤ z)
  pub a_error : Exactly (k + k) (a -ℤ (x -ℤ z))
  pub b_error : Exactly (k + k) (b -ℤ z)
  pub error : Exactly (k + k) ((a -ℤ (x -ℤ z)) +ℤ (b -ℤ z))

-- an integer by its pair
exactly : (k n n' : ℕ) → Representable 53 (distance n n') → Within k n n' → Exactly k (dif n n')
exactly k n n' R w = record { digits = rw (nat_abs_dif n n') R; cap = rw (nat_abs_dif n n') (omega arith) }

-- the errors of z and of x, as the steps write them
a_error_is : (a a' x x' z z' : ℕ) → distance (x + a' + z') (x' + a + z) ≡ distance (a + (x' + z)) (a' + (x + z'))
a_error_is a a' x x' z z' = omega arith

error_is : (a a' b b' x x' z z' : ℕ) → distance (a + b + x') (a' + b' + x) ≡ distance (a + (x' + z) + (b + z')) (a' + (x + z') + (b' + z))
error_is a a' b b' x x' z z' = omega arith

module _ (k a a' b b' x x' z z' : ℕ) (A : Representable 53 (distance a a')) (B : Representable 53 (distance b b')) (ka : distance a a' ≤ k) (kb : distance b b' ≤ k)
    (rx : Rounded 53 (a + b) (a' + b') x x') (rz : Rounded 53 (x + a') (x' + a) z z') where
  P : 0 < 53
  P = lit< tt

  X : Representable 53 (distance x x')
  X = rounded_representable 53 P (a + b) (a' + b') x x' rx

  -- a has 53 digits and is within k of a + b, so x is no further from it; likewise x of x - a, so z
  near_x : Within k (x + (a' + b')) (x' + (a + b))
  near_x = rounded_near 53 P (a + b) (a' + b') x x' a a' k rx A (omega arith)

  near_z : Within k (z + (x' + a)) (z' + (x + a'))
  near_z = rounded_near 53 P (x + a') (x' + a) z z' x x' k rz X (omega arith)

  steps : Knuth k (dif a a') (dif b b') (dif x x') (dif z z')
  steps =
      let h = both 53 P a a' b b' x x' z z' A B rx rz in
      record {
        sum_cap = simp (differences, nat_abs_dif) (omega arith);
        back_cap = simp (differences, nat_abs_dif) (omega (arith, near_x));
        x_less_z = simp differences (exactly (k + k) _ _ h.0 (omega (arith, near_z)));
        a_error = simp differences (exactly (k + k) _ _ (along (a_error_is a a' x x' z z') (rounded_error 53 P x x' a' a z z' X (along (omega arith) A) rz)) (omega (arith, near_z)));
        b_error = simp differences (exactly (k + k) _ _ h.1 (omega (arith, near_x, near_z)));
        error = simp differences (exactly (k + k) _ _ (along (error_is a a' b b' x x' z z') (rounded_error 53 P a a' b b' x x' A B rx)) (omega (arith, near_x)));
      }

-- x and z are named first: a rounded integer is no pair by itself
pub knuth : (k : ℕ) (a b : ℤ) → Exactly k a → Exactly k b → Knuth k a b (to_nearest 0 (a +ℤ b)) (to_nearest 0 (to_nearest 0 (a +ℤ b) -ℤ a))
knuth k a b A B = go a b (to_nearest 0 (a +ℤ b)) (to_nearest 0 (to_nearest 0 (a +ℤ b) -ℤ a)) refl refl A B
  where
    go : (a b x z : ℤ) → x ≡ to_nearest 0 (a +ℤ b) → z ≡ to_nearest 0 (x -ℤ a) → Exactly k a → Exactly k b → Knuth k a b x z
    go = all _ λ a a'. all _ λ b b'. all _ λ x x'. all _ λ z z'. λ ex ez A B.
        steps k a a' b b' x x' z z' (rw (nat_abs_dif a a') at A.digits) (rw (nat_abs_dif b b') at B.digits) (rw (nat_abs_dif a a') at A.cap) (rw (nat_abs_dif b b') at B.cap)
        (to_nearest_rounded (a + b) (a' + b') x x' (simp differences at ex)) (to_nearest_rounded (x + a') (x' + a) z z' (simp differences at ez))
