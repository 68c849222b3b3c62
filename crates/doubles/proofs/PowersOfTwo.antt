-- The test for a power of two is true of the powers of two and of no other number, and so is the library's, which counts the digits that are set. Assumes nothing.
use mathlib.Core.Path.{◌≡◌, refl, ap, ◌∙◌, subst}
use mathlib.Core.Logic.{◌↔◌, inl, inr}
use Prim.Native.Nat.{ℕ, zero, suc, ◌+◌, ◌-◌, ◌*◌, ◌/◌, ◌%◌, ◌^◌, ◌≤◌}
use native.Mathlib.Nat.{le_refl, two-pow-succ}
use native.Mathlib.Omega.{arith}
use lib.Count.{ones, ones_step, ones_cat, ones-le}
use lib.Ieee.{size}
use Rattle.exact.proofs.Compare.{same_bool}
use Rattle.rank_arithmetic.proofs.Widths.{size_shl}
use lib.Dec.{lit<, T, eqb, eqb→eq, eqb_refl}
use lib.Pow.{pow_pos}
use Rattle.std.specs.Int.{is_power_of_two, IsPowerOfTwo}
use Rattle.std.proofs.lemmas.Nat.{zero_from_ones}
use Rattle.exact.proofs.Naturals.{le_or_lt}

ones_power : (j : ℕ) → ones (2 ^ j) ≡ 1
unfolding ones
ones_power j = ap ones (alone (2 ^ j)) ∙ ones_cat j 1 0 (pow_pos j)
  where
    alone : (p : ℕ) → p ≡ 1 * p + 0
    alone p = omega arith

size_one : size 1 ≡ 1
unfolding size
size_one = refl

-- the number is halved until its one digit is the lowest
halved : (d n : ℕ) → n ≤ d → ones n ≡ 1 → IsPowerOfTwo n
halved zero n h e = absurd (omega (arith, e, ones-le 0 n (omega arith)))
halved (suc d) n h e = elim (le_or_lt (n % 2) 0) [
  | inl even ↦
      let k = halved d (n / 2) (omega arith) (omega (arith, e, ones_step n)) in
      (suc k.0, omega (arith, k.1, two-pow-succ k.0))
  | inr odd ↦ (0, omega (arith, zero_from_ones (n / 2) (omega (arith, ones_step n))))
]

pub power_of_two : (n : ℕ) → T (eqb n (2 ^ (size n - 1))) ↔ IsPowerOfTwo n
power_of_two n = (λ t. (size n - 1, eqb→eq n (2 ^ (size n - 1)) t), λ k. subst (λ (m : ℕ). T (eqb n m)) (k.1 ∙ ap (λ (i : ℕ). 2 ^ i) (exponent k.0 (ap size k.1))) (eqb_refl n))
  where
    alone : (p : ℕ) → p ≡ 1 * p
    alone p = omega arith

    exponent : (k : ℕ) → size n ≡ size (2 ^ k) → k ≡ size n - 1
    exponent k e = omega (arith, e, ap size (alone (2 ^ k)), size_shl 1 k (lit< tt), size_one)

pub counted : (n : ℕ) → eqb n (2 ^ (size n - 1)) ≡ is_power_of_two n
counted n = same_bool (eqb n (2 ^ (size n - 1))) (is_power_of_two n)
    (λ t. let k = (power_of_two n).0 t in rw (ap ones k.1 ∙ ones_power k.0) (eqb_refl 1))
    (λ t. (power_of_two n).1 (halved n n (le_refl n) (eqb→eq (ones n) 1 t)))
