-- The count of decimal digits. Assumes nothing.
use mathlib.Core.Path.{◌≡◌, ap}
use mathlib.Core.Bool.{Bool, true, false, cond}
use Prim.Native.Nat.{ℕ, zero, suc, ◌+◌, ◌*◌, ◌^◌, ◌/◌, ◌<◌, ◌≤◌}
use native.Mathlib.Nat.{pow-suc, one-le-pow, max-eq_left}
use native.Mathlib.Omega.{arith}
use borrow.Author.Tests.{lt-ltb, le-ltb}
use lib.Dec.{ltb}
use Rattle.std.specs.Prelude.{max}
use Rattle.printer.specs.Digits.{digit_count}

-- as many digits as the power of ten below, and one more
power_counted : (most n k : ℕ) → k ≤ most → 10 ^ k ≤ n → n < 10 * 10 ^ k → digit_count most n ≡ suc k
unfolding digit_count
power_counted zero n k h low high = omega arith
power_counted (suc most) n zero h low high = let z : n < 10 = omega arith in rw (lt-ltb n 10 z)
power_counted (suc most) n (suc k) h low high =
    let low' : 10 ^ k * 10 ≤ n = rw (pow-suc 10 k) at low in
    let high' : n < 10 * (10 ^ k * 10) = rw (pow-suc 10 k) at high in
    let one : 1 ≤ 10 ^ k = one-le-pow k 10 (omega arith) in
    let more : 10 ≤ n = omega arith in
    rw (le-ltb n 10 more) (ap suc (power_counted most (n / 10) k (omega arith) (omega arith) (omega arith)))

pub digits_counted : (n k : ℕ) → k < 20 → 10 ^ k ≤ max n 1 → max n 1 < 10 * 10 ^ k → k + 1 ≡ digit_count 19 n
unfolding digit_count
digits_counted zero k h low high = omega (arith, power_counted 19 1 k (omega arith) low high)
digits_counted (suc n) k h low high =
    let e : max (suc n) 1 ≡ suc n = max-eq_left (omega arith) in
    omega (arith, power_counted 19 (suc n) k (omega arith) (rw e at low) (rw e at high))

chosen_at_most : (b : Bool) (k m n : ℕ) → m ≤ k → n ≤ k → cond b m n ≤ k
chosen_at_most true k m n h i = h
chosen_at_most false k m n h i = i

pub digits_at_most : (most n : ℕ) → digit_count most n ≤ suc most
unfolding digit_count
digits_at_most zero n = omega arith
digits_at_most (suc most) n =
    chosen_at_most (ltb n 10) _ 1 _ (omega arith) (omega (arith, digits_at_most most (n / 10)))
