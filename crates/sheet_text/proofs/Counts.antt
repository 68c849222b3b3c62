-- Counts of at most five digits are small: those of a text's first line, whose sum is reckoned. Assumes nothing.
use mathlib.Core.Path.{◌≡◌, refl, ap}
use mathlib.Core.List.{List}
use Prim.Native.Nat.{ℕ, zero, suc, ◌+◌, ◌*◌, ◌^◌, ◌<◌}
use native.Mathlib.Nat.{pow-succ', mul_assoc, one-le-pow, mul-le-mul_left, lt_of_lt_of_le}
use native.Mathlib.Omega.{arith}
use Rattle.std.specs.Prelude.{Option, None, Some}
use Rattle.text_items.specs.Numbers.{digit_at, digits, at_least_one, number, count}
use Rattle.text_items.proofs.Digits.{digit_within}
use Rattle.text_lines.specs.declared.heading_line.Heading.{Heading}
use Rattle.text_lines.specs.Heading.{heading}

-- a digit more, or none, where n more are few enough
digit_below : (text : List ℕ) (n v position k : ℕ) → v < k → (o : Option ℕ) → digit_at text 10 position ≡ o
    → ((d : ℕ) → v * 10 + d < k * 10 → (digits text 10 n (v * 10 + d) (position + 1)).0 < k * 10 * 10 ^ n) → (digits text 10 (suc n) v position).0 < k * 10 ^ suc n
unfolding digits
digit_below text n v position k h None e more = rw (e, digits) (omega (arith, mul-le-mul_left k (one-le-pow (suc n) 10 (omega arith))))
digit_below text n v position k h (Some d) e more =
    rw (e, digits)
    (lt_of_lt_of_le (more d (omega (arith, digit_within text 10 position d e)))
    (omega (arith, mul_assoc k 10 (10 ^ n), pow-succ' 10 n, ap (λ (x : ℕ). k * x) (pow-succ' 10 n))))

-- n digits more
digits_below : (text : List ℕ) (n v position k : ℕ) → v < k → (digits text 10 n v position).0 < k * 10 ^ n
unfolding digits
digits_below text zero v position k h = omega arith
digits_below text (suc n) v position k h =
    digit_below text n v position k h (digit_at text 10 position) refl (λ d w. digits_below text n (v * 10 + d) (position + 1) (k * 10) w)

pub count_below : (text : List ℕ) (position : Option ℕ) → (count text position).value < 100000
unfolding number at_least_one
count_below text None = omega arith
count_below text (Some position) = digits_below text 5 0 position 1 (omega arith)

pub heading_below : (text : List ℕ) {head : Heading} → head ≡ heading text → (head.rows < 100000) × (head.structurals < 100000)
unfolding heading
heading_below text e = rw e (count_below text _, count_below text _)
