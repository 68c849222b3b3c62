-- How many bytes a printed number takes. Assumes nothing.
use mathlib.Core.Path.{◌≡◌, refl, ◌∙◌}
use Prim.Native.Nat.{ℕ, zero, suc, ◌/◌, ◌≤◌}
use native.Mathlib.Omega.{arith}
use lib.Ieee.{Float, to_bits, binary64}
use lib.ListN.{length, length-append}
use Rattle.printer.specs.Digits.{digits, digit_count, hexadecimal, decimal}
use Rattle.printer.proofs.Numbers.{digits_at_most}

pub length_digits : (radix width n : ℕ) → length (digits radix width n) ≡ width
unfolding digits
length_digits radix zero n = refl
length_digits radix (suc width) n = length-append (digits radix width (n / radix)) _ ∙ rw (length_digits radix width (n / radix)) (omega arith)

pub length-hexadecimal : (v : Float) → length (hexadecimal v) ≡ 16
length-hexadecimal v = length_digits 16 16 (to_bits binary64 v)

pub length-decimal : (n : ℕ) → length (decimal n) ≡ digit_count 19 n
length-decimal n = length_digits 10 (digit_count 19 n) n

pub decimal_short : (n : ℕ) → length (decimal n) ≤ 20
decimal_short n = omega (arith, length-decimal n, digits_at_most 19 n)
