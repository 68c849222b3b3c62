-- Printed numbers, by computation: the counts 0, 305 and the largest of 64 bits, the double 39F8000000000000, and NaN. Assumes nothing.
use mathlib.Core.Path.{◌≡◌, refl}
use mathlib.Core.List.{[], ◌∷◌}
use lib.ListN.{length, replicate}
use lib.Ieee.{nan, of_bits, to_bits, binary64}
use Rattle.printer.specs.Digits.{digits, digit_count, hexadecimal, decimal}

none : decimal 0 ≡ 48 ∷ []
unfolding digits digit_count
none = refl

some : decimal 305 ≡ 51 ∷ 48 ∷ 53 ∷ []
unfolding digits digit_count
some = refl

most : length (decimal 18446744073709551615) ≡ 20
unfolding digits digit_count
most = refl

allowance : hexadecimal (of_bits binary64 0x39F8000000000000) ≡ 51 ∷ 57 ∷ 70 ∷ 56 ∷ replicate 12 48
unfolding digits to_bits of_bits
allowance = refl

no_number : hexadecimal nan ≡ 55 ∷ 70 ∷ 70 ∷ 56 ∷ replicate 12 48
unfolding digits to_bits
no_number = refl
