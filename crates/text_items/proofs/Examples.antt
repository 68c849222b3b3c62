-- What some items read as, by computation. Assumes nothing.
use mathlib.Core.Path.{◌≡◌, refl}
use lib.Ieee.{nan, binary64, of_bits}
use Rattle.std.specs.Prelude.{None, Some}
use Rattle.text_items.specs.Text.{bytes}
use Rattle.text_items.specs.Words.{expect}
use Rattle.text_items.specs.Numbers.{digit_at, digits, at_least_one, number, double, count}
use Rattle.text_items.specs.Items.{double_then, count_then}

-- the digits of a double are of its lowest bits
one_digit : double (bytes "A ") (Some 0) ≡ record { value = of_bits binary64 10; next = Some 1 }
unfolding digit_at digits at_least_one number double
one_digit = refl

sixteen_digits : double (bytes "BFF0000000000000)") (Some 0) ≡ record { value = of_bits binary64 0xBFF0000000000000; next = Some 16 }
unfolding digit_at digits at_least_one number double
sixteen_digits = refl

a_nan : double (bytes "7FFFFFFFFFFFFFFF") (Some 0) ≡ record { value = nan; next = Some 16 }
unfolding digit_at digits at_least_one number double of_bits
a_nan = refl

-- a seventeenth digit is not read, so the word after a double does not stand where it must
seventeen_digits : (double_then (bytes "00000000000000000 ") (Some 0) (bytes " ")).next ≡ None
unfolding digit_at digits at_least_one number double expect
seventeen_digits = refl

-- a digit must be there, and small letters are none
no_digit : (double (bytes " 0") (Some 0)).next ≡ None
unfolding digit_at digits at_least_one number double
no_digit = refl

small_letter : (double (bytes "a") (Some 0)).next ≡ None
unfolding digit_at digits at_least_one number double
small_letter = refl

-- counts are decimal, and of at most 5 digits
five_digits : count (bytes "(00128 ") (Some 1) ≡ record { value = 128; next = Some 6 }
unfolding digit_at digits at_least_one number
five_digits = refl

six_digits : (count_then (bytes "000128 ") (Some 0) (bytes " ")).next ≡ None
unfolding digit_at digits at_least_one number expect
six_digits = refl

-- a word at the end of a text, and one that the text ends in
whole_word : expect (bytes "(row") (Some 0) (bytes "(row") ≡ Some 4
unfolding expect
whole_word = refl

cut_word : expect (bytes "(ro") (Some 0) (bytes "(row") ≡ None
unfolding expect
cut_word = refl
