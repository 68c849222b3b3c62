-- Numbers as document 01, "The sheet", has them printed. Assumes nothing.
use Rattle.std.specs.Prelude.{cond, List, [], ◌∷◌, ◌++◌, ℕ, zero, suc, ◌+◌, ◌/◌, ◌%◌, ltb, Float}
use Rattle.std.specs.Float.{binary64}
use Rattle.std.specs.Float.Ieee.{to_bits}

-- "hexadecimal digits 0-9A-F": the byte of one, 48 is `0` and 65 is `A`
abbrev pub digit_byte : ℕ → ℕ
digit_byte d = cond (ltb d 10) (48 + d) (55 + d)

-- the last `width` digits of a number
unfoldable pub digits : ℕ → ℕ → ℕ → List ℕ
digits radix zero n = []
digits radix (suc width) n = digits radix width (n / radix) ++ (digit_byte (n % radix) ∷ [])

-- "doubles in 16 digits, NaN as 7FF8000000000000": these are the bits that `to_bits` gives every NaN
abbrev pub hexadecimal : Float → List ℕ
hexadecimal v = digits 16 16 (to_bits binary64 v)

-- how many digits a decimal number has without leading zeros, where that is at most most + 1
unfoldable pub digit_count : ℕ → ℕ → ℕ
digit_count zero n = 1
digit_count (suc most) n = cond (ltb n 10) 1 (suc (digit_count most (n / 10)))

-- "counts are decimal": no number of 64 bits has more than 20 digits
abbrev pub decimal : ℕ → List ℕ
decimal n = digits 10 (digit_count 19 n) n
