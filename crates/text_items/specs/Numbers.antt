-- The numbers of the sheet: document 01, "The sheet". A number is read at a position of the text's bytes, and comes with the position after
-- it. Assumes nothing.
use Rattle.std.specs.Prelude.{ℕ, zero, suc, ◌+◌, ◌*◌, List, cond, Option, None, Some, option_and_then, slice_get, Float, ltb, eqb}
use Rattle.std.specs.Float.{binary64}
use Rattle.std.specs.Float.Ieee.{of_bits}
use Rattle.hex_digits.specs.Digit.{digit_of}
use Rattle.text_items.specs.declared.words.Item.{Item}

-- the value of one of the "digits 0-9A-F" if it is below the radix
abbrev pub below : ℕ → Option ℕ → Option ℕ
below radix None = None
below radix (Some d) = cond (ltb d radix) (Some d) None

-- the value of the digit of a radix that stands at a position
unfoldable pub digit_at : List ℕ → ℕ → ℕ → Option ℕ
digit_at text radix position = below radix (option_and_then digit_of (slice_get text position))

-- at most `left` digits of a radix, after those that gave `value`: the number that they spell, and the position after them
unfoldable pub digits : List ℕ → ℕ → ℕ → ℕ → ℕ → ℕ × ℕ
digits text radix zero value position = (value, position)
digits text radix (suc left) value position =
    elim (digit_at text radix position) [
      | None ↦ (value, position)
      | Some digit ↦ digits text radix left (value * radix + digit) (position + 1)
    ]

-- digits of which there must be at least one
unfoldable pub at_least_one : ℕ → ℕ × ℕ → Item ℕ
at_least_one position read = record { value = read.0; next = cond (eqb read.1 position) None (Some read.1) }

-- one to `most` digits of a radix
unfoldable pub number : List ℕ → Option ℕ → ℕ → ℕ → Item ℕ
number text None radix most = record { value = 0; next = None }
number text (Some position) radix most = at_least_one position (digits text radix most 0 position)

-- "Doubles are 1 to 16 hexadecimal digits 0-9A-F of their bits"; every pattern of a NaN gives the one NaN
unfoldable pub double : List ℕ → Option ℕ → Item Float
double text position =
    record { value = of_bits binary64 (number text position 16 16).value; next = (number text position 16 16).next }

-- "counts are decimal, 1 to 5 digits"
abbrev pub count : List ℕ → Option ℕ → Item ℕ
count text position = number text position 10 5
