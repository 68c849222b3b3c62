-- Document 01, "Questions put to the input": the second, and those put to lists of numbers, which are the sixth's first half, the seventh, the
-- eighth, the tenth and the twelfth. A name that ends in At is the test at one place. Assumes nothing.
use Rattle.std.specs.Prelude.{Bool, true, false, not, ◌&&◌, List, ℕ, leb, ltb, length, get_or, Float}
use Rattle.std.specs.Float.{nan, inf, binary64}
use Rattle.std.specs.Float.Ieee.{mul, le, ne}
use Rattle.std.specs.Float.Ieee.Scale.{finite}
use Rattle.exact.specs.Value.{sign}
use Rattle.questions.specs.Limits.{most_rows, most_structurals, most_entries}
use Rattle.loops.specs.Places.{all_below}

-- ---- 2. "Are there 1 to 128 rows, 0 to 256 structural variables, at most 4,096 entries?"
unfoldable pub sizes_fine : ℕ → ℕ → ℕ → Bool
sizes_fine rows structurals entries = leb 1 rows && leb rows most_rows && leb structurals most_structurals && leb entries most_entries

-- ---- 6. "Are entries and right sides finite, …
abbrev pub finite_at : List Float → ℕ → Bool
finite_at xs k = finite (get_or xs k nan)

unfoldable pub all_finite : List Float → Bool
all_finite xs = all_below (length xs) (finite_at xs)

-- ---- 7. "Is no bound NaN, min ≤ max, min not +infinity, max not −infinity?", of one variable: of a NaN `le` is false
unfoldable pub range_fine : Float → Float → Bool
range_fine min max = le min max && ne min (inf false) && ne max (inf true)

abbrev pub range_fine_at : List Float → List Float → ℕ → Bool
range_fine_at mins maxs v = range_fine (get_or mins v nan) (get_or maxs v nan)

unfoldable pub bounds_fine : List Float → List Float → Bool
bounds_fine mins maxs = all_below (length mins) (range_fine_at mins maxs)

-- ---- 8. "Are tolerances, feasibility and scales finite with the sign bit clear (so no −0), …
unfoldable pub plain : Float → Bool
plain x = finite x && not (sign x)

abbrev pub plain_at : List Float → ℕ → Bool
plain_at xs k = plain (get_or xs k nan)

unfoldable pub all_plain : List Float → Bool
all_plain xs = all_below (length xs) (plain_at xs)

-- … and each feasibility times scale finite?"
abbrev pub product_finite_at : Float → List Float → ℕ → Bool
product_finite_at feasibility scales r = finite (mul binary64 feasibility (get_or scales r nan))

unfoldable pub tolerances_fine : Float → List Float → List Float → List Float → Bool
tolerances_fine feasibility scales low high =
    all_plain low && all_plain high && plain feasibility && all_plain scales && all_below (length scales) (product_finite_at feasibility scales)

-- ---- 10. "Are all values finite?" is `all_finite`

-- ---- 12. "Is the leaving row below the row count?"
unfoldable pub leaving_row_fine : ℕ → ℕ → Bool
leaving_row_fine rows leaving_row = ltb leaving_row rows
