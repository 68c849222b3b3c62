-- Rounding outward: document 01, "Doubles and their neighbours", the paragraph "Added". Assumes nothing.
use Rattle.std.specs.Prelude.{◌≡◌, Bool, true, false, not, ℕ, zero, suc, min, ℤ, pos, negsuc, ◌+ℤ◌, ◌*ℤ◌, T, Float}
use Rattle.std.specs.Float.{nan, inf, fin, binary64}
use Rattle.std.specs.Float.Ieee.{mul, fits, is_nan}
use Rattle.std.specs.Float.Ieee.Scale.{finite}
use Rattle.exact.specs.Value.{exact, exact_at}
use Rattle.exact.specs.Integers.{◌≼◌}
use Rattle.rank_arithmetic.specs.Rank.{rank_down, rank_up, largest, infinity, double}

-- the same double, a zero taken with the sign s
abbrev pub with_zero : Bool → Float → Float
with_zero s nan = nan
with_zero s (inf t) = inf t
with_zero s (fin t zero e) = fin s zero e
with_zero s (fin t (suc m) e) = fin t (suc m) e

-- z / 2 ^ l units "rounded up is the least double not below the exact value". "A zero answer is +0. Up, past the largest double MAX, gives +infinity;
-- below −MAX, −MAX"
unfoldable pub round_up : ℕ → ℤ → Float
round_up l (pos n) = double false (min (rank_up 52 l n) infinity)
round_up l (negsuc n) = with_zero false (double true (min (rank_down 52 l (suc n)) largest))

-- "rounded down, the greatest not above"; "down mirrors this"
unfoldable pub round_down : ℕ → ℤ → Float
round_down l (pos n) = double false (min (rank_down 52 l n) largest)
round_down l (negsuc n) = with_zero false (double true (min (rank_up 52 l (suc n)) infinity))

-- what these mean: d is the least double not below z / 2 ^ l units, +infinity where there is none …
pub record IsUp (l : ℕ) (z : ℤ) (d : Float) : Type 0 where
  pub fit : T (fits binary64 d)
  pub no_nan : T (not (is_nan d))
  pub no_other : d ≡ inf true → ⊥
  pub not_below : T (finite d) → z ≼ exact_at l d
  pub least : (x : Float) → T (finite x) → T (fits binary64 x) → z ≼ exact_at l x → T (finite d) × (exact d ≼ exact x)

-- … and the greatest not above them, −infinity where there is none
pub record IsDown (l : ℕ) (z : ℤ) (d : Float) : Type 0 where
  pub fit : T (fits binary64 d)
  pub no_nan : T (not (is_nan d))
  pub no_other : d ≡ inf false → ⊥
  pub not_above : T (finite d) → exact_at l d ≼ z
  pub greatest : (x : Float) → T (finite x) → T (fits binary64 x) → exact_at l x ≼ z → T (finite d) × (exact x ≼ exact d)

-- a running sum a and what is added to it: "An infinite running sum stays infinite", whatever is added. A NaN stays a NaN;
-- to a finite sum a NaN or an infinity adds itself
unfoldable pub sum_with : (ℤ → Float) → Float → Float → Float
sum_with rounded nan b = nan
sum_with rounded (inf s) b = inf s
sum_with rounded (fin s m e) nan = nan
sum_with rounded (fin s m e) (inf t) = inf t
sum_with rounded (fin s m e) (fin t n d) = rounded (exact (fin s m e) +ℤ exact (fin t n d))

-- a sum is a whole number of units, and a product one of 2 ^ -1074 of them
abbrev pub sum_up : Float → Float → Float
sum_up = sum_with (round_up 0)

abbrev pub sum_down : Float → Float → Float
sum_down = sum_with (round_down 0)

-- a product: where a factor is not finite, IEEE 754's, which is a NaN or an infinity
unfoldable pub product_with : (ℤ → Float) → Float → Float → Float
product_with rounded nan b = mul binary64 nan b
product_with rounded (inf s) b = mul binary64 (inf s) b
product_with rounded (fin s m e) nan = mul binary64 (fin s m e) nan
product_with rounded (fin s m e) (inf t) = mul binary64 (fin s m e) (inf t)
product_with rounded (fin s m e) (fin t n d) = rounded (exact (fin s m e) *ℤ exact (fin t n d))

abbrev pub product_up : Float → Float → Float
product_up = product_with (round_up 1074)

abbrev pub product_down : Float → Float → Float
product_down = product_with (round_down 1074)
