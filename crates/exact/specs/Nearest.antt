-- IEEE 754's rounding to nearest, ties to even, on whole numbers of units of 2 ^ -1074. Assumes nothing.
-- A finite result of an operation of `lib.Ieee` is its exact value rounded so: laws in proofs/Operations.antt.
use Rattle.std.specs.Prelude.{◌≡◌, Bool, true, false, ℕ, suc, ◌-◌, ◌*◌, ◌/◌, ◌^◌, ◌≤◌, ◌<◌, ℤ, pos, negsuc, neg_ℤ, nat_abs, T, Float}
use Rattle.std.specs.Float.{inf, binary64}
use Rattle.std.specs.Float.Ieee.{size}
use Rattle.std.specs.Float.Ieee.Nearest.{closest}
use Rattle.std.specs.Float.Ieee.Scale.{finite, overflow}
use Rattle.exact.specs.Value.{exact}

-- n / 2 ^ l units to p binary digits: the multiple of 2 ^ k nearest to it, at a tie the even one, where k is how many digits its whole part has beyond p.
-- At k = 0 it is the nearest whole number of units, so that subnormals need no case.
unfoldable pub nearest_units : ℕ → ℕ → ℕ → ℕ
nearest_units p l n = let k = size (n / 2 ^ l) - p in closest n (2 ^ l * 2 ^ k) * 2 ^ k

-- z / 2 ^ l units to the 53 digits of a double
unfoldable pub to_nearest : ℕ → ℤ → ℤ
to_nearest l (pos n) = pos (nearest_units 53 l n)
to_nearest l (negsuc n) = neg_ℤ (pos (nearest_units 53 l (suc n)))

-- the sign of an infinity that a number comes to
abbrev pub below_zero : ℤ → Bool
below_zero (pos n) = false
below_zero (negsuc n) = true

-- d is z / 2 ^ l units rounded to nearest: an infinity where that comes to 2 ^ 1024 or more
pub record IsNearest (l : ℕ) (z : ℤ) (d : Float) : Type 0 where
  pub within : nat_abs (to_nearest l z) < overflow binary64 → T (finite d) × (exact d ≡ to_nearest l z)
  pub beyond : overflow binary64 ≤ nat_abs (to_nearest l z) → d ≡ inf (below_zero z)
