-- What the theorems ask of rows and ranges, and that those of an accepted sheet have it. Assumes nothing.
use mathlib.Core.Path.{◌≡◌}
use mathlib.Core.Bool.{true, false, not}
use Prim.Native.Nat.{ℕ, ◌<◌}
use lib.Dec.{T}
use lib.ListN.{length, get_or}
use lib.Ieee.{Float, nan, inf, binary64, fits, is_nan, le}
use lib.Ieee.Scale.{finite}
use Rattle.gaps.specs.Rows.{Rows, Ranges}

-- a range, neither empty nor beyond every number
pub record SoundRange (low high : Float) : Type 0 where
  pub low_fits : T (fits binary64 low)
  pub high_fits : T (fits binary64 high)
  pub low_no_nan : T (not (is_nan low))
  pub high_no_nan : T (not (is_nan high))
  pub low_not_top : low ≡ inf false → ⊥
  pub high_not_bottom : high ≡ inf true → ⊥
  pub ordered : T (le low high)

pub record SoundRows (m : Rows) : Type 0 where
  pub inside : (r : ℕ) → r < m.count → (k : ℕ) → k < length (m.columns r) → get_or (m.columns r) k 0 < m.variables
  pub entry-finite : (r : ℕ) → r < m.count → (k : ℕ) → k < length (m.columns r) → T (finite (get_or (m.entries r) k nan))
  pub right_side-finite : (r : ℕ) → r < m.count → T (finite (m.right_sides r))

abbrev pub SoundRanges : ℕ → Ranges → Type 0
SoundRanges variables g = (v : ℕ) → v < variables → SoundRange (g.low v) (g.high v)
