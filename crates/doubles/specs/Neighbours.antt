-- The neighbours of a double, as Rust's `f64::next_up` and `f64::next_down` give them. Assumes nothing.
use Rattle.std.specs.Prelude.{◌≡◌, true, false, not, pos, negsuc, ◌+ℤ◌, T, Float}
use Rattle.std.specs.Float.{nan, inf, fin, binary64}
use Rattle.std.specs.Float.Ieee.{fits, is_nan}
use Rattle.std.specs.Float.Ieee.Scale.{finite}
use Rattle.exact.specs.Value.{exact, exact_at}
use Rattle.exact.specs.Integers.{◌≼◌, ◌≺◌}
use Rattle.rank_arithmetic.specs.Rank.{largest, double}
use Rattle.doubles.specs.Directed.{with_zero, round_down, round_up}

-- the least double above x is the least that is not below x and half a unit. It is +infinity past MAX, and stays there.
-- A zero answer is −0, as in Rust: it comes from below
unfoldable pub next_up : Float → Float
next_up nan = nan
next_up (inf true) = double true largest
next_up (inf false) = inf false
next_up (fin s m e) = with_zero true (round_up 1 (exact_at 1 (fin s m e) +ℤ pos 1))

-- the greatest double below x is the greatest that is not above x less half a unit
unfoldable pub next_down : Float → Float
next_down nan = nan
next_down (inf true) = inf true
next_down (inf false) = double false largest
next_down (fin s m e) = round_down 1 (exact_at 1 (fin s m e) +ℤ negsuc 0)

-- what these mean: d is the least double above x, +infinity where there is none …
pub record IsNextUp (x d : Float) : Type 0 where
  pub fit : T (fits binary64 d)
  pub no_nan : T (not (is_nan d))
  pub no_other : d ≡ inf true → ⊥
  pub above : T (finite d) → exact x ≺ exact d
  pub least : (y : Float) → T (finite y) → T (fits binary64 y) → exact x ≺ exact y → T (finite d) × (exact d ≼ exact y)

-- … and the greatest below x, −infinity where there is none
pub record IsNextDown (x d : Float) : Type 0 where
  pub fit : T (fits binary64 d)
  pub no_nan : T (not (is_nan d))
  pub no_other : d ≡ inf false → ⊥
  pub below : T (finite d) → exact d ≺ exact x
  pub greatest : (y : Float) → T (finite y) → T (fits binary64 y) → exact y ≺ exact x → T (finite d) × (exact y ≼ exact d)
