-- `band_edge`: 01, "`band_edge` with tolerance at least 0 and a finite bound steps back at most one double". Assumes nothing.
use Rattle.std.specs.Prelude.{◌≡◌, Bool, false, cond, ℕ, zero, suc, T, Float}
use Rattle.std.specs.Float.Ieee.{lt, le}
use Rattle.std.specs.Float.Ieee.Scale.{finite}
use Rattle.doubles.specs.Neighbours.{next_up, next_down}
use Rattle.doubles.specs.Compare.{absolute}
use Rattle.cdouble.specs.Compensated.{◌⊕◌, ◌⊖◌}

-- where the Rust's loop starts: the bound and the tolerance, above it or below
unfoldable pub band_start : Float → Float → Bool → Float
band_start bound tol up = cond up (bound ⊕ tol) (bound ⊖ tol)

-- the loop's test, that the edge is too far from the bound
unfoldable pub too_far : Float → Float → Float → Bool
too_far bound tol edge = lt tol (absolute (edge ⊖ bound))

-- its step back, toward the bound
unfoldable pub step_back : Bool → Float → Float
step_back up edge = cond up (next_down edge) (next_up edge)

-- the Rust's loop, left after n turns where it has not ended by then
unfoldable pub turns : ℕ → Float → Float → Bool → Float → Float
turns zero bound tol up edge = edge
turns (suc n) bound tol up edge = cond (too_far bound tol edge) (turns n bound tol up (step_back up edge)) edge

-- `band_edge`: one turn. With a tolerance below 0 and a finite bound the Rust's loop does not end
unfoldable pub band_edge : Float → Float → Bool → Float
band_edge bound tol up = turns 1 bound tol up (band_start bound tol up)

-- what is promised of it, of a tolerance at least 0 and a finite bound: the Rust's loop has ended there, for its test is false of it; it has
-- stepped back at most once, and more turns would change nothing; it lies on the outer side of the bound or on it; and it is finite where the
-- tolerance is
pub record IsBandEdge (bound tol : Float) (up : Bool) (edge : Float) : Type 0 where
  pub ended : too_far bound tol edge ≡ false
  pub ends : (n : ℕ) → turns (suc n) bound tol up (band_start bound tol up) ≡ edge
  pub outer : T (cond up (le bound edge) (le edge bound))
  pub keeps_finite : T (finite tol) → T (finite edge)
