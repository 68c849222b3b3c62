-- The neighbours of a double by its sign and its rank: away from 0 the next rank, towards 0 the one before. Assumes nothing.
use mathlib.Core.Path.{◌≡◌, refl, ap, ap₂, ◌∙◌}
use mathlib.Core.Bool.{Bool, true, false, not, cond}
use Prim.Native.Nat.{ℕ, suc, ◌<◌, min}
use native.Mathlib.Nat.{le_of_lt}
use native.Mathlib.Omega.{arith}
use lib.Dec.{T, lit<}
use lib.Ieee.{Float, nan, inf, fin, neg}
use lib.Ieee.Scale.{finite}
use Rattle.exact.specs.Value.{magnitude}
use Rattle.rank_arithmetic.specs.Rank.{rank, infinity, double}
use Rattle.rank_arithmetic.proofs.Grid.{rank_at_rank}
use Rattle.doubles.specs.Neighbours.{next_up, next_down}
use Rattle.doubles.proofs.Patterns.{rank_of, finite_no_nan, exact_double, magnitude_double, double_sign, double_fits, neg_double}
use Rattle.doubles.proofs.Next.{next_mirror}
use Rattle.doubles.proofs.Steps.{step_up, next_step}

abbrev pub neighbour : Bool → Float → Float
neighbour up x = cond up (next_up x) (next_down x)

pub rank_finite : (x : Float) → T (finite x) → rank_of x ≡ rank 52 (magnitude x)
rank_finite nan f = absurd f
rank_finite (inf s) f = absurd f
rank_finite (fin s m e) f = refl

rank_double : (s : Bool) (r : ℕ) → r < infinity → rank_of (double s r) ≡ r
rank_double s r h = rank_finite (double s r) (exact_double s r h).0 ∙ ap (rank 52) (magnitude_double s r h) ∙ rank_at_rank 52 r

up_is : (s : Bool) (r : ℕ) → r < infinity → next_up (double s r) ≡ step_up s r
up_is s r h =
    next_step (double s r) (finite_no_nan (double s r) (exact_double s r h).0) (double_fits s r)
    ∙ ap₂ step_up (double_sign s r (le_of_lt h)) (rank_double s r h)

down_is : (s : Bool) (r : ℕ) → r < infinity → next_down (double s r) ≡ neg (step_up (not s) r)
down_is s r h = next_mirror (double s r) ∙ ap (λ (x : Float). neg (next_up x)) (neg_double s r (omega arith)) ∙ ap neg (up_is (not s) r h)

step : (r : ℕ) → r < infinity → step_up false r ≡ double false (suc r)
step r h = ap (double false) (least r h)
  where
    least : (r : ℕ) → r < infinity → min (suc r) infinity ≡ suc r
    least r h = omega arith

pub away : (s : Bool) (r : ℕ) → r < infinity → neighbour (not s) (double s r) ≡ double s (suc r)
away false r h = up_is false r h ∙ step r h
away true r h = down_is true r h ∙ ap neg (step r h) ∙ neg_double false (suc r) (omega arith)

pub toward : (s : Bool) (p : ℕ) → suc p < infinity → neighbour s (double s (suc p)) ≡ double s p
toward true p h = up_is true (suc p) h
toward false p h = down_is false (suc p) h ∙ neg_double true p (omega arith)

-- below +0, past 0
pub below_zero : next_down (double false 0) ≡ double true 1
below_zero = down_is false 0 (lit< tt) ∙ neg_double false 1 (lit< tt)
