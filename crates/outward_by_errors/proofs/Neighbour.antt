-- Of a normal number neither neighbour is 0. Assumes nothing.
use mathlib.Core.Path.{◌≡◌, sym, subst}
use mathlib.Core.Bool.{Bool, true, false, not, cond}
use Prim.Native.Nat.{ℕ, suc, ◌-◌, ◌≤◌, ◌<◌, ◌^◌}
use native.Mathlib.Omega.{arith}
use lib.Dec.{T}
use lib.Ieee.{Float, binary64, fits}
use Rattle.exact.specs.Value.{sign}
use Rattle.rank_arithmetic.specs.Rank.{infinity, double}
use Rattle.doubles.proofs.Patterns.{rank_of, pattern, ranked, finite_no_nan}
use Rattle.doubles.proofs.Zero.{with_zero_rank}
use Rattle.doubles.proofs.NextRank.{neighbour, away, toward}
use Rattle.adjacent.specs.Fields.{Normal}
use Rattle.doubles.proofs.FirstCase.{normal_rank}
use Rattle.outward_by_errors.specs.Far.{NotMinusZero}

nonzero : (s : Bool) (r : ℕ) → 0 < r → r ≤ infinity → NotMinusZero (double s r)
nonzero s r p l = with_zero_rank false s r p l

next_nonzero : (up s : Bool) (p : ℕ) → 1 < p → p < infinity → NotMinusZero (neighbour up (double s p))
next_nonzero up s p g l = go up s
  where
    further : (s : Bool) → NotMinusZero (neighbour (not s) (double s p))
    further s = rw (away s p l) (nonzero s (suc p) (omega arith) (omega (arith, l)))

    nearer : (s : Bool) → NotMinusZero (neighbour s (double s p))
    nearer s = rw (before p g, toward s (p - 1) (omega (arith, l))) (nonzero s (p - 1) (omega (arith, g)) (omega (arith, l)))
      where
        before : (p : ℕ) → 1 < p → p ≡ suc (p - 1)
        before p g = omega arith

    go : (up s : Bool) → NotMinusZero (neighbour up (double s p))
    go true true = nearer true
    go false false = nearer false
    go true false = further false
    go false true = further true

above_one : (r : ℕ) → 2 ^ 52 ≤ r → 1 < r
above_one r l = omega arith

pub stepped_no_zero : (up : Bool) (x : Float) → T (fits binary64 x) → NotMinusZero x → (step : Bool) → Normal x step → NotMinusZero (cond step (neighbour up x) x)
stepped_no_zero up x h n true C =
    let f = C.is_finite in
    subst (λ (y : Float). NotMinusZero (neighbour up y)) (sym (pattern x (finite_no_nan x f) h).same)
    (next_nonzero up (sign x) (rank_of x) (above_one (rank_of x) (normal_rank x h f (C.least tt))) (ranked x f h).small)
stepped_no_zero up x h n false C = n
