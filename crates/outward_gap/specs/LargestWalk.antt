-- The walk over a window of variables that adds up the largest value, a step on a running sum that is handed in. Assumes nothing.
use Rattle.std.specs.Prelude.{false, cond, List, ℕ, zero, suc, get_or, Float, Option, Some, None}
use Rattle.std.specs.Float.{nan, inf}
use Rattle.loops.specs.Places.{all_below}
use Rattle.gaps.specs.Rows.{Ranges}
use Rattle.gaps.specs.Steps.{limited, limited_at, with_term}

-- a variable with these ends of its coefficient and of its range: the sum with its term, unless it is not limited
unfoldable pub stepped : Float → Float → Float → Float → Float → Option Float
stepped l u low high sum = cond (limited l u low high) (Some (with_term l u low high sum)) None

-- the sum after the first n variables
unfoldable pub largest_on : Float → (ℕ → Float) → (ℕ → Float) → Ranges → ℕ → Float
largest_on sum lower upper g zero = sum
largest_on sum lower upper g (suc n) = with_term (lower n) (upper n) (g.low n) (g.high n) (largest_on sum lower upper g n)

-- +infinity where one of them is not limited
unfoldable pub largest_or_infinite : Float → (ℕ → Float) → (ℕ → Float) → Ranges → ℕ → Float
largest_or_infinite sum lower upper g n = cond (all_below n (limited_at lower upper g)) (largest_on sum lower upper g n) (inf false)

-- the ends of the coefficients, as a list has them
abbrev pub at : List Float → ℕ → Float
at xs v = get_or xs v nan
