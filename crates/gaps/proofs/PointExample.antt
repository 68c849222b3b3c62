-- The points 1/3 and 2/3 lie in a range from 0 to 1 and meet 3 x + slack = 1 and = 2, by computation: a point's numbers are over its denominator.
-- Assumes nothing.
use native.Mathlib.Omega.{arith}
use mathlib.Core.Path.{refl}
use mathlib.Core.Bool.{false}
use mathlib.Core.List.{[], ◌∷◌}
use Prim.Native.Nat.{ℕ, ◌<◌}
use lib.IntN.{pos}
use lib.ListN.{get_or}
use lib.Ieee.{Float, fin}
use Rattle.exact.specs.Value.{exact, magnitude}
use Rattle.exact.specs.Integers.{Σ<}
use Rattle.gaps.specs.Rows.{Rows}
use Rattle.gaps.specs.Points.{Point, in_units, IsBelow, IsAbove, Lies, row_at, Meets}
use Rattle.gaps.proofs.Example.{whole, ranges, at_both}

-- the row 3 x + slack = b
abbrev rows : Float → Rows
rows b = record { count = 1; variables = 2; columns = λ r. 0 ∷ 1 ∷ []; entries = λ r. whole 3 ∷ whole 1 ∷ []; right_sides = λ r. b }

three_positive : 0 < 3
three_positive = omega arith

-- "A point is a list of whole numbers over one positive denominator, one for each variable": x is n/3 and the slack 0/3
abbrev thirds : ℕ → Point
thirds n = record { numbers = λ v. get_or (pos n ∷ pos 0 ∷ []) v (pos 0); denominator = 3; positive = three_positive }

-- "It lies in the widened ranges if no number is below its low edge or above its high edge": x from 0 to 1, the slack from 0 to 0
one_third_lies : Lies (ranges (whole 1)) 2 (thirds 1)
unfolding IsBelow IsAbove in_units exact magnitude
one_third_lies = record { not_below = at_both _ (λ below. below.lt) (λ below. below.lt); not_above = at_both _ (λ above. above.lt) (λ above. above.lt) }

two_thirds_lie : Lies (ranges (whole 1)) 2 (thirds 2)
unfolding IsBelow IsAbove in_units exact magnitude
two_thirds_lie = record { not_below = at_both _ (λ below. below.lt) (λ below. below.lt); not_above = at_both _ (λ above. above.lt) (λ above. above.lt) }

-- "It meets a row exactly if the row's entries times its numbers add up to the right side"
one_third_meets : Meets (rows (whole 1)) (thirds 1) 0
unfolding row_at exact magnitude Σ<
one_third_meets = refl

two_thirds_meet : Meets (rows (fin false 1 (pos 1))) (thirds 2) 0
unfolding row_at exact magnitude Σ<
two_thirds_meet = refl
