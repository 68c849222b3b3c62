-- The third demand, and what it rests on, of any set of kept rows: document 01, "The words of the third demand". Assumes nothing.
-- proofs/ThirdDemand.antt has each for every accepted sheet and every set of kept rows.
use Rattle.std.specs.Prelude.{◌≡◌, ℕ, ◌<◌, T, ℤ, pos, ◌*ℤ◌, Float}
use Rattle.std.proofs.Math.Option.{Option, some}
use Rattle.std.specs.Float.Ieee.{lt, le}
use Rattle.std.specs.Float.Ieee.Scale.{finite}
use Rattle.exact.specs.Value.{exact_at}
use Rattle.exact.specs.Integers.{◌≼◌, Σ<}
use Rattle.cdouble.specs.Compensated.{plus_zero}
use Rattle.gaps.specs.Rows.{Rows, Ranges, KeptRows}
use Rattle.gaps.specs.Steps.{outward_gap}
use Rattle.gaps.specs.Points.{Point, in_units, Lies, Meets, missed}
use Rattle.gaps.specs.ExactGap.{multiplier, value_at, largest_value, exact_gap}

-- "no point in the ranges gives more, and one gives as much"
pub record IsLargest (kept : KeptRows) (m : Rows) (g : Ranges) (z : ℤ) : Type 0 where
  pub no_more : (p : Point) → Lies g m.variables p → in_units (value_at kept m p) ≼ z *ℤ pos p.denominator
  pub as_much : (p : Point) × Lies g m.variables p × (in_units (value_at kept m p) ≡ z *ℤ pos p.denominator)

abbrev pub LargestIsOne : KeptRows → Rows → Ranges → Type 0
LargestIsOne kept m g = (z : ℤ) → largest_value kept m g ≡ some z → IsLargest kept m g z

-- at every point in the ranges, the kept multipliers times the amounts by which the point misses their rows add up to at least the exact gap
abbrev pub MissesAtLeast : KeptRows → Rows → Ranges → Type 0
MissesAtLeast kept m g =
    (z : ℤ) → exact_gap kept m g ≡ some z → (p : Point) → Lies g m.variables p
    → z *ℤ pos p.denominator ≼ in_units (Σ< m.count (λ r. multiplier (kept r) *ℤ missed m p r))

-- "a finite outward gap has an exact gap and is not above it", both in units of 2 ^ -3222
abbrev pub NotAbove : Float → Option ℤ → Type 0
NotAbove outward gap = T (finite outward) → (z : ℤ) × (gap ≡ some z) × (exact_at 2148 outward ≼ z)

abbrev pub NeverAbove : KeptRows → Rows → Ranges → Type 0
NeverAbove kept m g = NotAbove (outward_gap kept m g) (exact_gap kept m g)

-- no point lies in the ranges and meets every row exactly
abbrev pub NoPoint : Rows → Ranges → Type 0
NoPoint m g = (p : Point) → Lies g m.variables p → ((r : ℕ) → r < m.count → Meets m p r) → ⊥

-- "an outward gap above 0 rules out every rational point"
abbrev pub RulesOut : KeptRows → Rows → Ranges → Type 0
RulesOut kept m g = T (lt plus_zero (outward_gap kept m g)) → NoPoint m g

-- "narrower ranges never lower it", −infinity lowest: g are the narrower ones
abbrev pub NotLowered : KeptRows → Rows → Ranges → KeptRows → Rows → Ranges → Type 0
NotLowered kept m g other n h = T (le (outward_gap other n h) (outward_gap kept m g))
