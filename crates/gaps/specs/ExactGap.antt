-- The exact gap: document 01, "The words of the third demand". Assumes nothing.
-- Multipliers, entries and edges are whole numbers of units of 2 ^ -1074, so a coefficient is one of 2 ^ -2148, and the gap one of 2 ^ -3222.
use Rattle.std.specs.Prelude.{cond, ℕ, eqb, ℤ, pos, ◌+ℤ◌, ◌*ℤ◌, ◌-ℤ◌, length, get_or, Float}
use Rattle.std.proofs.Math.Option.{Option, none, some}
use Rattle.std.specs.Int.Signed.{lt_z}
use Rattle.std.specs.Float.{nan}
use Rattle.std.specs.Float.Ieee.Scale.{finite}
use Rattle.exact.specs.Value.{exact}
use Rattle.exact.specs.Integers.{Σ<}
use Rattle.cdouble.specs.Compensated.{plus_zero}
use Rattle.loops.specs.Places.{all_below}
use Rattle.multipliers.specs.declared.weighing.Multiplier.{Multiplier}
use Rattle.multipliers.specs.declared.weighing.Multiplier.TheVariants.{Zeroed, Dropped, Kept}
use Rattle.sheet.specs.Sheet.{Sheet}
use Rattle.gaps.specs.Rows.{Rows, Ranges, KeptRows, finite_parts, rows_of, ranges_of, kept_of}
use Rattle.gaps.specs.Points.{Point, in_units}

-- "A kept multiplier counts as hi + lo, exactly"; a row that is not kept counts for nothing
unfoldable pub multiplier : Multiplier → ℤ
multiplier (Zeroed y) = pos 0
multiplier Dropped = pos 0
multiplier (Kept y) = exact y.hi +ℤ exact y.lo

-- a row's entry in the variable v, 0 where it does not contain it
unfoldable pub entry : Rows → ℕ → ℕ → ℤ
entry m r v = Σ< (length (m.columns r)) (λ k. cond (eqb (get_or (m.columns r) k 0) v) (exact (get_or (m.entries r) k nan)) (pos 0))

-- "The combined row's exact coefficient of a variable is the sum, over the kept rows containing it, of multiplier times entry"
unfoldable pub coefficient : KeptRows → Rows → ℕ → ℤ
coefficient kept m v = Σ< m.count (λ r. multiplier (kept r) *ℤ entry m r v)

-- the combined row's right side
unfoldable pub combined_right_side : KeptRows → Rows → ℤ
combined_right_side kept m = Σ< m.count (λ r. multiplier (kept r) *ℤ exact (m.right_sides r))

-- "The combined row's value at a point is the sum of exact coefficients times numbers", in units of a coefficient over the denominator
unfoldable pub value_at : KeptRows → Rows → Point → ℤ
value_at kept m p = Σ< m.variables (λ v. coefficient kept m v *ℤ p.numbers v)

-- "Its largest value takes the high edge where the exact coefficient is above 0 and the low edge where it is below"
unfoldable pub taken : ℤ → Float → Float → Float
taken c low high = cond (lt_z (pos 0) c) high (cond (lt_z c (pos 0)) low plus_zero)

abbrev pub taken_at : KeptRows → Rows → Ranges → ℕ → Float
taken_at kept m g v = taken (coefficient kept m v) (g.low v) (g.high v)

-- "If an edge so taken is infinite, there is no largest value …
unfoldable pub largest_value : KeptRows → Rows → Ranges → Option ℤ
largest_value kept m g =
    cond (all_below m.variables (λ v. finite (taken_at kept m g v)))
    (some (Σ< m.variables (λ v. coefficient kept m v *ℤ exact (taken_at kept m g v)))) none

-- … and no exact gap"
abbrev pub less_largest : ℤ → Option ℤ → Option ℤ
less_largest b none = none
less_largest b (some z) = some (in_units b -ℤ z)

-- "nor is there one if a kept y has a part not finite"
unfoldable pub exact_gap : KeptRows → Rows → Ranges → Option ℤ
exact_gap kept m g =
    cond (all_below m.count (λ r. finite_parts (kept r))) (less_largest (combined_right_side kept m) (largest_value kept m g)) none

-- that of a sheet
abbrev pub exact_of : Sheet → Option ℤ
exact_of s = exact_gap (kept_of s) (rows_of s) (ranges_of s)
