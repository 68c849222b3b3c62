-- Document 01's sheet: the definitions compute its outward gap and its exact gap, both 2, and those of its two variations; and there is no exact
-- gap where a part of its kept multiplier is infinite. Assumes nothing.
use native.Mathlib.Omega.{arith}
use mathlib.Core.Path.{◌≡◌, refl}
use mathlib.Core.Bool.{false, true}
use mathlib.Core.List.{[], ◌∷◌}
use mathlib.Core.Option.{none, some}
use Prim.Native.Nat.{ℕ, zero, suc, ◌*◌, ◌^◌, ◌<◌}
use lib.IntN.{pos}
use lib.ListN.{get_or}
use lib.Ieee.{Float, inf, fin, lt, eq, is_nan, neg, of_bits, size}
use Rattle.std.specs.Prelude.{⊤}
use Rattle.exact.specs.Value.{exact, magnitude}
use Rattle.exact.specs.Integers.{Σ<}
use Rattle.rank_arithmetic.specs.Rank.{rank, rank_down, rank_up}
use Rattle.doubles.specs.Directed.{round_up, round_down, sum_with, product_with}
use Rattle.doubles.specs.Compare.{larger}
use Rattle.cdouble.specs.Compensated.{pair, plus_zero}
use Rattle.loops.specs.Places.{all_below}
use Rattle.multipliers.specs.declared.weighing.Multiplier.TheVariants.{Kept}
use Rattle.gaps.specs.Rows.{Rows, Ranges, KeptRows, finite_parts}
use Rattle.gaps.specs.Steps.{after_entries, with_row, coefficient_after, limited, term, with_term, largest, with_right_side, right_side, difference, outward_gap}
use Rattle.gaps.specs.Points.{in_units}
use Rattle.gaps.specs.ExactGap.{multiplier, entry, coefficient, combined_right_side, taken, largest_value, exact_gap}

abbrev pub whole : ℕ → Float
whole n = fin false n (pos 0)

-- every row kept, with one multiplier
abbrev kept_with : Float → Float → KeptRows
kept_with hi lo r = Kept (pair hi lo)

-- the row x + slack = b, its multiplier 1, and the range of x; the slack's is 0 to 0
abbrev kept : KeptRows
kept = kept_with (whole 1) plus_zero

abbrev rows : Float → Rows
rows b = record { count = 1; variables = 2; columns = λ r. 0 ∷ 1 ∷ []; entries = λ r. whole 1 ∷ whole 1 ∷ []; right_sides = λ r. b }

abbrev pub ranges : Float → Ranges
ranges most = record { low = λ v. plus_zero; high = λ v. get_or (most ∷ plus_zero ∷ []) v plus_zero }

-- what holds of both variables
pub at_both : (P : ℕ → Type 0) → P 0 → P 1 → (v : ℕ) → v < 2 → P v
at_both P first second zero less = first
at_both P first second (suc zero) less = second
at_both P first second (suc (suc v)) less = absurd (omega arith)

unfoldable steps_compute : ⊤
unfolding after_entries with_row coefficient_after limited term with_term largest with_right_side right_side difference outward_gap finite_parts
steps_compute = tt

-- the sheet; "Right side 1 in the sheet"; "its max +infinity"
pub outward_gaps :
    outward_gap kept (rows (whole 3)) (ranges (whole 1)) ∷ outward_gap kept (rows (whole 1)) (ranges (whole 1)) ∷ outward_gap kept (rows (whole 3)) (ranges (inf false)) ∷ []
    ≡ fin false 1 (pos 1) ∷ plus_zero ∷ inf true ∷ []
unfolding steps_compute all_below exact magnitude rank rank_down rank_up round_up round_down sum_with product_with larger lt eq is_nan neg of_bits size
outward_gaps = refl

pub exact_gaps :
    exact_gap kept (rows (whole 3)) (ranges (whole 1)) ∷ exact_gap kept (rows (whole 1)) (ranges (whole 1)) ∷ exact_gap kept (rows (whole 3)) (ranges (inf false)) ∷ []
    ≡ some (pos (2 * 2 ^ 3222)) ∷ some (pos 0) ∷ none ∷ []
unfolding multiplier entry coefficient combined_right_side taken largest_value exact_gap in_units finite_parts all_below exact magnitude Σ<
exact_gaps = refl

-- "nor is there one if a kept y has a part not finite": the high part, and the low part
pub high_part_infinite : exact_gap (kept_with (inf false) plus_zero) (rows (whole 3)) (ranges (whole 1)) ≡ none
unfolding multiplier entry coefficient combined_right_side taken largest_value exact_gap in_units finite_parts all_below exact magnitude Σ<
high_part_infinite = refl

pub low_part_infinite : exact_gap (kept_with (whole 1) (inf true)) (rows (whole 3)) (ranges (whole 1)) ≡ none
unfolding multiplier entry coefficient combined_right_side taken largest_value exact_gap in_units finite_parts all_below exact magnitude Σ<
low_part_infinite = refl
