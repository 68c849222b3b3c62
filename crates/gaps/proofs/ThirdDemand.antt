-- The third demand, for every accepted sheet whose numbers are doubles, as those of lent slices are, and for every set of kept rows. Assumes nothing.
use mathlib.Core.Path.{subst}
use Prim.Native.Nat.{ℕ}
use Rattle.sheet.specs.Sheet.{Sheet, variables, Doubles}
use Rattle.sheet.specs.Answers.{Accepted}
use Rattle.gaps.specs.Rows.{KeptRows, rows_of, ranges_of}
use Rattle.gaps.specs.Sameness.{SameRows, SameKept, Within}
use Rattle.gaps.specs.ThirdDemand.{LargestIsOne, MissesAtLeast, NeverAbove, RulesOut, NotLowered}
use Rattle.gaps.proofs.Sound.{SoundRanges}
use Rattle.gaps.proofs.Accepted.{sound_rows, sound_ranges}
use Rattle.gaps.proofs.LargestValue.{no_more, as_much}
use Rattle.gaps.proofs.Inequality.{inequality}
use Rattle.gaps.proofs.NeverAbove as bounded
use Rattle.gaps.proofs.NoPoint as points
use Rattle.gaps.proofs.Narrowing.{narrowing}

module _ (s : Sheet) (accepted : Accepted s) (doubles : Doubles s) (kept : KeptRows) where
  -- the largest value is one: no point in the ranges gives more, and one gives as much
  pub largest_is_one : LargestIsOne kept (rows_of s) (ranges_of s)
  largest_is_one z is =
      record { no_more = no_more kept (rows_of s) (ranges_of s) z is; as_much = as_much kept (rows_of s) (ranges_of s) z is (sound_ranges s accepted doubles) }

  -- the one inequality under the others
  pub misses_at_least : MissesAtLeast kept (rows_of s) (ranges_of s)
  misses_at_least = inequality kept (rows_of s) (ranges_of s) (sound_rows s accepted)

  pub never_above : NeverAbove kept (rows_of s) (ranges_of s)
  never_above = bounded.never_above kept (rows_of s) (ranges_of s) (sound_rows s accepted) (sound_ranges s accepted doubles)

  pub rules_out : RulesOut kept (rows_of s) (ranges_of s)
  rules_out =
      points.rules_out kept (rows_of s) (ranges_of s) (bounded.outward_shape kept (rows_of s) (ranges_of s) (sound_rows s accepted) (sound_ranges s accepted doubles)) never_above misses_at_least

-- narrower ranges, on a sheet with equal rows and for equal kept multipliers
pub not_lowered : (s t : Sheet) → Accepted s → Doubles s → Accepted t → Doubles t → (kept other : KeptRows) → SameRows (rows_of s) (rows_of t) → SameKept s.rows kept other
    → Within (variables s) (ranges_of s) (ranges_of t) → NotLowered kept (rows_of s) (ranges_of s) other (rows_of t) (ranges_of t)
not_lowered s t accepted doubles wide-accepted wide-doubles kept other rows same within =
    narrowing kept other (rows_of s) (rows_of t) (ranges_of s) (ranges_of t) (sound_rows s accepted) (sound_ranges s accepted doubles)
    (subst (λ (n : ℕ). SoundRanges n (ranges_of t)) rows.variables_same (sound_ranges t wide-accepted wide-doubles)) rows same within
