-- Examples of what narrowing compares, by computation: doubles that agree though they differ and some that do not agree, rows and multipliers that
-- are equal with −0 for +0, and a range within another. Assumes nothing.
use native.Mathlib.Omega.{arith}
use mathlib.Core.Path.{◌≡◌, refl}
use mathlib.Core.Bool.{false, true}
use mathlib.Core.List.{[], ◌∷◌}
use Prim.Native.Nat.{ℕ}
use lib.IntN.{ℤ, pos}
use lib.ListN.{get_or}
use lib.Ieee.{Float, nan, inf, fin, le, lt, eq}
use Rattle.cdouble.specs.declared.CDouble.{CDouble}
use Rattle.cdouble.specs.Compensated.{pair, plus_zero}
use Rattle.multipliers.specs.declared.weighing.Multiplier.TheVariants.{Zeroed, Dropped, Kept}
use Rattle.gaps.specs.Rows.{Rows, Ranges}
use Rattle.gaps.specs.Sameness.{Agree, SameRows, SameMultiplier, Within}
use Rattle.gaps.proofs.Example.{at_both}

abbrev one : Float
one = fin false 1 (pos 0)

abbrev two : Float
two = fin false 1 (pos 1)

-- ---- "Here −0 agrees with +0", however a zero is written
zeros_agree : (e : ℤ) → Agree (fin true 0 e) (fin false 0 e)
zeros_agree e = refl

-- "and NaN with NaN"
nans_agree : Agree nan nan
nans_agree = refl

-- 1 does not agree with 2, +infinity not with −infinity
numbers_differ : Agree one two → ⊥
numbers_differ e = let n : ◌≡◌ {A = ℕ} 0 1 = cc in omega arith

infinities_differ : Agree (inf false) (inf true) → ⊥
infinities_differ e = let n : ◌≡◌ {A = ℕ} 0 1 = cc in omega arith

-- ---- "Rows are equal if row and structural counts and, row by row, columns, entries and right sides agree": here with −0 for +0
abbrev minus_zero : Float
minus_zero = fin true 0 (pos 0)

abbrev rows : Float → Rows
rows x = record { count = 1; variables = 2; columns = λ r. 0 ∷ 1 ∷ []; entries = λ r. x ∷ plus_zero ∷ []; right_sides = λ r. x }

rows_same : SameRows (rows plus_zero) (rows minus_zero)
rows_same =
    record {
      count_same = refl;
      variables_same = refl;
      columns_same = λ r less. refl;
      entries_agree = λ r less. at_both _ refl refl;
      right_sides_agree = λ r less. refl;
    }

-- ---- "Kept multipliers are equal if the same rows are kept and their hi and lo agree": here with −0 for +0 …
kept_same : SameMultiplier (Kept (pair minus_zero plus_zero)) (Kept (pair plus_zero minus_zero))
unfolding SameMultiplier
kept_same = (refl, refl)

-- … and for what reason another row is not kept enters nowhere
unkept_same : (y : CDouble) → SameMultiplier (Zeroed y) Dropped × SameMultiplier Dropped (Zeroed y)
unfolding SameMultiplier
unkept_same y = (tt, tt)

-- ---- "One range lies within another if its low edge is not lower and its high edge not higher": 1 to 2 and 0 to 0 lie within 0 to +infinity and 0 to 0
abbrev between : Float → Float → Ranges
between low high = record { low = λ v. get_or (low ∷ plus_zero ∷ []) v plus_zero; high = λ v. get_or (high ∷ plus_zero ∷ []) v plus_zero }

within : Within 2 (between one two) (between plus_zero (inf false))
unfolding le lt eq
within = record { low_not_lower = at_both _ tt tt; high_not_higher = at_both _ tt tt }
