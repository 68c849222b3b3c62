-- A book that can be baked, in halves, by computation: what a bake is asks for no more than it should. Assumes nothing.
use native.Mathlib.Omega.{arith}
use mathlib.Core.Path.{refl}
use mathlib.Core.List.{[], ◌∷◌}
use Prim.Native.Nat.{ℕ, zero, suc, ◌<◌}
use lib.IntN.{pos}
use lib.ListN.{get_or}
use Rattle.exact.specs.Value.{exact, magnitude}
use Rattle.exact.specs.Integers.{Σ<}
use Rattle.questions.specs.Rows.{part}
use Rattle.sheet.specs.Sheet.{Sheet, sheet}
use Rattle.gaps.specs.Rows.{rows_of}
use Rattle.gaps.specs.Points.{Point, in_units, IsBelow, IsAbove, Lies, row_at, Meets}
use Rattle.gaps.proofs.Example.{whole, at_both}
use Rattle.promises.specs.Promises.{book_of, IsBake}

-- 2 x + slack = 1, x from 0 to 1, the slack from 0 to 0; the other numbers are no part of the book
abbrev example : Sheet
example =
    sheet (record { rows = 1; structurals = 1; entries = 2 }) (whole 0) 0 0 0 (record { high = 0; low = 0; magnitudes = 0; terms = 0; errors = 0 })
    (0 ∷ 2 ∷ []) (0 ∷ 1 ∷ []) (whole 2 ∷ whole 1 ∷ []) (whole 1 ∷ []) [] [] (whole 0 ∷ whole 0 ∷ []) (whole 1 ∷ whole 0 ∷ []) [] [] [] [] [] [] [] [] []

two_positive : 0 < 2
two_positive = omega arith

-- x is 1/2 and the slack 0/2
abbrev half : Point
half = record { numbers = λ v. get_or (pos 1 ∷ pos 0 ∷ []) v (pos 0); denominator = 2; positive = two_positive }

half_lies : Lies (book_of example).bounds 2 half
unfolding IsBelow IsAbove in_units exact magnitude
half_lies = record { not_below = at_both _ (λ below. below.lt) (λ below. below.lt); not_above = at_both _ (λ above. above.lt) (λ above. above.lt) }

half_meets : Meets (rows_of example) half 0
unfolding row_at part exact magnitude Σ<
half_meets = refl

half_is_bake : IsBake (book_of example) half
half_is_bake = record { within = half_lies; meets = only half_meets }
  where
    only : Meets (rows_of example) half 0 → (r : ℕ) → r < 1 → Meets (rows_of example) half r
    only here zero less = here
    only here (suc r) less = absurd (omega arith)
