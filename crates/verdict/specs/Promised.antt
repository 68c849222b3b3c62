-- What an entry point promises of its answer to a sheet: the first demand, and the third, of the answer itself. Assumes nothing.
use Rattle.std.specs.Prelude.{◌≡◌, ℕ, T, IfOk, Result}
use Rattle.std.specs.Float.Ieee.{lt}
use Rattle.cdouble.specs.Compensated.{plus_zero}
use Rattle.sheet.specs.Sheet.{Sheet, Doubles}
use Rattle.sheet.specs.Outputs.{Lent}
use Rattle.kept.specs.Kept.{after}
use Rattle.gaps.specs.Rows.{rows_of, ranges_of}
use Rattle.gaps.specs.ExactGap.{exact_of}
use Rattle.gaps.specs.ThirdDemand.{NotAbove, NoPoint}
use Rattle.verdict.specs.declared.Verdict.{Verdict}
use Rattle.verdict.specs.Verdict.{verdict}

-- of a sheet, what is lent to be written, before and now, and the answer, a refusal by its number
pub record Promised (s : Sheet) (before now : Lent) (answer : Result Verdict ℕ) : Type 0 where
  -- "The answer … is a numbered refusal …, or a full verdict", each number of it by its definition
  pub answer_is : answer ≡ verdict s
  -- "… with all lent memory untouched"; "A verdict writes coefficients, magnitudes, term counts and, if present, errors for every variable"
  pub lent_is : now ≡ after s before
  -- "a finite outward gap has an exact gap and is not above it"
  pub not_above : IfOk answer (λ v. NotAbove v.outward (exact_of s))
  -- "whenever the outward gap is above 0, declined or not, no rational point lies in the widened ranges and meets every row"
  pub rules_out : IfOk answer (λ v. T (lt plus_zero v.outward) → NoPoint (rows_of s) (ranges_of s))
  -- the sheet's numbers are doubles: the definitions take any number of the library's, a lent slice or a text has these alone
  pub doubles : Doubles s
