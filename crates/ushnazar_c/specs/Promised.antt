-- What `sheet_verdict` promises a caller in C: what the library's does, of the struct's own fields. Assumes nothing.
use Rattle.std.specs.Prelude.{◌≡◌, T}
use Rattle.std.specs.Float.Ieee.{lt}
use Rattle.cdouble.specs.Compensated.{plus_zero}
use Rattle.sheet.specs.Sheet.{Sheet, Doubles}
use Rattle.sheet.specs.Outputs.{Lent}
use Rattle.kept.specs.Kept.{after}
use Rattle.gaps.specs.Rows.{rows_of, ranges_of}
use Rattle.gaps.specs.ExactGap.{exact_of}
use Rattle.gaps.specs.ThirdDemand.{NotAbove, NoPoint}
use Rattle.verdict.specs.Verdict.{verdict}
use Rattle.ushnazar_c.specs.declared.Answer.{Answer}
use Rattle.ushnazar_c.specs.Answer.{told}

-- of a sheet, what is lent to be written, before and now, and the answer
pub record Promised (s : Sheet) (before now : Lent) (answer : Answer) : Type 0 where
  -- "The answer … is a numbered refusal …, or a full verdict", each number of it by its definition
  pub answer_is : answer ≡ told (verdict s)
  -- "… with all lent memory untouched"; "A verdict writes coefficients, magnitudes, term counts and, if present, errors for every variable"
  pub lent_is : now ≡ after s before
  -- "a finite outward gap has an exact gap and is not above it"
  pub not_above : answer.refusal ≡ 0 → NotAbove answer.verdict.outward (exact_of s)
  -- "whenever the outward gap is above 0, declined or not, no rational point lies in the widened ranges and meets every row"
  pub rules_out : T (lt plus_zero answer.verdict.outward) → NoPoint (rows_of s) (ranges_of s)
  -- the sheet's numbers are doubles
  pub doubles : Doubles s
