-- The third demand, of the outward gap of a full verdict. Assumes nothing.
use lib.Dec.{T}
use lib.Ieee.{lt}
use Rattle.cdouble.specs.Compensated.{plus_zero}
use Rattle.sheet.specs.Sheet.{Sheet, Doubles}
use Rattle.sheet.specs.Answers.{Accepted}
use Rattle.gaps.specs.Rows.{kept_of, rows_of, ranges_of}
use Rattle.gaps.specs.ExactGap.{exact_of}
use Rattle.gaps.specs.Steps.{outward_of}
use Rattle.gaps.specs.ThirdDemand.{NotAbove, NoPoint}
use Rattle.gaps.proofs.ThirdDemand.{never_above, rules_out}
use Rattle.verdict.specs.Verdict.{full_verdict}

module _ (s : Sheet) (accepted : Accepted s) (doubles : Doubles s) where
  pub full_not_above : NotAbove (full_verdict s).outward (exact_of s)
  unfolding full_verdict outward_of
  full_not_above = never_above s accepted doubles (kept_of s)

  pub full_rules_out : T (lt plus_zero (full_verdict s).outward) → NoPoint (rows_of s) (ranges_of s)
  unfolding outward_of full_verdict
  full_rules_out = rules_out s accepted doubles (kept_of s)
