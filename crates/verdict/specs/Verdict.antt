-- The full verdict on a sheet: document 01, "Questions put to the input" and "The outward gap (added)". Assumes nothing.
use Rattle.std.specs.Prelude.{Bool, cond, ◌&&◌, ℕ, eqb, Float, Result, Ok, Err}
use Rattle.std.specs.Float.Ieee.{lt}
use Rattle.cdouble.specs.Compensated.{plus_zero}
use Rattle.sheet.specs.Sheet.{Sheet}
use Rattle.sheet.specs.Answers.{first_no}
use Rattle.judgement.specs.declared.gap.Proof.{Proof}
use Rattle.kept.specs.Kept.{proof_of}
use Rattle.gaps.specs.Steps.{outward_of}
use Rattle.verdict.specs.declared.Verdict.{Verdict}

-- "Declined exactly when `holds` is true and the outward gap is above 0"
abbrev pub declines : Bool → Float → Bool
declines holds outward = holds && lt plus_zero outward

-- the kept numbers and the outward gap
abbrev pub with_outward : Proof → Float → Verdict
with_outward p outward = record { proof = p; outward = outward; declined = declines p.holds outward }

-- "… or a full verdict"
unfoldable pub full_verdict : Sheet → Verdict
full_verdict s = with_outward (proof_of s) (outward_of s)

-- "the first "no" gives its number"
unfoldable pub verdict : Sheet → Result Verdict ℕ
verdict s = cond (eqb (first_no s) 0) (Ok (full_verdict s)) (Err (first_no s))
