-- The kept numbers of a sheet, and what is lent afterwards: document 01, "Kept, and written anew" and "Questions put to the input".
-- Assumes nothing.
use Rattle.std.specs.Prelude.{◌≡◌, Bool, cond, List, ℕ, eqb, Float}
use Rattle.loops.specs.Listed.{listed}
use Rattle.sheet.specs.Sheet.{Sheet, variables}
use Rattle.sheet.specs.Outputs.{Lent, lent}
use Rattle.sheet.specs.Answers.{first_no}
use Rattle.edges.specs.Model.{model_of}
use Rattle.edges.specs.Edges.{leaving_variable}
use Rattle.edges.specs.Ranges.{magnitude_in}
use Rattle.multipliers.specs.declared.weighing.Multiplier.{Multiplier}
use Rattle.certificate.specs.System.{system_of, multiplier_at}
use Rattle.certificate.specs.Certificate.{Certificate, combined, written}
use Rattle.judgement.specs.declared.gap.Proof.{Proof}
use Rattle.judgement.specs.Judgement.{judgement}

-- the certificate of a sheet
unfoldable pub certificate_of : Sheet → Certificate
certificate_of s = combined (system_of s) s.rows (variables s)

-- `proof_of`: "Reference answer: `Solver::proof_of`, with the lists and row count of the `certificate` it builds"
unfoldable pub proof_of : Sheet → Proof
proof_of s = judgement (model_of s) (leaving_variable s) (system_of s).estimated (variables s) (certificate_of s)

-- the magnitudes of the rows at the values, of the rows whose slacks the certificate counts terms of
abbrev pub magnitudes_of : Sheet → List Float
magnitudes_of s = listed s.rows (magnitude_in (model_of s) (certificate_of s).lists_of.terms)

-- what is worked out of a sheet once, for both reckonings: whether there are error bounds, which variable leaves, and what becomes of each
-- row's multiplier
pub record WorkedOut (s : Sheet) (estimated : Bool) (leaving : ℕ) (multipliers : List Multiplier) : Type 0 where
  pub estimated_is : estimated ≡ (system_of s).estimated
  pub leaving_is : leaving ≡ leaving_variable s
  pub multipliers_are : multipliers ≡ listed s.rows (multiplier_at (system_of s))

-- ---- what is lent afterwards
-- the certificate's lists over what was lent
unfoldable pub filled_in : Sheet → Lent → Lent
filled_in s before =
    let c = written (system_of s).estimated (variables s) (certificate_of s) before.lists_of before.errors in
    lent c.lists_of c.errors

-- "the first "no" gives its number, and nothing lent changes"
unfoldable pub after : Sheet → Lent → Lent
after s before = cond (eqb (first_no s) 0) (filled_in s before) before
