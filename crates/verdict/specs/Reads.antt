-- What the code asks of the lent slices where the outward gap is reckoned. On an accepted sheet it holds. Assumes nothing.
use Rattle.std.specs.Prelude.{◌≡◌, List, [], ℕ, ◌+◌, ◌≤◌, ◌<◌, length, get_or, Float}
use Rattle.loops.specs.Listed.{listed}
use Rattle.questions.specs.Limits.{most_variables}
use Rattle.sheet.specs.declared.outputs.Outputs.{Outputs}
use Rattle.sheet.specs.declared.lent.Sheet.{Sheet as Slices}
use Rattle.sheet.specs.Lent.{lent_sheet}
use Rattle.sheet.specs.Answers.{Accepted}
use Rattle.edges.specs.Edges.{leaving_variable}
use Rattle.multipliers.specs.declared.weighing.Multiplier.{Multiplier}
use Rattle.certificate.specs.System.{system_of, multiplier_at}
use Rattle.kept.specs.Kept.{certificate_of, magnitudes_of}

-- the sheet is within the limits, and accepted with outputs of some length; this is its leaving variable, these are its multipliers and its rows'
-- magnitudes, and so many terms the certificate counts of each variable
pub record OutwardReads (s : Slices) (leaving : ℕ) (multipliers : List Multiplier) (row_magnitudes : List Float) (terms : List ℕ) : Type 0 where
  pub few : s.structurals + s.rows ≤ most_variables
  pub outputs : Outputs
  pub accepted : Accepted (lent_sheet s [] outputs)
  pub leaving_is : leaving ≡ leaving_variable (lent_sheet s [] outputs)
  pub counts_long : s.structurals + s.rows ≤ length terms
  pub counted : (v : ℕ) → v < s.structurals + s.rows → get_or terms v 0 ≡ get_or (certificate_of (lent_sheet s [] outputs)).lists_of.terms v 0
  pub magnitudes_are : row_magnitudes ≡ magnitudes_of (lent_sheet s [] outputs)
  pub multipliers_are : multipliers ≡ listed s.rows (multiplier_at (system_of (lent_sheet s [] outputs)))
