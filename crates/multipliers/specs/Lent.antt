-- The multiplier of a row of the lent sheet, and what becomes of it. Assumes nothing.
use Rattle.std.specs.Prelude.{Bool, ℕ, get_or}
use Rattle.std.specs.Float.{nan}
use Rattle.doubles.specs.Compare.{absolute}
use Rattle.questions.specs.Flags.{is_set}
use Rattle.questions.specs.Rows.{slack_of}
use Rattle.sheet.specs.declared.lent.Sheet.{Sheet as Slices}
use Rattle.multipliers.specs.Refinement.{rho_at}
use Rattle.multipliers.specs.declared.weighing.Multiplier.{Multiplier}
use Rattle.multipliers.specs.Multipliers.{signed, weighed}

abbrev pub lent_multiplier : Slices → Bool → ℕ → Multiplier
lent_multiplier s estimated r =
    weighed estimated (absolute (get_or s.second.now r nan)) (signed (is_set s.leaving_up) (rho_at s.rho_hi.now s.rho_lo.now r))
    (get_or s.mins.now (slack_of s.structurals r) nan) (get_or s.maxs.now (slack_of s.structurals r) nan)
