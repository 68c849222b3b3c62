-- `reckoned_with` meets its contract. Assumes nothing.
use native.Mathlib.Omega.{arith}
use mathlib.Core.Path.{ap, ap₂, ◌∙◌}
use mathlib.Core.Bool.{Bool}
use mathlib.Core.List.{[]}
use Prim.Native.Nat.{ℕ}
use Rattle.loops.specs.Listed.{listed}
use Rattle.multipliers.specs.Lent.{lent_multiplier}
use Rattle.verdict.specs.Verdict.{full_verdict, with_outward}
use Rattle.sheet.specs.Outputs.{lent_lists}
use Rattle.sheet.specs.Outputs.{lent, sheet_lent}
use Rattle.kept.proofs.Places.{counts_stand}
use Rattle.verdict.proofs.Lists.{few_variables, rho_same, places_same, row_read}
use Rattle.verdict.proofs.reckoned.reckoned_with.Goals as goal

pub error_bounds-estimated-requires : goal.error_bounds-estimated-requires
error_bounds-estimated-requires c = rho_same (sheet_lent c.args.s.now [] c.args.l.now c.args.errors.now) c.requires.accepted

pub leaving_variable-leaving-requires : goal.leaving_variable-leaving-requires
leaving_variable-leaving-requires c = places_same (sheet_lent c.args.s.now [] c.args.l.now c.args.errors.now) c.requires.accepted

pub write_multipliers-requires : goal.write_multipliers-requires
write_multipliers-requires c =
    λ r less.
    let h = row_read (sheet_lent c.args.s.now [] c.args.l.now c.args.errors.now) c.requires.accepted r (omega (arith, c.requires.each_has.0)) in
    record { in_mins = h.0; in_maxs = h.1; in_rho_hi = h.2; in_rho_lo = h.3; in_second = h.4 }

-- the multipliers written are the sheet's, by the error bounds found
pub proof_of-proof-requires-clause-worked_out : goal.proof_of-proof-requires-clause-worked_out
proof_of-proof-requires-clause-worked_out c =
    record {
      estimated_is = c.error_bounds-estimated.ensures;
      leaving_is = c.leaving_variable-leaving.ensures;
      multipliers_are = c.write_multipliers.ensures ∙ ap (λ (n : ℕ). listed n (lent_multiplier c.args.s.now c.error_bounds-estimated.result)) c.requires.each_has.0
          ∙ ap (λ (b : Bool). listed c.args.s.now.rows (lent_multiplier c.args.s.now b)) c.error_bounds-estimated.ensures;
    }

pub outward_of-outward-requires : goal.outward_of-outward-requires
outward_of-outward-requires c =
    let bare = sheet_lent c.args.s.now [] c.args.l.now c.args.errors.now in
    let counts = counts_stand bare (lent (lent_lists c.args.l.now) c.args.errors.now) (c.proof_of-proof.ensures.written []) in
    record {
      few = few_variables bare c.requires.accepted;
      outputs = bare.outputs;
      accepted = c.requires.accepted;
      leaving_is = c.leaving_variable-leaving.ensures;
      counts_long = counts.1;
      counted = counts.0;
      magnitudes_are = c.proof_of-proof.ensures.measured [];
      multipliers_are = c.write_multipliers.ensures ∙ ap (λ (n : ℕ). listed n (lent_multiplier c.args.s.now c.error_bounds-estimated.result)) c.requires.each_has.0
          ∙ ap (λ (b : Bool). listed c.args.s.now.rows (lent_multiplier c.args.s.now b)) c.error_bounds-estimated.ensures;
    }

pub returns-clause-promised : goal.returns-clause-promised
unfolding full_verdict
returns-clause-promised c =
    λ widened said.
    let kept = c.proof_of-proof.ensures in (
      c.with_outward.ensures ∙ ap₂ with_outward (kept.kept widened said) (c.outward_of-outward.ensures widened _ said),
      kept.written widened,
    )
