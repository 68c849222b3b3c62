-- `verdict_on` meets its contract. Assumes nothing.
use mathlib.Core.Path.{◌≡◌, sym, subst}
use Prim.Native.Nat.{◌+◌}
use Rattle.sheet.specs.Numbers.{number_of}
use Rattle.sheet.specs.declared.outputs.Outputs.{Outputs}
use Rattle.sheet.specs.Lent.{lent_sheet}
use Rattle.sheet.specs.Answers.{first_no}
use Rattle.sheet.specs.Outputs.{sheet_lent}
use Rattle.sheet.proofs.Accepted.{all_yes, accepted_bare}
use Rattle.verdict.proofs.Found.{fine_is, said, some_list, some_fine}
use Rattle.verdict.proofs.Whole.{accepted_whole, refused_whole}
use Rattle.verdict.proofs.entry.verdict_on.Goals as goal

pub returns-in_err-first_no-clause-promised : goal.returns-in_err-first_no-clause-promised
returns-in_err-first_no-clause-promised c =
    let s = c.args.s.now in
    let refusal = c.in_err-first_no.field-0.0 in
    λ widened found.
    refused_whole (sheet_lent s widened c.args.l.now c.args.errors.now) _ (c.sheet_of_doubles.ensures _ _) refusal c.from_residual.result c.from_residual.ensures.1
    (subst (λ (o : Outputs). number_of refusal ≡ first_no (lent_sheet s widened o)) c.outputs_of.ensures
    (c.in_err-first_no.ensures widened (λ sizes. fine_is s.rows s.structurals s.entry_count sizes widened found)))

-- whatever the marks are, no question but the eleventh refuses the sheet
pub reckoned-requires : goal.reckoned-requires
reckoned-requires c =
    let s = c.args.s.now in
    let fine = c.args.marks.now.fine in
    let count = s.structurals + s.rows in
    accepted_bare (sheet_lent s (some_list fine count) c.args.l.now c.args.errors.now)
    (sym (subst (λ (o : Outputs). 0 ≡ first_no (lent_sheet s (some_list fine count) o)) c.outputs_of.ensures
    (c.in_ok-first_no.ensures (some_list fine count) (λ sizes. some_fine fine count))))

pub returns-clause-promised : goal.returns-clause-promised
returns-clause-promised c =
    let s = c.args.s.now in
    λ widened found.
    let none =
    subst (λ (o : Outputs). 0 ≡ first_no (lent_sheet s widened o)) c.outputs_of.ensures
    (c.in_ok-first_no.ensures widened (λ sizes. fine_is s.rows s.structurals s.entry_count sizes widened found)) in
    let yes = all_yes (sheet_lent s widened c.args.l.now c.args.errors.now) (sym none) in
    let both = c.reckoned.ensures.promised widened (said s.rows s.structurals s.entry_count yes.sizes_are_fine widened found yes.widened_is_fine) in
    accepted_whole (sheet_lent s widened c.args.l.now c.args.errors.now) _ (c.sheet_of_doubles.ensures _ _) none both.0 both.1
