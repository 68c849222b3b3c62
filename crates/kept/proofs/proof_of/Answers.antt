-- `proof_of` meets its contract. Assumes nothing.
use native.Mathlib.Omega.{arith}
use mathlib.Core.Path.{refl}
use mathlib.Core.List.{[]}
use Rattle.questions.specs.Marks.{holds}
use Rattle.sheet.specs.Outputs.{lent, lent_lists, sheet_lent}
use Rattle.edges.proofs.Laws.{row_at_values}
use Rattle.kept.specs.Kept.{certificate_of, filled_in, proof_of}
use Rattle.kept.proofs.Fits.{few_variables, certificate_fits}
use Rattle.kept.proofs.Measured.{magnitudes_are}
use Rattle.kept.proofs.Places.{counts_stand}
use Rattle.kept.proofs.Whole.{weighed, judge_asks, filled_in_lem, kept_is}
use Rattle.kept.proofs.proof_of.Goals as goal

pub overflow_add-count : goal.overflow_add-count
overflow_add-count c = omega (arith, few_variables (sheet_lent c.args.s.now [] c.args.l.now c.args.errors.now) c.requires.accepted)

pub certificate-c-requires-clause-weighed : goal.certificate-c-requires-clause-weighed
certificate-c-requires-clause-weighed c = weighed (sheet_lent c.args.s.now [] c.args.l.now c.args.errors.now) c.requires.worked_out

pub certificate-c-requires-clause-fits : goal.certificate-c-requires-clause-fits
certificate-c-requires-clause-fits c =
    certificate_fits (sheet_lent c.args.s.now [] c.args.l.now c.args.errors.now) c.requires.accepted (lent_lists c.args.l.now) c.args.errors.now refl _ _

pub measure-requires-clause-readable : goal.measure-requires-clause-readable
measure-requires-clause-readable c = row_at_values (sheet_lent c.args.s.now [] c.args.l.now c.args.errors.now) c.requires.accepted

pub measure-requires-clause-counts_long : goal.measure-requires-clause-counts_long
measure-requires-clause-counts_long c =
    let bare = sheet_lent c.args.s.now [] c.args.l.now c.args.errors.now in
    let filled = filled_in_lem bare c.requires.worked_out c.requires.accepted (lent_lists c.args.l.now) c.args.errors.now refl c.certificate-c.ensures.value in
    (counts_stand bare (lent (lent_lists c.args.l.now) c.args.errors.now) filled).1

pub judge-requires : goal.judge-requires
judge-requires c =
    judge_asks (sheet_lent c.args.s.now [] c.args.l.now c.args.errors.now) c.requires.worked_out c.requires.accepted (lent_lists c.args.l.now) c.args.errors.now refl
    c.certificate-c.ensures.value (holds c.args.marks.now)
    (c.measure.ensures c.args.marks.now)

pub returns : goal.returns
unfolding proof_of certificate_of filled_in
returns c =
    let bare = sheet_lent c.args.s.now [] c.args.l.now c.args.errors.now in
    let found = c.requires.worked_out in
    let is = c.certificate-c.ensures.value in
    let filled = filled_in_lem bare found c.requires.accepted (lent_lists c.args.l.now) c.args.errors.now refl is in
    record {
      kept = λ widened said. kept_is bare found c.requires.accepted (lent_lists c.args.l.now) c.args.errors.now refl is said c.judge.ensures;
      written = λ widened. filled;
      measured = λ widened. magnitudes_are bare (lent (lent_lists c.args.l.now) c.args.errors.now) filled (c.measure.ensures c.args.marks.now);
      same_slices = c.certificate-c.ensures.same_slices;
    }
