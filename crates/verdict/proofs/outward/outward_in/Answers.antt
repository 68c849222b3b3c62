-- `outward_in` meets its contract. Assumes nothing.
use native.Mathlib.Omega.{arith}
use mathlib.Core.Path.{ap, sym, ◌∙◌}
use mathlib.Core.Bool.{true, false}
use mathlib.Core.List.{[]}
use Prim.Native.Nat.{ℕ, ◌<◌}
use lib.Dec.{eqb}
use lib.ListN.{length}
use Rattle.loops.specs.Listed.{listed}
use Rattle.loops.proofs.Listed.{length-listed}
use Rattle.sheet.specs.Lent.{lent_sheet}
use Rattle.sheet.specs.Sheet.{variables}
use Rattle.edges.specs.Model.{lent_model, model_of}
use Rattle.edges.specs.Ranges.{range_end}
use Rattle.edges.proofs.Known.{known_counted}
use Rattle.edges.proofs.Laws.{readable}
use Rattle.kept.specs.Kept.{certificate_of}
use Rattle.gaps.specs.Steps.{outward_of}
use Rattle.verdict.proofs.Lists.{few_variables, rows_lie, entries_same, each_has, gap_is}
use Rattle.verdict.proofs.outward.outward_in.Goals as goal

pub write_ranges-requires-clause-readable : goal.write_ranges-requires-clause-readable
write_ranges-requires-clause-readable c =
    let reads = c.requires.reads in
    λ v less. readable (lent_sheet c.args.s.now [] reads.outputs) reads.accepted v (omega (arith, c.requires.each_has.0))

pub write_ranges-requires-clause-known : goal.write_ranges-requires-clause-known
write_ranges-requires-clause-known c =
    let reads = c.requires.reads in
    let s = lent_sheet c.args.s.now [] reads.outputs in
    λ v less has.
    let inside : v < variables s = omega (arith, c.requires.each_has.0) in
    known_counted (model_of s) (certificate_of s).lists_of.terms s.rows reads.magnitudes_are v inside (ap (λ (n : ℕ). eqb n 0) (sym (reads.counted v inside)) ∙ has)

pub write_ranges-requires-clause-lengths : goal.write_ranges-requires-clause-lengths
write_ranges-requires-clause-lengths c = (c.requires.each_has.1 ∙ sym c.requires.each_has.0, omega (arith, c.requires.each_has.0, c.requires.reads.counts_long))

pub outward_gap-requires : goal.outward_gap-requires
outward_gap-requires c =
    let reads = c.requires.reads in
    let s = lent_sheet c.args.s.now [] reads.outputs in
    let low = ap length c.write_ranges.ensures.0 ∙ length-listed _ _ in
    let high = ap length c.write_ranges.ensures.1 ∙ length-listed _ _ in
    record {
      rows_fit = record { lie = rows_lie s reads.accepted; same = entries_same s reads.accepted; each_has = each_has s reads.accepted reads.multipliers_are };
      ends_fit = record { both = high ∙ sym low; few = omega (arith, low, c.requires.each_has.0, few_variables s reads.accepted) };
    }

pub returns : goal.returns
unfolding outward_of
returns c =
    let reads = c.requires.reads in
    let m = lent_model c.args.s.now c.args.marks.now in
    λ widened outputs said.
    gap_is (lent_sheet c.args.s.now [] reads.outputs) reads.accepted reads.multipliers_are reads.leaving_is c.args.terms.now reads.counted said (
      c.write_ranges.ensures.0 ∙ ap (λ (n : ℕ). listed n (range_end m c.args.leaving c.args.terms.now false)) c.requires.each_has.0,
      c.write_ranges.ensures.1 ∙ ap (λ (n : ℕ). listed n (range_end m c.args.leaving c.args.terms.now true)) c.requires.each_has.0,
    )
    c.outward_gap.ensures
