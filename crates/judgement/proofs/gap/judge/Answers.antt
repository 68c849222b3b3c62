-- `judge` meets its contract: the cut is 0 where the gap is not finite. Assumes nothing.
use mathlib.Core.Path.{refl, ap, sym, ◌∙◌}
use lib.Ieee.{of_bits}
use Rattle.judgement.specs.declared.weighed.GapSum.TheVariants.{Finite, Unlimited, Spoilt}
use Rattle.cdouble.specs.Compensated.{compensated_error}
use Rattle.judgement.specs.Judgement.{judged, judgement}
use Rattle.judgement.specs.Gap.{gap_of, weigh}
use Rattle.edges.specs.Model.{lent_model}
use Rattle.judgement.proofs.CutLaws.{cut_zero_not_finite}
use Rattle.judgement.proofs.Parts.{by_gap, judged_is}
use Rattle.judgement.proofs.gap.judge.Goals.{in-Finite, in-Unlimited, in-Spoilt}
use Rattle.judgement.proofs.gap.judge.Goals as goal

pub returns : goal.returns
unfolding judgement gap_of weigh of_bits
returns c =
    let m = lent_model c.args.s.now c.args.marks.now in
    let walked = c.walk_all-walked.result in
    let w = walked.walk in
    let uncut = cut_zero_not_finite m c.args.leaving w.leaving_edge (compensated_error w.terms w.longest w.magnitude) in
    (elim c.match-gap_sum.branch [
      | in-Finite k ↦
          judged_is m c.args.leaving c.args.c walked (sym k.in-Finite.is ∙ c.gap_sum.ensures)
          (k.gap-is ∙ rw (k.weighed_finite.ensures, k.cut_at-cut.ensures c.args.marks.now, k.value-gap.ensures, c.add_up-others.ensures.0, c.compensated_error-sums.ensures)
          (refl {a = by_gap m c.args.leaving c.args.c walked (Finite k.in-Finite.sum)}))
      | in-Unlimited k ↦
          judged_is m c.args.leaving c.args.c walked (sym k.in-Unlimited.is ∙ c.gap_sum.ensures)
          (k.gap-is ∙ rw (k.weighed_plain.ensures, c.add_up-others.ensures.0, c.compensated_error-sums.ensures, uncut (gap_of Unlimited) refl) refl)
      | in-Spoilt k ↦
          judged_is m c.args.leaving c.args.c walked (sym k.in-Spoilt.is ∙ c.gap_sum.ensures)
          (k.gap-is ∙ rw (k.weighed_plain-in-Spoilt.ensures, c.add_up-others.ensures.0, c.compensated_error-sums.ensures, uncut (gap_of Spoilt) refl) refl)
    ])
    ∙ ap (judged m c.args.leaving c.args.c) c.walk_all-walked.ensures
