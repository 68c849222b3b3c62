-- The judgement: document 01, "The judgement". Assumes nothing.
use Rattle.std.specs.Prelude.{Bool, ℕ}
use Rattle.cdouble.specs.Compensated.{add_up, compensated_error}
use Rattle.certificate.specs.declared.adding.Sums.{Sums}
use Rattle.certificate.specs.Certificate.{Certificate}
use Rattle.edges.specs.Model.{Model}
use Rattle.walk.specs.declared.states.Walked.{Walked}
use Rattle.judgement.specs.declared.gap.Proof.{Proof}
use Rattle.walk.specs.Walk.{walk_over}
use Rattle.judgement.specs.Gap.{gap_sum, gap_of, weigh}
use Rattle.judgement.specs.Cut.{cut_at}

-- ---- `judge`, of the walk over all variables
unfoldable pub judged : Model → ℕ → Sums → Walked → Proof
judged m leaving c w =
    let sum = gap_sum c.beta w.walk.implied_max w.end in
    let errorOfSums = compensated_error w.walk.terms w.walk.longest w.walk.magnitude in
    let cut = cut_at m leaving w.walk.leaving_edge errorOfSums (gap_of sum) in
    let weighed = weigh sum (add_up w.walk.room errorOfSums) w.walk.leaving_room cut in
    record {
      holds = weighed.holds;
      gap = gap_of sum;
      allowance = weighed.allowance;
      cut = cut;
      zero_within_error = w.walk.zero_within_error;
      multipliers_zeroed = c.zeroed;
      rows = c.rows;
    }

-- of a certificate over count variables
unfoldable pub judgement : Model → ℕ → Bool → ℕ → Certificate → Proof
judgement m leaving estimated count c = judged m leaving c.sums_of (walk_over m leaving estimated c count)
