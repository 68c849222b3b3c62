-- The judgement of a walk, from its gap, its cut and its weight. Assumes nothing.
use mathlib.Core.Path.{◌≡◌, ◌∙◌, ap}
use Prim.Native.Nat.{ℕ}
use lib.Ieee.{Float}
use Rattle.cdouble.specs.Compensated.{add_up, compensated_error}
use Rattle.certificate.specs.declared.adding.Sums.{Sums}
use Rattle.edges.specs.Model.{Model}
use Rattle.walk.specs.declared.states.Walked.{Walked}
use Rattle.judgement.specs.declared.gap.Proof.{Proof}
use Rattle.judgement.specs.declared.weighed.GapSum.{GapSum}
use Rattle.judgement.specs.declared.weighed.Weight.{Weight}
use Rattle.judgement.specs.Cut.{cut_at}
use Rattle.judgement.specs.Gap.{gap_of, gap_sum, weigh}
use Rattle.judgement.specs.Judgement.{judged}

module _ (m : Model) (leaving : ℕ) (c : Sums) (w : Walked) where
  abbrev error_of_sums : Float
  error_of_sums = compensated_error w.walk.terms w.walk.longest w.walk.magnitude

  abbrev others : Float
  others = add_up w.walk.room error_of_sums

  abbrev judged_by : Float × Float × Weight → Proof
  judged_by by =
      record {
        holds = by.2.holds;
        gap = by.0;
        allowance = by.2.allowance;
        cut = by.1;
        zero_within_error = w.walk.zero_within_error;
        multipliers_zeroed = c.zeroed;
        rows = c.rows;
      }

  -- what a gap that came out so makes of the three
  abbrev pub by_gap : GapSum → Float × Float × Weight
  by_gap g = let cut = cut_at m leaving w.walk.leaving_edge error_of_sums (gap_of g) in (gap_of g, cut, weigh g others w.walk.leaving_room cut)

  pub judged_is : {g : GapSum} {by : Float × Float × Weight} → g ≡ gap_sum c.beta w.walk.implied_max w.end → by ≡ by_gap g → judged_by by ≡ judged m leaving c w
  unfolding judged
  judged_is e is = ap judged_by is ∙ ap (λ (g : GapSum). judged_by (by_gap g)) e
