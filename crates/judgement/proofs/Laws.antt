-- What document 01 promises of the judgement: that a gap which is not finite never holds. Assumes nothing.
use mathlib.Core.Path.{◌≡◌, refl}
use mathlib.Core.Bool.{true, false, and-false}
use Prim.Native.Nat.{ℕ}
use lib.Ieee.{Float, nan, inf, fin, lt}
use lib.Ieee.Scale.{finite}
use Rattle.cdouble.specs.declared.CDouble.{CDouble}
use Rattle.cdouble.specs.Compensated.{add_up, compensated_error, plus_scaled, value}
use Rattle.loops.proofs.Branches.{differ}
use Rattle.certificate.specs.declared.adding.Sums.{Sums}
use Rattle.edges.specs.Model.{Model}
use Rattle.walk.specs.declared.states.End.{End}
use Rattle.walk.specs.declared.states.End.TheVariants.{Through, Spoilt as WalkSpoilt, Unlimited as WalkUnlimited}
use Rattle.walk.specs.declared.states.Walked.{Walked}
use Rattle.std.proofs.lemmas.Bool.{cond_both}
use Rattle.judgement.specs.declared.weighed.GapSum.{GapSum}
use Rattle.judgement.specs.declared.weighed.GapSum.TheVariants.{Finite, Unlimited, Spoilt}
use Rattle.judgement.specs.Cut.{cut_at}
use Rattle.judgement.specs.Gap.{finite_sum, gap_of, gap_sum, minus_one, weigh, weighed_plain}
use Rattle.judgement.specs.Judgement.{judged}

-- ---- a gap that is not finite never holds
-- a pair is a gap only where its value is finite
abbrev Sound : GapSum → Type 0
Sound (Finite sum) = finite (value sum) ≡ true
Sound Unlimited = Unit
Sound Spoilt = Unit

finite_sum_sound : (sum : CDouble) → Sound (finite_sum sum)
unfolding finite_sum
finite_sum_sound sum = cond_both (finite (value sum)) (Finite sum) Spoilt Sound (λ t. t) (λ f. tt)

gap_sound : (beta impliedMax : CDouble) (end : End) → Sound (gap_sum beta impliedMax end)
unfolding gap_sum
gap_sound beta impliedMax Through =
    let sum = plus_scaled beta impliedMax minus_one in
    cond_both (finite (value beta)) (finite_sum sum) Spoilt Sound (λ t. finite_sum_sound sum) (λ f. tt)
gap_sound beta impliedMax WalkSpoilt = tt
gap_sound beta impliedMax WalkUnlimited = tt

-- nothing is below −infinity or NaN
none_below : (x : Float) → lt x (inf true) ≡ false
unfolding lt
none_below nan = refl
none_below (inf s) = and-false s
none_below (fin s m e) = refl

none_below_nan : (x : Float) → lt x nan ≡ false
unfolding lt
none_below_nan nan = refl
none_below_nan (inf s) = refl
none_below_nan (fin s m e) = refl

weigh_fails : (sum : GapSum) → Sound sum → finite (gap_of sum) ≡ false → (others leavingRoom cut : Float) → (weigh sum others leavingRoom cut).holds ≡ false
unfolding weigh weighed_plain gap_of
weigh_fails (Finite sum) sound f others leavingRoom cut = differ sound f
weigh_fails Unlimited sound f others leavingRoom cut = none_below others
weigh_fails Spoilt sound f others leavingRoom cut = none_below_nan others

pub not_finite_not_held : (m : Model) (leaving : ℕ) (c : Sums) (w : Walked) → finite (judged m leaving c w).gap ≡ false → (judged m leaving c w).holds ≡ false
unfolding judged
not_finite_not_held m leaving c w f =
    let sum = gap_sum c.beta w.walk.implied_max w.end in
    let errorOfSums = compensated_error w.walk.terms w.walk.longest w.walk.magnitude in
    weigh_fails sum (gap_sound c.beta w.walk.implied_max w.end) f (add_up w.walk.room errorOfSums) w.walk.leaving_room (cut_at m leaving w.walk.leaving_edge errorOfSums (gap_of sum))
