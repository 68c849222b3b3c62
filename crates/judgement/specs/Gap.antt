-- The gap, and whether it holds: document 01, "The judgement". Assumes nothing.
use Rattle.std.specs.Prelude.{Bool, true, false, cond, ◌&&◌, pos, Float}
use Rattle.std.specs.Float.{nan, inf, fin}
use Rattle.std.specs.Float.Ieee.{neg, lt}
use Rattle.std.specs.Float.Ieee.Scale.{finite}
use Rattle.cdouble.specs.declared.CDouble.{CDouble}
use Rattle.cdouble.specs.Compensated.{add_up, plus, plus_scaled, rounded, value}
use Rattle.walk.specs.declared.states.End.{End}
use Rattle.walk.specs.declared.states.End.TheVariants.{Through, Spoilt as WalkSpoilt, Unlimited as WalkUnlimited}
use Rattle.judgement.specs.declared.weighed.GapSum.{GapSum}
use Rattle.judgement.specs.declared.weighed.GapSum.TheVariants.{Finite, Unlimited, Spoilt}
use Rattle.judgement.specs.declared.weighed.Weight.{Weight}

-- ---- the gap
-- minus one, by which the largest value is taken off
abbrev pub minus_one : Float
minus_one = neg (fin false 1 (pos 0))

-- a sum that has overflowed is spoilt
unfoldable pub finite_sum : CDouble → GapSum
finite_sum sum = cond (finite (value sum)) (Finite sum) Spoilt

-- "Unlimited: gap −infinity, even if beta is not finite. … Spoilt, beta not finite, or overflowed: NaN": else beta less the largest value
unfoldable pub gap_sum : CDouble → CDouble → End → GapSum
gap_sum beta impliedMax Through = cond (finite (value beta)) (finite_sum (plus_scaled beta impliedMax minus_one)) Spoilt
gap_sum beta impliedMax WalkSpoilt = Spoilt
gap_sum beta impliedMax WalkUnlimited = Unlimited

-- its value
unfoldable pub gap_of : GapSum → Float
gap_of (Finite sum) = value sum
gap_of Unlimited = inf true
gap_of Spoilt = nan

-- ---- whether it holds, and the allowance
abbrev pub weight : Bool → Float → Weight
weight holds allowance = record { holds = holds; allowance = allowance }

-- where the leaving room is above the cut: the cut is taken off the rest and the leaving room off the gap
unfoldable pub weighed_apart : CDouble → Float → Float → Float → Float → Weight
weighed_apart sum gap others leavingRoom cut =
    let rest = add_up others (neg cut) in
    weight (lt others gap && lt rest (rounded (plus sum (neg leavingRoom)) false)) (add_up rest leavingRoom)

-- the gap is to be above what the others have room for
unfoldable pub weighed_plain : Float → Float → Weight
weighed_plain gap others = weight (lt others gap) others

abbrev pub weighed_finite : CDouble → Float → Float → Float → Float → Weight
weighed_finite sum gap others leavingRoom cut = cond (lt cut leavingRoom) (weighed_apart sum gap others leavingRoom cut) (weighed_plain gap others)

unfoldable pub weigh : GapSum → Float → Float → Float → Weight
weigh (Finite sum) others leavingRoom cut = weighed_finite sum (value sum) others leavingRoom cut
weigh Unlimited others leavingRoom cut = weighed_plain (inf true) others
weigh Spoilt others leavingRoom cut = weighed_plain nan others
