-- `rounded_sum` meets its contract in both directions. Assumes nothing.
use mathlib.Core.Bool.{Bool, true, false, cond, not}
use mathlib.Core.Path.{◌≡◌, ap, ◌∙◌}
use lib.Dec.{T}
use lib.IntN.{◌+ℤ◌}
use lib.Ieee.{Float}
use lib.Ieee.Scale.{finite}
use Rattle.exact.specs.Value.{exact}
use Rattle.doubles.specs.Directed.{round_down, round_up, sum_down, sum_up}
use Rattle.doubles.proofs.Tests.{not_finite, still_finite}
use Rattle.doubles.proofs.Bounding.{Bounds, sum_stays, sum_takes, sum-finite}
use Rattle.outward_by_ranks.proofs.outward.rounded_sum.Goals as goal

-- ---- in either direction
module _ (up : Bool) (a b : Float) where
  abbrev Sum : Float → Type 0
  Sum x = x ≡ cond up (sum_up a b) (sum_down a b)

  stays : finite a ≡ false → Sum a
  stays e = go up
    where
      go : (up : Bool) → a ≡ cond up (sum_up a b) (sum_down a b)
      go true = sum_stays (round_up 0) a b e
      go false = sum_stays (round_down 0) a b e

  takes : T (finite a) → finite b ≡ false → Sum b
  takes f e = go up
    where
      go : (up : Bool) → b ≡ cond up (sum_up a b) (sum_down a b)
      go true = sum_takes (round_up 0) a b f e
      go false = sum_takes (round_down 0) a b f e

  rounded : T (finite a) → T (finite b) → {x y : Float} → Bounds 0 (exact a +ℤ exact b) x y → Sum (cond up y x)
  rounded f g {x} {y} h = go up
    where
      go : (up : Bool) → cond up y x ≡ cond up (sum_up a b) (sum_down a b)
      go true = h.1 ∙ sum-finite (round_up 0) a b f g
      go false = h.0 ∙ sum-finite (round_down 0) a b f g

pub returns-then-not-is_finite : goal.returns-then-not-is_finite
returns-then-not-is_finite g c = stays _ c.args.a c.args.b (not_finite c.args.a c.is_finite.ensures (ap not c.if-not-is_finite.true))

pub returns-then-not-is_finite-2 : goal.returns-then-not-is_finite-2
returns-then-not-is_finite-2 g c =
    takes _ c.args.a c.args.b (still_finite c.args.a c.is_finite.ensures (ap not c.if-not-is_finite.false)) (not_finite c.args.b c.is_finite-2.ensures (ap not c.if-not-is_finite-2.true))

pub returns : goal.returns
returns g c =
    let f = still_finite c.args.a c.is_finite.ensures (ap not c.if-not-is_finite.false) in
    let h = still_finite c.args.b c.is_finite-2.ensures (ap not c.if-not-is_finite-2.false) in
    c.end.ensures ∙ rounded _ c.args.a c.args.b f h c.sum_bounds.ensures
