-- `product_bounds` meets its contract. Assumes nothing.
use mathlib.Core.Bool.{not}
use mathlib.Core.Logic.{◌⊎◌, inl, inr}
use mathlib.Core.Path.{◌≡◌, ap, ◌∙◌}
use mathlib.Core.Bool.{false}
use lib.Ieee.Scale.{finite}
use Rattle.doubles.specs.Directed.{round_down, round_up}
use Rattle.doubles.proofs.Tests.{not_finite, still_finite}
use Rattle.doubles.proofs.Bounding.{product_finite, product_other}
use Rattle.outward_by_ranks.proofs.outward.product_bounds.Goals as goal
use Rattle.outward_by_ranks.proofs.outward.product_bounds.Goals.{else-is_finite-via-then-is_finite+else-is_finite-2, else-is_finite-via-else-is_finite}

pub returns-then-is_finite-2 : goal.returns-then-is_finite-2
returns-then-is_finite-2 c =
    let f = still_finite c.args.a c.is_finite.ensures (ap not c.if-is_finite.true) in
    let g = still_finite c.args.b c.is_finite-then-is_finite.ensures (ap not c.if-is_finite-2.true) in
    (c.finite_product.ensures.0 ∙ product_finite (round_down 1074) c.args.a c.args.b f g, c.finite_product.ensures.1 ∙ product_finite (round_up 1074) c.args.a c.args.b f g)

pub returns : goal.returns
returns c =
    let n : (finite c.args.a ≡ false) ⊎ (finite c.args.b ≡ false) = elim c.else-is_finite.branch [
      | else-is_finite-via-then-is_finite+else-is_finite-2 w ↦ inr (not_finite c.args.b w.is_finite-then-is_finite.ensures (ap not w.if-is_finite-2.false))
      | else-is_finite-via-else-is_finite w ↦ inl (not_finite c.args.a c.is_finite.ensures (ap not w.if-is_finite.false))
    ] in
    (product_other (round_down 1074) c.args.a c.args.b n, product_other (round_up 1074) c.args.a c.args.b n)
