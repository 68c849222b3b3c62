-- `finite_product` meets its contract: the product of the signs and of the ranks. Assumes nothing.
use mathlib.Core.Bool.{false}
use mathlib.Core.Path.{◌≡◌}
use Prim.Native.Nat.{◌*◌, ◌<◌}
use lib.Ieee.{Float, unlike}
use Rattle.exact.specs.Value.{exact, signed}
use Rattle.rank_arithmetic.specs.Rank.{at_rank, infinity}
use Rattle.doubles.proofs.Bounding.{Parts, parts_product, product_zero_l, product_zero_r, bounds, between_zero}
use Rattle.outward_by_ranks.specs.declared.outward.Parts.{Parts as Code}
use Rattle.outward_by_ranks.proofs.outward.finite_product.Goals as goal

of : (a : Float) (p : Code) → (p.rank < infinity) × (exact a ≡ signed p.below (at_rank 52 p.rank)) → Parts a p.rank p.below
of a p h = record { small = h.0; value = h.1 }

pub returns-then-x-eq0 : goal.returns-then-x-eq0
returns-then-x-eq0 c = bounds 1074 false 0 (between_zero 1074) (product_zero_l (of c.args.a c.of-x.result c.of-x.ensures) (of c.args.b c.of-y.result c.of-y.ensures) c.if-x-eq0.true) c.zero.ensures

pub returns-then-y-eq0 : goal.returns-then-y-eq0
returns-then-y-eq0 c = bounds 1074 false 0 (between_zero 1074) (product_zero_r (of c.args.a c.of-x.result c.of-x.ensures) (of c.args.b c.of-y.result c.of-y.ensures)
    c.if-y-eq0.true) c.zero-then-y-eq0.ensures

pub returns : goal.returns
returns c = let x = c.of-x.result in
    let y = c.of-y.result in
    bounds 1074 (unlike x.below y.below) (at_rank 52 x.rank * at_rank 52 y.rank) c.rank_product.ensures
    (parts_product (of c.args.a c.of-x.result c.of-x.ensures) (of c.args.b c.of-y.result c.of-y.ensures)) c.spread.ensures
