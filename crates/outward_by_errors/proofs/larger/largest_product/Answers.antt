-- `largest_product` meets its contract. Assumes nothing.
use lib.Ieee.{of_bits}
use Rattle.doubles.proofs.Tests.{fit}
use Rattle.outward_by_errors.proofs.Limits.{most_factor}
use Rattle.outward_by_errors.proofs.OneEdge.{OneSign, one_sign, edge_limits, edge_tells}
use Rattle.outward_by_errors.proofs.larger.largest_product.Goals as goal

-- what the tests say
tests : (c : goal.After-split-then-within-l) → OneSign c.args.l c.args.u c.args.low c.args.high
unfolding of_bits
tests c =
    let x = c.args in
    let f = c.well_formed in
    one_sign x.l x.u x.low x.high most_factor (fit x.l f.0.1) (fit x.u f.1.0.1) (fit x.low f.1.1.0.1) (fit x.high f.1.1.1.0.1)
    c.within.ensures c.within-2.ensures c.within-3.ensures c.within-4.ensures c.if-within-l.true

pub near_product-requires : goal.near_product-requires
near_product-requires c =
    let x = c.args in
    let f = c.well_formed in
    let most = edge_limits x.l x.u x.low x.high (fit x.l f.0.1) (fit x.u f.1.0.1) (fit x.low f.1.1.0.1) (fit x.high f.1.1.1.0.1) (tests c) c.outer-e.ensures c.outer-x.ensures in
    (c.split.ensures.0, c.split-then-within-l.ensures.0, most.0, most.1)

pub returns-then-within-l : goal.returns-then-within-l
returns-then-within-l c =
    let x = c.args in
    let f = c.well_formed in
    edge_tells x.l x.u x.low x.high (fit x.l f.0.1) (fit x.u f.1.0.1) (fit x.low f.1.1.0.1) (fit x.high f.1.1.1.0.1) (tests c.before) c.outer-e.ensures c.outer-x.ensures c.near_product.ensures.1
