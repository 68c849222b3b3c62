-- `larger_product` meets its contract. Assumes nothing.
use Rattle.doubles.proofs.Tests.{fit}
use Rattle.outward_by_errors.proofs.Limits.{most_factor}
use Rattle.outward_by_errors.proofs.OuterEnd.{in_order, outer_most, outer_larger}
use Rattle.outward_by_errors.proofs.larger.larger_product.Goals as goal

pub near_product-requires : goal.near_product-requires
near_product-requires c =
    let hl = fit c.args.l c.well_formed.0.1 in
    let hu = fit c.args.u c.well_formed.1.0.1 in
    let he = fit c.args.e c.well_formed.1.1.0.1 in
    let w = in_order c.args.l c.args.u c.args.e most_factor hl hu he c.within.ensures c.within-2.ensures c.within-3.ensures c.if-within-l.true in
    (c.split.ensures.0, c.split-then-within-l.ensures.0, outer_most c.args.l c.args.u c.args.e hl hu he w c.outer-x.ensures, w.factor)

pub returns-then-within-l : goal.returns-then-within-l
returns-then-within-l c =
    let hl = fit c.args.l c.well_formed.0.1 in
    let hu = fit c.args.u c.well_formed.1.0.1 in
    let he = fit c.args.e c.well_formed.1.1.0.1 in
    let w = in_order c.args.l c.args.u c.args.e most_factor hl hu he c.within.ensures c.within-2.ensures c.within-3.ensures c.if-within-l.true in
    outer_larger c.args.l c.args.u c.args.e hl hu he w c.outer-x.ensures c.near_product.ensures.1
