-- `near_scaled` meets its contract: no sum leaves the range of `two_sum`, and where one is inexact it is large. Assumes nothing.
use mathlib.Core.Bool.{true, false}
use mathlib.Core.Path.{sym, subst}
use lib.Dec.{T}
use lib.Ieee.{of_bits}
use Rattle.doubles.proofs.Tests.{fit}
use Rattle.outward_by_errors.proofs.Rounded.{product_finite_hi}
use Rattle.outward_by_errors.proofs.AddedNext.{product_half}
use Rattle.outward_by_errors.proofs.Running.{first, second, after, last, nothing}
use Rattle.outward_by_errors.proofs.scaled.near_scaled.Goals as goal

pub far-requires : goal.far-requires
far-requires c =
    let y = c.args.f.y in
    let n = c.requires.0.near c.requires.1 in
    product_finite_hi y.hi c.args.a (fit y.hi c.well_formed.0.1.1.0.1.1.0.1) (fit c.args.a c.well_formed.1.0.1) n.0 c.requires.2 c.halved_product-p.result c.halved_product-p.ensures

pub far-requires-2 : goal.far-requires-2
far-requires-2 c =
    let y = c.args.f.y in
    let n = c.requires.0.near c.requires.1 in
    product_finite_hi y.lo c.args.a (fit y.lo c.well_formed.0.1.1.0.1.1.1.0.1) (fit c.args.a c.well_formed.1.0.1) n.1 c.requires.2 c.halved_product-q.result c.halved_product-q.ensures

pub far_sums-with_high-requires : goal.far_sums-with_high-requires
far_sums-with_high-requires c =
    let l = c.args.c in
    let y = c.args.f.y in
    let n = c.requires.0.near c.requires.1 in
    let half = product_half y.hi c.args.a (fit y.hi c.well_formed.0.1.1.0.1.1.0.1) (fit c.args.a c.well_formed.1.0.1) n.0 c.requires.2 in
    let F = c.far.ensures (subst T (sym c.if-not-far.false) tt) in
    let p = c.far_bounds-high.ensures in (
      first false l.down y.hi c.args.a c.requires.3 n.0 c.requires.2 (fit l.down c.well_formed.1.1.0.1.1.0.1) (half false c.halved_product-p.result c.halved_product-p.ensures F) p.0,
      first true l.up y.hi c.args.a c.requires.4 n.0 c.requires.2 (fit l.up c.well_formed.1.1.0.1.1.1.0.1) (half true c.halved_product-p.result c.halved_product-p.ensures F) p.1,
    )

pub returns-then-f : goal.returns-then-f
unfolding of_bits
returns-then-f c =
    let l = c.args.c in
    let y = c.args.f.y in
    let n = c.requires.0.near c.requires.1 in
    let h = fit y.lo c.well_formed.0.1.1.0.1.1.1.0.1 in
    let p = c.far_bounds-high.ensures in
    let s = c.far_sums-with_high.ensures in (
      nothing false l.down y.hi c.args.a c.requires.3 n.0 c.requires.2 y.lo n.1 h c.if-f.true s.0 p.0,
      nothing true l.up y.hi c.args.a c.requires.4 n.0 c.requires.2 y.lo n.1 h c.if-f.true s.1 p.1,
    )

pub returns-then-not-far-2 : goal.returns-then-not-far-2
returns-then-not-far-2 c =
    let l = c.args.c in
    let y = c.args.f.y in
    let n = c.requires.0.near c.requires.1 in
    let p = c.far_bounds-high.ensures in
    let q = c.product_bounds.ensures in
    let r = c.rounded_sums.ensures in
    let s = c.far_sums-with_high.ensures in (
      after false l.down y.hi c.args.a c.requires.3 n.0 c.requires.2 y.lo n.1 r.0 s.0 p.0 q.0,
      after true l.up y.hi c.args.a c.requires.4 n.0 c.requires.2 y.lo n.1 r.1 s.1 p.1 q.1,
    )

pub far_sums-requires : goal.far_sums-requires
far_sums-requires c =
    let l = c.args.c in
    let y = c.args.f.y in
    let n = c.requires.0.near c.requires.1 in
    let half = product_half y.lo c.args.a (fit y.lo c.well_formed.0.1.1.0.1.1.1.0.1) (fit c.args.a c.well_formed.1.0.1) n.1 c.requires.2 in
    let F = c.far-2.ensures (subst T (sym c.if-not-far-2.false) tt) in
    let p = c.far_bounds-high.ensures in
    let q = c.far_bounds-low.ensures in
    let s = c.far_sums-with_high.ensures in (
      second false l.down y.hi c.args.a c.requires.3 n.0 c.requires.2 y.lo n.1 (half false c.halved_product-q.result c.halved_product-q.ensures F) s.0 p.0 q.0,
      second true l.up y.hi c.args.a c.requires.4 n.0 c.requires.2 y.lo n.1 (half true c.halved_product-q.result c.halved_product-q.ensures F) s.1 p.1 q.1,
    )

pub returns : goal.returns
returns c =
    let l = c.args.c in
    let y = c.args.f.y in
    let n = c.requires.0.near c.requires.1 in
    let p = c.far_bounds-high.ensures in
    let q = c.far_bounds-low.ensures in
    let r = c.far_sums.ensures in
    let s = c.far_sums-with_high.ensures in (
      last false l.down y.hi c.args.a c.requires.3 n.0 c.requires.2 y.lo n.1 r.0 s.0 p.0 q.0,
      last true l.up y.hi c.args.a c.requires.4 n.0 c.requires.2 y.lo n.1 r.1 s.1 p.1 q.1,
    )
