-- `with_scaled` meets its contract. Assumes nothing.
use Rattle.doubles.proofs.Tests.{fit}
use Rattle.outward_by_errors.proofs.Limits.{tested, most_factor, most_end}
use Rattle.outward_by_errors.proofs.Running.{all_four}
use Rattle.outward_by_errors.proofs.scaled.with_scaled.Goals as goal

pub near_scaled-requires : goal.near_scaled-requires
near_scaled-requires c = let t = all_four c.args.f.near c.within.result c.within-2.result c.within-3.result c.if-f-within.true in (
  c.requires,
  t.0,
  tested 510 c.args.a most_factor (fit c.args.a c.well_formed.1.0.1) c.within.ensures t.1,
  tested 1020 c.args.down most_end (fit c.args.down c.well_formed.1.1.0.1) c.within-2.ensures t.2,
  tested 1020 c.args.up most_end (fit c.args.up c.well_formed.1.1.1.0.1) c.within-3.ensures t.3,
)
