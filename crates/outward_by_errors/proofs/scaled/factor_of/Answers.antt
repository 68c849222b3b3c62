-- `factor_of` meets its contract. Assumes nothing.
use mathlib.Core.Path.{refl}
use lib.Ieee.Fits.{and_l, and_r}
use Rattle.doubles.proofs.Tests.{fit}
use Rattle.outward_by_errors.proofs.Limits.{tested, most_factor}
use Rattle.outward_by_errors.proofs.scaled.factor_of.Goals as goal

pub returns : goal.returns
returns c =
    let y = c.args.y in (
      refl,
      record {
        high = c.split.ensures.0;
        low = c.split-2.ensures.0;
        near = λ t. (
          tested 510 y.hi most_factor (fit y.hi c.well_formed.0.1.1.0.1) c.within.ensures (and_l c.within.result c.within-2.result t),
          tested 510 y.lo most_factor (fit y.lo c.well_formed.0.1.1.1.0.1) c.within-2.ensures (and_r c.within.result c.within-2.result t),
        );
      },
    )
