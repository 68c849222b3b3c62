-- What is known of a factor that is reckoned once for many products. Assumes nothing.
use Rattle.std.specs.Prelude.{◌≡◌, T}
use Rattle.cdouble.specs.Compensated.{split}
use Rattle.cdouble.specs.Exactness.{AtMost}
use Rattle.outward_by_errors.specs.declared.scaled.Factor.{Factor}

-- its halves are Dekker's, and where it is near, both parts are at most 2 ^ 510
pub record Halved (f : Factor) : Type 0 where
  pub high : f.high ≡ split f.y.hi
  pub low : f.low ≡ split f.y.lo
  pub near : T f.near → AtMost 510 f.y.hi × AtMost 510 f.y.lo
