-- `basis_fine` meets its contract. Assumes nothing.
use native.Mathlib.Omega.{arith}
use mathlib.Core.Path.{ap}
use mathlib.Core.Bool.{not}
use Prim.Native.Nat.{◌+◌}
use Rattle.questions.specs.Limits.{most_rows}
use Rattle.questions.proofs.Tallies.{some_beyond, then_held, get_d_replicate}
use Rattle.questions.proofs.basis.basis_fine.Goals as goal

pub returns-then-not-places_fine : goal.returns-then-not-places_fine
returns-then-not-places_fine c = some_beyond c.args.rows c.args.basic.now c.args.places.now c.places_fine.ensures (ap not c.if-not-places_fine.true)

pub held_once-requires : goal.held_once-requires
held_once-requires c =
    record {
      same = c.requires.1;
      few = c.requires.0;
      room = omega arith;
      zeros = λ p. get_d_replicate (most_rows + 1) 0 p;
    }

pub returns : goal.returns
returns c = then_held c.args.rows c.args.basic.now c.args.places.now c.places_fine.ensures (ap not c.if-not-places_fine.false) c.held_once.ensures
