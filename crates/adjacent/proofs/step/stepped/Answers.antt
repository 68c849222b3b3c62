-- `stepped` meets its contract: the pattern is that of the neighbour, by the exponent and the digits. Assumes nothing.
use mathlib.Core.Path.{◌∙◌}
use Rattle.doubles.proofs.Patterns.{finite_no_nan}
use Rattle.doubles.proofs.Tests.{fit}
use Rattle.adjacent.proofs.Stepping.{rooms, of_nearer, of_further}
use Rattle.adjacent.proofs.step.stepped.Goals as goal
use Rattle.adjacent.proofs.step.stepped.Goals.{then-b, else-b}

pub float_to_bits-b : goal.float_to_bits-b
float_to_bits-b g c = finite_no_nan c.args.x c.requires.is_finite

pub nearer-r-requires : goal.nearer-r-requires
nearer-r-requires g c = (rooms c.args.x (fit c.args.x c.well_formed.0.1) c.requires).1

pub further-r-requires : goal.further-r-requires
further-r-requires g c = (rooms c.args.x (fit c.args.x c.well_formed.0.1) c.requires).0

pub float_from_bits-result : goal.float_from_bits-result
float_from_bits-result g c =
    let h = fit c.args.x c.well_formed.0.1 in elim c.if-b.branch [
      | then-b w ↦ (of_nearer c.args.x h c.requires _ w.if-b.true (w.r-is ∙ w.nearer-r.ensures)).0
      | else-b w ↦ (of_further c.args.x h c.requires _ w.if-b.false (w.r-is ∙ w.further-r.ensures)).0
    ]

pub returns : goal.returns
returns g c =
    let h = fit c.args.x c.well_formed.0.1 in elim c.if-b.branch [
      | then-b w ↦ (of_nearer c.args.x h c.requires _ w.if-b.true (w.r-is ∙ w.nearer-r.ensures)).1
      | else-b w ↦ (of_further c.args.x h c.requires _ w.if-b.false (w.r-is ∙ w.further-r.ensures)).1
    ]
