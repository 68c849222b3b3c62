-- `shifted` meets its contract. Assumes nothing.
use Rattle.doubles.proofs.Patterns.{finite_no_nan}
use Rattle.doubles.proofs.Tests.{fit, rank_most}
use Rattle.outward_by_errors.proofs.AddedNext.{shift_is}
use Rattle.outward_by_errors.proofs.shifted.shifted.Goals as goal

pub float_to_bits-s : goal.float_to_bits-s
float_to_bits-s g c = finite_no_nan c.args.s.hi c.requires.0.most.is_finite

pub positive-share-requires : goal.positive-share-requires
positive-share-requires g c = rank_most c.args.s.hi (finite_no_nan c.args.s.hi c.requires.0.most.is_finite) (fit c.args.s.hi c.well_formed.0.1.1.0.1)

pub returns : goal.returns
returns g c = shift_is _ c.args.s (fit c.args.s.hi c.well_formed.0.1.1.0.1) c.requires c.past.ensures c.positive-share.ensures c.where_asked.ensures c.moved.ensures
