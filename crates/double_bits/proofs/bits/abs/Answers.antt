-- `abs` meets its contract: the double of the same rank that is not negative. Assumes nothing.
use mathlib.Core.Bool.{false}
use mathlib.Core.Path.{sym, ap, ◌∙◌}
use Rattle.rank_arithmetic.specs.Rank.{double}
use Rattle.doubles.proofs.Tests.{fit, rank_bits, rank_most, absolute_rank, absolute-nan}
use Rattle.double_bits.proofs.Nan.{nan_is}
use Rattle.double_bits.proofs.bits.abs.Goals as goal

pub returns-then-is_nan : goal.returns-then-is_nan
returns-then-is_nan c = absolute-nan c.args.x (nan_is c.args.x (sym c.is_nan.ensures.value ∙ c.if-is_nan.true))

pub positive-requires : goal.positive-requires
positive-requires c = rank_most c.args.x c.if-is_nan.ensures.not_nan (fit c.args.x c.well_formed.0.1)

pub returns : goal.returns
returns c =
    let t = c.if-is_nan.ensures.not_nan in
    let h = fit c.args.x c.well_formed.0.1 in
    c.positive.ensures ∙ ap (double false) (rank_bits c.args.x t h) ∙ absolute_rank c.args.x t h
