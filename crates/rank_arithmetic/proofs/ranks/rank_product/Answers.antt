-- `rank_product` meets its contract: the significands are multiplied and the exponents added. Assumes nothing.
use Rattle.rank_arithmetic.proofs.WideRanks.{same_bounds}
use Rattle.rank_arithmetic.proofs.RankFields.{Factors, product_is, product_rankable}
use Rattle.rank_arithmetic.proofs.ranks.rank_product.Goals as goal

factors : (c : goal.After-from-2) → Factors c.args.r c.args.t c.exponent-j.result c.exponent-k.result c.from.result c.from-2.result
factors c = record {
  first_pos = c.requires.0;
  first_finite = c.requires.1;
  second_pos = c.requires.2;
  second_finite = c.requires.3;
  first_exponent = c.exponent-j.ensures;
  second_exponent = c.exponent-k.ensures;
  first_significand = c.from.ensures;
  second_significand = c.from-2.ensures;
}

pub wide_ranks-requires : goal.wide_ranks-requires
wide_ranks-requires c = product_rankable (factors c)

pub returns : goal.returns
returns c = same_bounds 1074 (product_is (factors c.before)) c.wide_ranks.ensures
