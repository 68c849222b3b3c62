-- Every starred sum holds, by one computation. Assumes nothing.
use mathlib.Core.Path.{◌≡◌, refl}
use mathlib.Core.List.{map}
use Rattle.std.specs.Prelude.{⊤}
use lib.Count.{count_trailing_zeros}
use lib.Ieee.{binary64, to_bits, of_bits, of_fields, odd, size, units, round, neg, sum, add, sub, mul, div, lt, is_nan, of_int}
use Rattle.exact.specs.Value.{exact, magnitude}
use Rattle.rank_arithmetic.specs.Rank.{rank, rank_down, rank_up}
use Rattle.doubles.specs.Directed.{product_with, round_up, round_down}
use Rattle.doubles.specs.Neighbours.{next_up, next_down}
use Rattle.doubles.specs.Compare.{absolute, larger}
use Rattle.cdouble.specs.Compensated.{two_sum, split, product_error, two_product, upper, add_up, mul_up, compensated_error}
use Rattle.tolerances.specs.BandEdge.{band_start, too_far, step_back, turns, band_edge}
use Rattle.hand_sums.specs.Starred.{Example, starred}

unfoldable pub arithmetic_computes : ⊤
unfolding to_bits of_bits of_fields odd count_trailing_zeros size units round neg sum add sub mul div lt is_nan of_int
arithmetic_computes = tt

unfoldable pub rounding_computes : ⊤
unfolding exact magnitude rank rank_down rank_up product_with round_up round_down next_up next_down absolute larger
rounding_computes = tt

unfoldable pairs_compute : ⊤
unfolding two_sum split product_error two_product upper add_up mul_up compensated_error band_start too_far step_back turns band_edge
pairs_compute = tt

pub starred_hold : map (λ (e : Example). to_bits binary64 e.given) starred ≡ map (λ (e : Example). e.bits) starred
unfolding starred arithmetic_computes rounding_computes pairs_compute
starred_hold = refl
