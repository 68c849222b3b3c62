-- The doubles that are not negative, in order: the r-th, counted from 0, has the bit pattern r. Rank 0 is +0, rank 1 the smallest subnormal.
-- A magnitude is a whole number of units of 2 ^ -1074. q is the number of binary digits below the leading one: 52. Assumes nothing.
use Rattle.std.specs.Prelude.{Bool, true, false, ℕ, zero, suc, ◌+◌, ◌-◌, ◌*◌, ◌/◌, ◌^◌, Float}
use Rattle.std.specs.Float.{binary64}
use Rattle.std.specs.Float.Ieee.{of_bits, size}

-- how many units the r-th double is; the rank of the infinity counts as 2 ^ 1024
unfoldable pub at_rank : ℕ → ℕ → ℕ
at_rank q r = let k = r / 2 ^ q - 1 in (r - k * 2 ^ q) * 2 ^ k

-- the rank of the last double of at most n units
unfoldable pub rank : ℕ → ℕ → ℕ
rank q n = let k = size n - suc q in k * 2 ^ q + n / 2 ^ k

-- of the last double of at most n / 2 ^ l units, and of the first of at least that: the laws are `rank_down_iff` and `rank_up_iff` of proofs/Grid.antt
unfoldable pub rank_down : ℕ → ℕ → ℕ → ℕ
rank_down q l n = rank q (n / 2 ^ l)

unfoldable pub rank_up : ℕ → ℕ → ℕ → ℕ
rank_up q l zero = 0
rank_up q l (suc n) = suc (rank q (n / 2 ^ l))

-- the ranks of MAX, the largest finite double, and of the infinity
abbrev pub largest : ℕ
largest = 0x7fef_ffff_ffff_ffff

abbrev pub infinity : ℕ
infinity = 0x7ff0_0000_0000_0000

-- the double of a sign and a rank
abbrev pub double : Bool → ℕ → Float
double false r = of_bits binary64 r
double true r = of_bits binary64 (2 ^ 63 + r)
