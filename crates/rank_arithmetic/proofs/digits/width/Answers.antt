-- `width` meets its contract: the zeros before the first set bit and the digits fill the half. Assumes nothing.
use native.Mathlib.Omega.{arith}
use Prim.Native.Nat.{◌/◌, ◌^◌}
use Rattle.rank_arithmetic.proofs.Widths.{size_leading, size_pos, size_shr}
use Rattle.rank_arithmetic.proofs.digits.width.Goals as goal

pub returns-then-hi-gt0 : goal.returns-then-hi-gt0
returns-then-hi-gt0 c = omega (arith, size_leading 64 (c.args.n / 2 ^ 64), size_shr c.args.n 64, size_pos (c.args.n / 2 ^ 64) c.if-hi-gt0.true)

pub returns-else-hi-gt0 : goal.returns-else-hi-gt0
returns-else-hi-gt0 c = omega (arith, size_leading 64 c.args.n)
