-- `add_rows` meets its contract. Assumes nothing.
use native.Mathlib.Omega.{arith}
use Rattle.std.proofs.Common.{rules}
use lib.Ieee.{of_bits}
use Rattle.certificate.proofs.Slices.{same-then}
use Rattle.certificate.proofs.Rows.{first_row, fewer, row_goes_on, next_row}
use Rattle.certificate.proofs.combine.add_rows.Goals as goal

pub loop-r-init : goal.loop-r-init
unfolding of_bits
loop-r-init c = (search rules, first_row c.requires.go_on)

pub add_row-c-requires-clause-goes_on : goal.add_row-c-requires-clause-goes_on
add_row-c-requires-clause-goes_on c = row_goes_on c.requires.go_on c.loop-r.invariant.1 (omega arith)

pub loop-r-preserved : goal.loop-r-preserved
loop-r-preserved c = (same-then c.loop-r.invariant.0 c.add_row-c.ensures.same_slices, next_row c.requires.go_on c.loop-r.invariant.1 (omega arith) c.add_row-c.ensures.value)

pub add_row-c-requires-clause-weighed : goal.add_row-c-requires-clause-weighed
add_row-c-requires-clause-weighed c = fewer c.requires.weighed (omega arith)
