-- `sheet_verdict` meets its contract. Assumes nothing.
use Rattle.std.proofs.Common.{rules}
use Rattle.ushnazar_c.proofs.Told.{told_promised}
use Rattle.ushnazar_c.proofs.sheet_verdict.Goals as goal

pub returns : goal.returns
returns c = record { promised = told_promised _ c.from.ensures c.sheet_verdict.ensures.promised (search rules) }
