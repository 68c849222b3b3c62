-- The errors before `v` are kept or made 0. Assumes nothing.
use Rattle.certificate.proofs.Keeping.{BasicKept}
use Rattle.certificate.proofs.combine.keep_basic.Given as goal

abbrev pub invariant-loop-v : goal.invariant-loop-v
invariant-loop-v l = BasicKept l.basic l.initial.errors l.errors l.v
