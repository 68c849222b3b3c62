-- `add_rows` meets its contract. Assumes nothing.
use Rattle.certificate.specs.System.{lent_system}
use Rattle.certificate.specs.Certificate.{after_rows, certificate}
use Rattle.certificate.specs.Everywhere.{everywhere}
use Rattle.certificate.specs.Added.{no_sums}
use Rattle.sheet.specs.Outputs.{SameSlices, lent_lists}
use Rattle.loops.proofs.Turns.{Turn}
use Rattle.certificate.proofs.combine.add_rows.Given as goal

abbrev pub invariant-loop-r : goal.invariant-loop-r
invariant-loop-r l =
    let m = everywhere l.count (lent_system l.s l.estimated) in
    let before = certificate (lent_lists l.initial.l) l.initial.errors no_sums in
    SameSlices l.initial.l l.l × Turn (λ n. after_rows m n before) l.s.rows l.r (certificate (lent_lists l.l) l.errors l.c)
