-- `walk_all` meets its contract: the window of the walk is all variables. Assumes nothing.
use native.Mathlib.Omega.{arith}
use mathlib.Core.Path.{◌≡◌, ◌∙◌}
use Prim.Native.Nat.{◌-◌}
use Rattle.certificate.specs.Certificate.{certificate}
use Rattle.sheet.specs.Outputs.{lent_lists}
use Rattle.edges.specs.Model.{lent_model}
use Rattle.walk.proofs.Laws.{from_started}
use Rattle.judgement.proofs.gap.walk_all.Goals as goal

pub returns : goal.returns
returns c =
    let m = lent_model c.args.s.now c.args.marks.now in
    let all : c.args.count - 0 ≡ c.args.count = omega arith in
    c.walk_over.ensures
    ∙ rw (c.started-before.ensures, all) (from_started m c.args.leaving c.args.estimated (certificate (lent_lists c.args.l.now) c.args.errors.now c.args.c) c.args.count)
