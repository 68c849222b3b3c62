-- `tally` meets its contract. Assumes nothing.
use native.Mathlib.Omega.{arith}
use Rattle.std.proofs.lemmas.List.{length_push}
use Rattle.std.proofs.lemmas.Slice.Zip.{zip_turn}
use Rattle.questions.proofs.Tallies.{first, asks, next}
use Rattle.questions.proofs.basis.tally.Goals as goal

pub loop-flag-init : goal.loop-flag-init
loop-flag-init c = first c.requires

pub count-requires : goal.count-requires
count-requires c =
    let turn =
    zip_turn c.args.basic.now c.args.places.now c.loop-flag.yielded _ _ c.next.new.self _ (cc) (cc) c.loop-flag.yielded_by
    (c.in-Some.flag, c.in-Some.place) c.in-Some.is c.next.ensures.steps
    in
    rw (turn.2 0, turn.3 0) (asks c.requires c.loop-flag.invariant turn.0 (omega (arith, c.iter.ensures.bound)))

pub loop-flag-preserved : goal.loop-flag-preserved
loop-flag-preserved c =
    let turn =
    zip_turn c.args.basic.now c.args.places.now c.loop-flag.yielded _ _ c.next.new.self _ (cc) (cc) c.loop-flag.yielded_by
    (c.in-Some.flag, c.in-Some.place) c.in-Some.is c.next.ensures.steps
    in
    rw (length_push c.loop-flag.yielded (c.in-Some.flag, c.in-Some.place))
    (next c.requires c.loop-flag.invariant turn.0 (rw (turn.2 0, turn.3 0) at c.count.ensures))
