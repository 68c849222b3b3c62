-- `places_fine` meets its contract. Assumes nothing.
use lib.Dec.{ltb}
use lib.ListN.{length, get_or}
use Rattle.std.proofs.lemmas.List.{length_push}
use Rattle.std.proofs.lemmas.Slice.Zip.{zip_turn}
use Rattle.loops.proofs.All.{none_asked, one_asked}
use Rattle.questions.specs.PlaceQuestions.{place_fine_at}
use Rattle.questions.proofs.PlaceTests.{or_set}
use Rattle.questions.proofs.basis.places_fine.Goals as goal

pub loop-flag-init : goal.loop-flag-init
loop-flag-init c = none_asked (place_fine_at c.args.rows c.args.basic.now c.args.places.now) (length c.args.basic.now)

pub loop-flag-preserved : goal.loop-flag-preserved
loop-flag-preserved c =
    let turn =
    zip_turn c.args.basic.now c.args.places.now c.loop-flag.yielded _ _ c.next.new.self _ (cc) (cc) c.loop-flag.yielded_by
    (c.in-Some.flag, c.in-Some.place) c.in-Some.is c.next.ensures.steps
    in
    let v = length c.loop-flag.yielded in
    let test = or_set (get_or c.args.basic.now v 0) (ltb (get_or c.args.places.now v 0) c.args.rows) in
    let fine = place_fine_at c.args.rows c.args.basic.now c.args.places.now in
    rw (length_push c.loop-flag.yielded (c.in-Some.flag, c.in-Some.place), turn.2 0, turn.3 0) (one_asked fine c.loop-flag.invariant turn.0 test)
