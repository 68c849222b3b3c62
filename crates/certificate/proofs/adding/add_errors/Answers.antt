-- `add_errors` meets its contract. Assumes nothing.
use lib.Ieee.{nan}
use lib.ListN.{length-append}
use Rattle.std.proofs.lemmas.Slice.Zip.{zip_turn}
use Rattle.certificate.proofs.Turns.{first_error, error_asks, next_error}
use Rattle.certificate.proofs.adding.add_errors.Goals as goal

pub loop-v-init : goal.loop-v-init
loop-v-init c = first_error c.args.distance c.requires

pub add_error-requires : goal.add_error-requires
add_error-requires c =
    let t =
    zip_turn c.args.columns.now c.args.entries.now c.loop-v.yielded c.into_iter-v-iterator.result c.loop-v.v-iterator c.next.new.self _
    (cc) (cc) c.loop-v.yielded_by _ c.in-Some.is c.next.ensures.steps in
    error_asks c.args.distance c.requires c.loop-v.invariant t.0 (t.2 0)

pub loop-v-preserved : goal.loop-v-preserved
loop-v-preserved c =
    let t =
    zip_turn c.args.columns.now c.args.entries.now c.loop-v.yielded c.into_iter-v-iterator.result c.loop-v.v-iterator c.next.new.self _
    (cc) (cc) c.loop-v.yielded_by _ c.in-Some.is c.next.ensures.steps in
    rw length-append (next_error c.args.distance c.requires c.loop-v.invariant t.0 (t.2 0) (t.3 nan) c.add_error.ensures)
