-- `add_terms` meets its contract. Assumes nothing.
use Rattle.std.proofs.Common.{rules}
use lib.ListN.{length-append}
use lib.Ieee.{nan}
use Rattle.std.proofs.lemmas.Slice.Zip.{zip_turn}
use Rattle.certificate.proofs.Slices.{same-then}
use Rattle.certificate.proofs.Turns.{first_term, term_asks, next_term}
use Rattle.certificate.proofs.kept_terms.add_terms.Goals as goal

pub loop-v-init : goal.loop-v-init
loop-v-init c = (search rules, first_term c.args.y c.requires)

pub add_term-requires : goal.add_term-requires
add_term-requires c =
    let t =
    zip_turn c.args.columns.now c.args.entries.now c.loop-v.yielded c.into_iter-v-iterator.result c.loop-v.v-iterator c.next.new.self _
    (cc) (cc) c.loop-v.yielded_by _ c.in-Some.is c.next.ensures.steps in
    term_asks c.args.y c.requires c.loop-v.invariant.1 t.0 (t.2 0)

pub loop-v-preserved : goal.loop-v-preserved
loop-v-preserved c =
    let t =
    zip_turn c.args.columns.now c.args.entries.now c.loop-v.yielded c.into_iter-v-iterator.result c.loop-v.v-iterator c.next.new.self _
    (cc) (cc) c.loop-v.yielded_by _ c.in-Some.is c.next.ensures.steps in
    (same-then c.loop-v.invariant.0 c.add_term.ensures.same_slices, rw length-append (next_term c.args.y c.requires c.loop-v.invariant.1 t.0 (t.2 0) (t.3 nan) c.add_term.ensures.value))
