-- `add_terms` meets its contract. Assumes nothing.
use lib.Ieee.{nan}
use lib.ListN.{length-append}
use Rattle.std.proofs.lemmas.Slice.Zip.{zip_turn}
use Rattle.outward_gap.proofs.Entries.{first_entry, entered_long, next_entry}
use Rattle.outward_gap.proofs.coefficients.add_terms.Goals as goal

pub loop-v-init : goal.loop-v-init
loop-v-init c = first_entry c.args.first c.args.y c.args.columns.now c.args.entries.now c.args.lower.now c.args.upper.now

pub add_term-requires : goal.add_term-requires
add_term-requires c = (c.factor_of-f.ensures.1, entered_long c.loop-v.invariant c.requires.1)

pub loop-v-preserved : goal.loop-v-preserved
loop-v-preserved c =
    let t =
    zip_turn c.args.columns.now c.args.entries.now c.loop-v.yielded c.into_iter-v-iterator.result c.loop-v.v-iterator c.next.new.self _
    (cc) (cc) c.loop-v.yielded_by _ c.in-Some.is c.next.ensures.steps in
    rw length-append (next_entry c.loop-v.invariant t.0 (t.2 0) (t.3 nan) (rw (c.factor_of-f.ensures.0) at c.add_term.ensures))
