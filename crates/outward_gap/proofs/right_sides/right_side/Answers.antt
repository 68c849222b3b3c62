-- `right_side` meets its contract. Assumes nothing.
use mathlib.Core.Path.{refl}
use lib.Ieee.{of_bits, nan}
use lib.ListN.{length, length-append}
use Rattle.std.proofs.lemmas.Slice.Zip.{zip_turn}
use Rattle.loops.proofs.Turns.{first, next}
use Rattle.multipliers.specs.declared.weighing.Multiplier.TheVariants.{Dropped}
use Rattle.gaps.specs.Steps.{right_side, with_right_side}
use Rattle.outward_gap.specs.Lent.{kept_in, rows_lent}
use Rattle.outward_gap.proofs.right_sides.right_side.Goals as goal

pub loop-m-init : goal.loop-m-init
unfolding of_bits right_side
loop-m-init c = λ variables. first (right_side (kept_in c.args.multipliers.now) (rows_lent c.args.rows.now variables)) (length c.args.multipliers.now)

pub loop-m-preserved : goal.loop-m-preserved
unfolding right_side
loop-m-preserved c =
    let t =
    zip_turn c.args.multipliers.now c.args.rows.now.right_sides.now c.loop-m.yielded c.into_iter-m-iterator.result c.loop-m.m-iterator c.next.new.self _
    (cc) (cc) c.loop-m.yielded_by _ c.in-Some.is c.next.ensures.steps in
    λ variables. rw length-append
    (next (with_right_side (kept_in c.args.multipliers.now (length c.loop-m.yielded)) ((rows_lent c.args.rows.now variables).right_sides (length c.loop-m.yielded)))
    (c.loop-m.invariant variables) t.0 refl
    (rw (t.2 Dropped, t.3 nan) at c.with_right_side-sum.ensures))
