-- `tables::numbers` reads each number at its place. Assumes nothing.
use Rattle.std.proofs.Common.{rules, ◌<◌, ◌≢◌, length, arith, sym, get_or-set_other, get_or-set_same, below_more, length-set, refl}
use Rattle.std.proofs.lemmas.List.{length-replicate}
use Rattle.tables.specs.Table.{spelled}
use Rattle.tables.proofs.Spelled.{no_space, no_number}
use Rattle.tables.proofs.numbers.Goals as goal

pub loop-i-init : goal.loop-i-init
unfolding spelled
loop-i-init g c = record { long = length-replicate _ _; spelt = refl; read = λ k h. absurd (omega (arith, h)) }

pub returns-then-ne-clause-form : goal.returns-then-ne-clause-form
returns-then-ne-clause-form g c = no_space c.args.line.now c.loop-i.i g.row.N c.loop-i-test.true (search rules)

pub returns-in_err-place-clause-form : goal.returns-in_err-place-clause-form
returns-in_err-place-clause-form g c = search (rules, no_number)

pub loop-i-preserved : goal.loop-i-preserved
unfolding spelled
loop-i-preserved g c =
    record {
      long = simp length-set c.loop-i.invariant.long;
      spelt = search rules;
      read =
          below_more _ _
          (λ k h. let ne : k ≢ c.loop-i.i = omega arith in rw get_or-set_other (c.loop-i.invariant.read k h))
          (let lt : c.loop-i.i < length c.loop-i.place-items = omega (arith, c.loop-i.invariant.long) in rw get_or-set_same (sym c.in_ok-place.ensures));
    }
