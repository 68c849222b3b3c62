-- `read_variables` meets its contract. Assumes nothing.
use Rattle.std.proofs.Common.{rules}
use Rattle.repeats.proofs.Runs.{leads_start, leads_turn, leads_end}
use Rattle.text_lists.proofs.Stored.{same_then, left_start, left_turn, left_end}
use Rattle.text_lists.proofs.variables.read_variables.Goals as goal

pub loop-i-init : goal.loop-i-init
loop-i-init c = record { leads = leads_start; same = search rules; lists = left_start _ _ _ _ }

pub loop-i-preserved : goal.loop-i-preserved
loop-i-preserved c = record {
  leads = leads_turn c.loop-i-test.true c.line_at-line.ensures c.loop-i.invariant.leads;
  same = same_then c.loop-i.invariant.same c.store_variable.ensures.same_slices;
  lists = left_turn _ _ _ _ c.loop-i-test.true c.line_at-line.ensures c.store_variable.ensures.value c.loop-i.invariant.lists;
}

pub returns : goal.returns
returns c = record {
  value = leads_end c.loop-i-test.false c.loop-i.invariant.leads;
  same_slices = c.loop-i.invariant.same;
  lists = left_end _ _ _ _ c.requires c.loop-i-test.false c.loop-i.invariant.lists;
}
