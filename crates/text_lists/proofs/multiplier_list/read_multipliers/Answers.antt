-- `read_multipliers` meets its contract. Assumes nothing.
use Rattle.std.proofs.Common.{rules}
use Rattle.repeats.proofs.Runs.{leads_start, leads_turn, leads_end}
use Rattle.text_lists.proofs.Slices.{rhos_then}
use Rattle.text_lists.proofs.Storing.{run_left_start, run_left_turn, run_left_end, rhos_store}
use Rattle.text_lists.proofs.multiplier_list.read_multipliers.Goals as goal

pub loop-i-init : goal.loop-i-init
loop-i-init c = record { leads = leads_start; same = search rules; lists = run_left_start }

pub loop-i-preserved : goal.loop-i-preserved
loop-i-preserved c = record {
  leads = leads_turn c.loop-i-test.true c.rho_line-line.ensures c.loop-i.invariant.leads;
  same = rhos_then c.loop-i.invariant.same c.store_rho.ensures.same_slices;
  lists = run_left_turn rhos_store c.loop-i-test.true c.rho_line-line.ensures c.store_rho.ensures.value c.loop-i.invariant.lists;
}

pub returns : goal.returns
returns c = record {
  value = leads_end c.loop-i-test.false c.loop-i.invariant.leads;
  same_slices = c.loop-i.invariant.same;
  lists = run_left_end rhos_store c.loop-i-test.false c.loop-i.invariant.lists;
}
