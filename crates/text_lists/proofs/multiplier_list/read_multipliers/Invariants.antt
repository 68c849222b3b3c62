-- `read_multipliers` meets its contract. Assumes nothing.
use Rattle.repeats.proofs.Runs.{Leads}
use Rattle.text_lists.specs.Lent.{SameRhos, lent_rhos}
use Rattle.text_lists.specs.Multipliers.{rho_at, after_rho}
use Rattle.text_lists.proofs.Storing.{RunLeft, rhos_from}
use Rattle.text_lists.proofs.multiplier_list.read_multipliers.Given as goal

abbrev pub invariant-loop-i : goal.invariant-loop-i
invariant-loop-i l =
    record {
      leads : Leads (rho_at l.text l.checked) after_rho l.rows l.fn.position l.i l.next;
      same : SameRhos l.initial.l l.l;
      lists : RunLeft (rho_at l.text l.checked) after_rho rhos_from l.rows l.fn.position (lent_rhos l.initial.l) l.i l.next (lent_rhos l.l);
    }
