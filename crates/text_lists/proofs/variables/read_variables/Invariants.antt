-- `read_variables` meets its contract. Assumes nothing.
use Rattle.repeats.proofs.Runs.{Leads}
use Rattle.text_lines.specs.VariableLines.{line_at}
use Rattle.text_lists.specs.VariablesLent.{SameSlices, lent_variables}
use Rattle.text_lists.specs.Variables.{after_variable}
use Rattle.text_lists.proofs.Stored.{Left}
use Rattle.text_lists.proofs.variables.read_variables.Given as goal

abbrev pub invariant-loop-i : goal.invariant-loop-i
invariant-loop-i l =
    record {
      leads : Leads (line_at l.text l.structurals) after_variable l.count l.fn.position l.i l.next;
      same : SameSlices l.initial.l l.l;
      lists : Left (line_at l.text l.structurals) after_variable l.structurals l.count l.fn.position (lent_variables l.initial.l) l.i l.next (lent_variables l.l);
    }
