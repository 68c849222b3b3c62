-- `read_widened` meets its contract. Assumes nothing.
use Rattle.repeats.proofs.Chains.{ChainLeads}
use Rattle.text_items.specs.Words.{most_bytes}
use Rattle.text_lines.specs.SidedLines.{no_widened, widened_line}
use Rattle.text_lists.specs.Widened.{after_widened}
use Rattle.text_lists.proofs.Storing.{ChainLeft, marked_from}
use Rattle.text_lists.proofs.widened_list.read_widened.Given as goal

abbrev pub invariant-loop : goal.invariant-loop
invariant-loop l =
    record {
      leads : ChainLeads (no_widened l.text) (widened_line l.text) after_widened most_bytes 0 l.fn.position l.counter l.next;
      lists : ChainLeft (no_widened l.text) (widened_line l.text) after_widened (marked_from l.count) most_bytes 0 l.fn.position l.initial.marks l.counter l.next l.marks;
    }
