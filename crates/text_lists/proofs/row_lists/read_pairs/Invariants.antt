-- `read_pairs` meets its contract. Assumes nothing.
use Prim.Native.Nat.{◌≤◌, max}
use Rattle.repeats.proofs.Chains.{ChainLeads, ChainCounts}
use Rattle.text_items.specs.Words.{most_bytes}
use Rattle.text_lines.specs.RowLines.{no_pair, pair}
use Rattle.text_lists.specs.Lent.{SameRows, lent_rows, with_pairs}
use Rattle.text_lists.specs.Rows.{after_pair}
use Rattle.text_lists.proofs.Storing.{ChainLeft}
use Rattle.text_lists.proofs.row_lists.read_pairs.Given as goal

abbrev pub invariant-loop-count : goal.invariant-loop-count
invariant-loop-count l =
    record {
      most : l.count ≤ max l.first most_bytes;
      leads : ChainLeads (no_pair l.text) (pair l.text) after_pair most_bytes l.first l.fn.position l.count l.next;
      counts : ChainCounts (no_pair l.text) (pair l.text) after_pair most_bytes l.first l.fn.position l.count l.next;
      same : SameRows l.initial.l l.l;
      lists : ChainLeft (no_pair l.text) (pair l.text) after_pair with_pairs most_bytes l.first l.fn.position (lent_rows l.initial.l) l.count l.next (lent_rows l.l);
    }
