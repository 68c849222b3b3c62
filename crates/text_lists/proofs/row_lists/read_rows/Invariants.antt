-- `read_rows` meets its contract. Assumes nothing.
use Rattle.repeats.proofs.Runs.{Leads}
use Rattle.text_lists.specs.declared.row_lists.Reached.{Reached}
use Rattle.text_lists.specs.Lent.{SameRows, lent_rows}
use Rattle.text_lists.specs.Rows.{row_at, after_row, no_pair_yet}
use Rattle.text_lists.proofs.Storing.{RowsLeft}
use Rattle.text_lists.proofs.row_lists.read_rows.Given as goal

abbrev pub invariant-loop-i : goal.invariant-loop-i
invariant-loop-i l =
    let here : Reached = record { count = l.count; next = l.next } in
    record {
      leads : Leads (row_at l.text) after_row l.rows (no_pair_yet l.fn.position) l.i here;
      same : SameRows l.initial.l l.l;
      lists : RowsLeft l.text l.rows l.fn.position (lent_rows l.initial.l) l.i here (lent_rows l.l);
    }
