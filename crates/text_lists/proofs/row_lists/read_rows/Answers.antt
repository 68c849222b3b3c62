-- `read_rows` meets its contract. Assumes nothing.
use mathlib.Core.Path.{ap, ◌∙◌}
use Rattle.std.proofs.Common.{rules}
use Rattle.repeats.proofs.Runs.{leads_start, leads_turn, leads_end}
use Rattle.text_lists.specs.Lent.{RowLists, with_row}
use Rattle.text_lists.proofs.Reaching.{row_moves}
use Rattle.text_lists.proofs.Slices.{rows_then}
use Rattle.text_lists.proofs.Storing.{rows_left_start, rows_left_turn, rows_left_end}
use Rattle.text_lists.proofs.row_lists.read_rows.Goals as goal

pub loop-i-init : goal.loop-i-init
loop-i-init c = record { leads = leads_start; same = search rules; lists = rows_left_start _ _ }

pub loop-i-preserved : goal.loop-i-preserved
loop-i-preserved c =
    record {
      leads = leads_turn c.loop-i-test.true c.read_row-row.ensures.value c.loop-i.invariant.leads;
      same = rows_then (rows_then c.loop-i.invariant.same c.read_row-row.ensures.same_slices) c.store_row.ensures.same_slices;
      lists =
          rows_left_turn _ _ c.loop-i-test.true c.read_row-row.ensures.value (row_moves _ _ _ c.read_row-row.ensures.value)
          (c.store_row.ensures.value ∙ ap (λ (l : RowLists). with_row c.loop-i.i c.read_row-row.result l) c.read_row-row.ensures.lists) c.loop-i.invariant.lists;
    }

pub returns : goal.returns
returns c = record {
  value = leads_end c.loop-i-test.false c.loop-i.invariant.leads;
  same_slices = c.loop-i.invariant.same;
  lists = rows_left_end _ _ c.loop-i-test.false c.loop-i.invariant.lists;
}
