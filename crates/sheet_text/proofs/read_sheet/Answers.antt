-- `read_sheet` meets its contract. Assumes nothing.
use mathlib.Core.Path.{refl}
use native.Mathlib.Omega.{arith}
use Rattle.questions.proofs.Counts.{count_most}
use Rattle.sheet_text.proofs.Counts.{heading_below}
use Rattle.sheet_text.proofs.Gathered.{Gathered, read_is, structurals_are, variables_are, rows_are, pairs_are, marks_are, rhos_are}
use Rattle.sheet_text.proofs.read_sheet.Goals as goal

pub overflow_add-lines : goal.overflow_add-lines
overflow_add-lines c = omega (arith, heading_below c.args.text.now c.heading_lines-head.ensures)

pub read_widened-behind-requires : goal.read_widened-behind-requires
read_widened-behind-requires c = rw c.variable_count-count.ensures (count_most c.heading_lines-head.result.rows c.heading_lines-head.result.structurals)

pub returns : goal.returns
returns c =
    let g : Gathered c.args.text.now c.heading_lines-head.result c.read_variables-from.result c.read_rows-rows.result c.read_widened-behind.result
    c.multipliers_line-multipliers.result c.read_multipliers-last.result c.leave_line-leave.result =
    record {
      head_is = c.heading_lines-head.ensures;
      from_is = c.read_variables-from.ensures.value;
      rows_reach = c.read_rows-rows.ensures.value;
      behind_is = c.read_widened-behind.ensures.value;
      checked_is = c.multipliers_line-multipliers.ensures;
      last_is = rw c.from-checked.ensures at c.read_multipliers-last.ensures.value;
      leave_is = c.leave_line-leave.ensures;
    }
    in
    record {
      value = rw (c.from-checked.ensures, c.from.ensures) (read_is g);
      same_slices = record {
        variables_same = c.read_variables-from.ensures.same_slices;
        rows_same = c.read_rows-rows.ensures.same_slices;
        rhos_same = c.read_multipliers-last.ensures.same_slices;
      };
      lists =
          rw (
            ← structurals_are g,
            ← variables_are g,
            ← rows_are g,
            ← pairs_are g,
            ← rhos_are g,
            c.read_variables-from.ensures.lists,
            c.read_rows-rows.ensures.lists,
            c.read_multipliers-last.ensures.lists,
            c.from-checked.ensures,
          ) refl;
      marks_after = marks_are g c.variable_count-count.ensures (rw c.requires at c.read_widened-behind.ensures.marks_after);
    }
