-- The parts of a text as the code reads them, one after the other, are those of the definition. Assumes nothing.
use mathlib.Core.Path.{◌≡◌, refl, ◌∙◌}
use mathlib.Core.List.{List, map}
use Prim.Native.Nat.{ℕ, ◌+◌}
use mathlib.Core.Bool.{Bool}
use mir.Val.{bool_byte}
use Rattle.std.specs.Prelude.{Option}
use Rattle.questions.specs.declared.widened.Marks.{Marks}
use Rattle.questions.specs.Marks.{no_marks, marks_from, marks_of, count_of}
use Rattle.text_items.specs.declared.words.Item.{Item}
use Rattle.text_lines.specs.declared.heading_line.Heading.{Heading}
use Rattle.text_lines.specs.declared.sided_lines.SidedLine.{SidedLine}
use Rattle.text_lines.specs.Heading.{heading}
use Rattle.text_lines.specs.MultiplierLines.{multipliers_line}
use Rattle.text_lines.specs.SidedLines.{leave_line}
use Rattle.text_lists.specs.Variables.{variable_lines, variable_lines_end}
use Rattle.text_lists.specs.declared.row_lists.Reached.{Reached}
use Rattle.text_lists.specs.Rows.{row_lines, rows_reached, rows_pairs}
use Rattle.text_lists.specs.Widened.{item, widened_lines, widened_lines_end}
use Rattle.text_lists.specs.Multipliers.{rho_lines, rho_lines_end}
use Rattle.sheet_text.specs.Parts.{structural_lines_in, variable_lines_in, rows_from, row_lines_in, pairs_in, rows_reached_in, widened_in, widened_end_in, multipliers_in}
use Rattle.sheet_text.specs.Parts.{rho_lines_in, leave_in}
use Rattle.sheet_text.specs.Form.{read_in}
use Rattle.sheet_text.specs.SheetIn.{sheet_in}

-- what the code reads, in its order
pub record Gathered (text : List ℕ) (head : Heading) (from : Option ℕ) (rows : Reached) (behind : Option ℕ) (checked : Item Bool) (last : Option ℕ) (leave : SidedLine) : Type 0 where
  pub head_is : head ≡ heading text
  pub from_is : from ≡ variable_lines_end text head.structurals (head.structurals + head.rows) head.next
  pub rows_reach : rows ≡ rows_reached text head.rows from
  pub behind_is : behind ≡ widened_lines_end text rows.next
  pub checked_is : checked ≡ multipliers_line text behind
  pub last_is : last ≡ rho_lines_end text (bool_byte checked.value) head.rows checked.next
  pub leave_is : leave ≡ leave_line text last

module _ {text : List ℕ} {head : Heading} {from : Option ℕ} {rows : Reached} {behind : Option ℕ} {checked : Item Bool} {last : Option ℕ} {leave : SidedLine}
    (g : Gathered text head from rows behind checked last leave) where
  pub read_is : record {
    rows = head.rows;
    structurals = head.structurals;
    entries = rows.count;
    feasibility = head.feasibility;
    checked = bool_byte checked.value;
    leaving_row = leave.number;
    leaving_up = bool_byte leave.up;
    next = leave.next;
  } ≡ read_in text
  unfolding read_in rows_from rows_reached_in widened_end_in multipliers_in leave_in
  read_is = rw (g.leave_is, g.last_is, g.checked_is, g.behind_is, g.rows_reach, g.from_is, g.head_is)

  pub structurals_are : variable_lines text head.structurals head.structurals head.next ≡ structural_lines_in text
  unfolding structural_lines_in
  structurals_are = rw g.head_is

  pub variables_are : variable_lines text head.structurals (head.structurals + head.rows) head.next ≡ variable_lines_in text
  unfolding variable_lines_in
  variables_are = rw g.head_is

  pub rows_are : row_lines text head.rows from ≡ row_lines_in text
  unfolding row_lines_in rows_from
  rows_are = rw (g.from_is, g.head_is)

  pub pairs_are : rows_pairs text head.rows from ≡ pairs_in text
  unfolding pairs_in rows_from
  pairs_are = rw (g.from_is, g.head_is)

  pub widened_are : map item (widened_lines text rows.next) ≡ widened_in text
  unfolding widened_in rows_reached_in rows_from
  widened_are = rw (g.rows_reach, g.from_is, g.head_is)

  -- the marks that the widened lines set
  pub marks_are : {count : ℕ} {m : Marks} → count ≡ count_of head.rows head.structurals → m ≡ marks_from count no_marks (map item (widened_lines text rows.next))
      → m ≡ marks_of (count_of (sheet_in text).rows (sheet_in text).structurals) (sheet_in text).widened
  unfolding sheet_in read_in marks_of
  marks_are e is = is ∙ rw (e, widened_are, g.head_is) refl

  pub rhos_are : rho_lines text (bool_byte checked.value) head.rows checked.next ≡ rho_lines_in text
  unfolding rho_lines_in multipliers_in widened_end_in rows_reached_in rows_from
  rhos_are = rw (g.checked_is, g.behind_is, g.rows_reach, g.from_is, g.head_is)
