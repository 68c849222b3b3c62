-- The sheet that a text says, from the lists that it was read into, and the verdict on it. Assumes nothing.
use native.Mathlib.Omega.{arith}
use mathlib.Core.Path.{◌≡◌, refl, ap, sym, subst, ◌∙◌}
use mathlib.Core.Bool.{Bool, true, false, not}
use mathlib.Core.List.{List, []}
use Prim.Native.Nat.{ℕ}
use borrow.Author.Tests.{not-true, not-false}
use mir.Val.{bool_byte}
use lib.ListN.{length, get_or}
use lib.Seq.{length-sets}
use Rattle.loops.proofs.Branches.{when_true, when_false}
use Rattle.std.specs.Prelude.{Result, Err}
use Rattle.std.proofs.Math.Nat.{min-eq_left}
use Rattle.questions.specs.declared.widened.Marks.{Marks}
use Rattle.questions.specs.declared.widened.Widened.{Widened}
use Rattle.questions.specs.Marks.{count_of, marks_of}
use Rattle.questions.specs.Questions.{sizes_fine}
use Rattle.sheet.specs.Sheet.{Sheet}
use Rattle.sheet.specs.declared.numbers.Refusal.TheVariants.{Form, Sizes}
use Rattle.sheet.specs.Numbers.{number_of}
use Rattle.sheet.specs.Answers.{ask, first_no}
use Rattle.sheet.proofs.Accepted.{SizesHold, sizes_hold}
use Rattle.verdict.specs.declared.Verdict.{Verdict}
use Rattle.verdict.specs.Verdict.{verdict}
use Rattle.text_lines.specs.declared.variable_lines.VariableLine.{VariableLine}
use Rattle.text_lines.specs.declared.row_items.Pair.{Pair}
use Rattle.text_lines.specs.declared.multiplier_lines.RhoLine.{RhoLine}
use Rattle.text_lists.specs.declared.row_lists.RowLine.{RowLine}
use Rattle.sheet_text.specs.declared.Read.{Read}
use Rattle.sheet_text.specs.Form.{read_in, form_met, follows_form}
use Rattle.sheet_text.specs.Lent.{SheetLists, lists_in}
use Rattle.sheet_text.specs.SheetIn.{sheet_in}
use Rattle.sheet_text.proofs.Slices.{structurals_cut, variables_cut, rows_cut, starts_cut, pairs_cut, rhos_cut, form_is}
use Rattle.weigh_text.specs.Fronts.{HasRoom, fronts}
use Rattle.weigh_text.specs.TextVerdict.{sheet_with, text_verdict}

-- a sheet of sizes beyond the limits
sizes-refused : (s : Sheet) → sizes_fine s.rows s.structurals s.entry_count ≡ false → verdict s ≡ Err (number_of Sizes)
unfolding verdict first_no ask
sizes-refused s e = rw e refl

-- the lists have room for the largest sheet, and the first row is to start at 0
pub record Room (l : SheetLists) : Type 0 where
  pub has_room : (r : Read) → HasRoom (sheet_with r l [])
  pub first_start : get_or l.rows.starts 0 0 ≡ 0

-- ---- a text, and lists with room that it is read into
module _ (text : List ℕ) (room : SheetLists) where
  abbrev pub long : Sheet
  long = sheet_with (read_in text) (lists_in text room) (sheet_in text).widened

  long-has-room : Room room → HasRoom (sheet_with (read_in text) (lists_in text room) [])
  long-has-room r =
      let h = r.has_room (read_in text) in
      record {
        in_starts = rw length-sets h.in_starts;
        in_columns = rw length-sets h.in_columns;
        in_entries = rw length-sets h.in_entries;
        in_right_sides = rw length-sets h.in_right_sides;
        in_scales = rw length-sets h.in_scales;
        in_integer = rw length-sets h.in_integer;
        in_mins = rw length-sets h.in_mins;
        in_maxs = rw length-sets h.in_maxs;
        in_low_tolerances = rw length-sets h.in_low_tolerances;
        in_high_tolerances = rw length-sets h.in_high_tolerances;
        in_basic = rw length-sets h.in_basic;
        in_places = rw length-sets h.in_places;
        in_values = rw length-sets h.in_values;
        in_rho_hi = rw length-sets h.in_rho_hi;
        in_rho_lo = rw length-sets h.in_rho_lo;
        in_second = rw length-sets h.in_second;
      }

  abbrev Fine : Bool
  Fine = sizes_fine (read_in text).rows (read_in text).structurals (read_in text).entries

  -- the sheet at their fronts is the text's
  module _ (enough : Room room) (fine : Fine ≡ true) where
    h : HasRoom (sheet_with (read_in text) room [])
    h = enough.has_room (read_in text)

    sizes : SizesHold (read_in text).rows (read_in text).structurals (read_in text).entries
    sizes = sizes_hold (read_in text).rows (read_in text).structurals (read_in text).entries fine

    fronts_are : fronts long ≡ sheet_in text
    unfolding sheet_in
    fronts_are =
        rw (
          min-eq_left sizes.rows_most,
          min-eq_left sizes.structurals_most,
          min-eq_left sizes.entries_most,
          starts_cut text room.rows.starts (omega (arith, sizes.rows_most, h.in_starts)) enough.first_start,
          pairs_cut text (λ (item : Pair). item.column) room.rows.columns (omega (arith, sizes.entries_most, h.in_columns)),
          pairs_cut text (λ (item : Pair). item.entry) room.rows.entries (omega (arith, sizes.entries_most, h.in_entries)),
          rows_cut text (λ (row : RowLine). row.right) room.rows.right_sides (omega (arith, sizes.rows_most, h.in_right_sides)),
          rows_cut text (λ (row : RowLine). row.scale) room.rows.scales (omega (arith, sizes.rows_most, h.in_scales)),
          structurals_cut text (λ (line : VariableLine). bool_byte line.integer) room.variables.integer (omega (arith, sizes.structurals_most, h.in_integer)),
          variables_cut text (λ (line : VariableLine). line.min) room.variables.mins (omega (arith, sizes.rows_most, sizes.structurals_most, h.in_mins)),
          variables_cut text (λ (line : VariableLine). line.max) room.variables.maxs (omega (arith, sizes.rows_most, sizes.structurals_most, h.in_maxs)),
          variables_cut text (λ (line : VariableLine). line.low) room.variables.low_tolerances (omega (arith, sizes.rows_most, sizes.structurals_most, h.in_low_tolerances)),
          variables_cut text (λ (line : VariableLine). line.high) room.variables.high_tolerances (omega (arith, sizes.rows_most, sizes.structurals_most, h.in_high_tolerances)),
          variables_cut text (λ (line : VariableLine). bool_byte line.basic) room.variables.basic (omega (arith, sizes.rows_most, sizes.structurals_most, h.in_basic)),
          variables_cut text (λ (line : VariableLine). line.place) room.variables.places (omega (arith, sizes.rows_most, sizes.structurals_most, h.in_places)),
          variables_cut text (λ (line : VariableLine). line.value) room.variables.values (omega (arith, sizes.rows_most, sizes.structurals_most, h.in_values)),
          rhos_cut text (λ (line : RhoLine). line.hi) room.rhos.rho_hi (omega (arith, sizes.rows_most, h.in_rho_hi)),
          rhos_cut text (λ (line : RhoLine). line.lo) room.rhos.rho_lo (omega (arith, sizes.rows_most, h.in_rho_lo)),
          rhos_cut text (λ (line : RhoLine). line.second) room.rhos.second (omega (arith, sizes.rows_most, h.in_second)),
        )
        refl

  too_large : Fine ≡ false → verdict (fronts long) ≡ verdict (sheet_in text)
  unfolding sheet_in
  too_large large = sizes-refused (fronts long) large ∙ sym (sizes-refused (sheet_in text) large)

  -- so is the verdict on it, also where the sizes are beyond the limits
  fronts-verdict : Room room → verdict (fronts long) ≡ verdict (sheet_in text)
  fronts-verdict enough = go Fine refl
    where
      go : (b : Bool) → Fine ≡ b → verdict (fronts long) ≡ verdict (sheet_in text)
      go true fine = ap verdict (fronts_are enough fine)
      go false large = too_large large

  -- what was read, and the lists and marks that the call left
  module _ {r : Read} {left : SheetLists} (reads : r ≡ read_in text) (lists : left ≡ lists_in text room) where
    pub lists_have_room : Room room → HasRoom (sheet_with r left [])
    lists_have_room enough =
        let same : sheet_with r left [] ≡ sheet_with (read_in text) (lists_in text room) [] = rw (reads, lists) refl in
        subst HasRoom (sym same) (long-has-room enough)

    pub lists-verdict : Room room → {m : Marks} → m ≡ marks_of (count_of (sheet_in text).rows (sheet_in text).structurals) (sheet_in text).widened
        → {answer : Result Verdict ℕ}
        → ((widened : List Widened) → m ≡ marks_of (count_of r.rows r.structurals) widened → answer ≡ verdict (fronts (sheet_with r left widened)))
        → answer ≡ verdict (sheet_in text)
    unfolding sheet_in
    lists-verdict enough marked whole =
        let listed = (sheet_in text).widened in
        let long_is : sheet_with r left listed ≡ long = rw (reads, lists) refl in
        let here = whole listed (marked ∙ ap (λ (q : Read). marks_of (count_of q.rows q.structurals) listed) (sym reads)) in
        here ∙ ap (λ (s : Sheet). verdict (fronts s)) long_is ∙ fronts-verdict enough

-- ---- the first question, and the answer
module _ (text : List ℕ) {r : Read} (reads : r ≡ read_in text) {form : Bool} (asked : form ≡ form_met (length text) r.next) where
  form_asked : form ≡ follows_form text
  form_asked = asked ∙ ap (λ (q : Read). form_met (length text) q.next) reads ∙ form_is text

  pub text_refused : not form ≡ true → Err (number_of Form) ≡ text_verdict text
  unfolding text_verdict
  text_refused failed = when_false (verdict (sheet_in text)) refl (sym form_asked ∙ not-true form failed)

  pub text_full : {answer : Result Verdict ℕ} → not form ≡ false → answer ≡ verdict (sheet_in text) → answer ≡ text_verdict text
  unfolding text_verdict
  text_full passed full = when_true (Err (number_of Form)) full (sym form_asked ∙ not-false form passed)
