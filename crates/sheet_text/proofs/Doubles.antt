-- The numbers of the sheet that a text says are doubles, whatever the text: each is read from the bits of one. Assumes nothing.
use mathlib.Core.Bool.{Bool, true, false, cond}
use mathlib.Core.List.{List, map}
use Prim.Native.Nat.{ℕ}
use lib.Dec.{T, eqb, ltb}
use lib.Ieee.{Float, nan, binary64, fits, of_bits}
use lib.Ieee.Bits.{of_bits-fits}
use Rattle.std.specs.Prelude.{Option}
use Rattle.sheet.specs.Sheet.{AllDoubles, Doubles}
use Rattle.repeats.proofs.Each.{each_run, each_chain, each_gathered}
use Rattle.text_items.specs.Numbers.{double}
use Rattle.text_items.specs.Words.{expect}
use Rattle.text_items.specs.Text.{bytes}
use Rattle.text_lines.specs.declared.variable_lines.VariableLine.{VariableLine}
use Rattle.text_lines.specs.declared.row_items.Pair.{Pair}
use Rattle.text_lines.specs.declared.multiplier_lines.RhoLine.{RhoLine}
use Rattle.text_lines.specs.Heading.{heading}
use Rattle.text_lines.specs.VariableLines.{variable_from, var_line, slack_line, line_at}
use Rattle.text_lines.specs.RowLines.{row_head, pair}
use Rattle.text_lines.specs.MultiplierLines.{second_if, rho_line}
use Rattle.text_lists.specs.declared.row_lists.RowLine.{RowLine}
use Rattle.text_lists.specs.Rows.{row_line, row_pairs}
use Rattle.sheet_text.specs.Parts.{variable_lines_in, row_lines_in, pairs_in, rho_lines_in}
use Rattle.sheet_text.specs.Form.{read_in}
use Rattle.sheet_text.specs.SheetIn.{sheet_in}

abbrev IsDouble : Float → Type 0
IsDouble x = T (fits binary64 x)

past : IsDouble nan
unfolding fits
past = tt

-- ---- what a line says
module _ (text : List ℕ) where
  double-fits : (position : Option ℕ) → IsDouble (double text position).value
  unfolding double
  double-fits position = of_bits-fits binary64 _

  -- a variable's numbers
  record VariableFits (line : VariableLine) : Type 0 where
    min : IsDouble line.min
    max : IsDouble line.max
    low : IsDouble line.low
    high : IsDouble line.high
    value : IsDouble line.value

  variable_from-fits : (position : Option ℕ) (integer : Bool) → VariableFits (variable_from text position integer)
  unfolding variable_from
  variable_from-fits position integer = record { min = double-fits _; max = double-fits _; low = double-fits _; high = double-fits _; value = double-fits _ }

  variable-fits : (structurals i : ℕ) (position : Option ℕ) → VariableFits (line_at text structurals i position)
  unfolding line_at var_line slack_line
  variable-fits structurals i position = go (ltb i structurals)
    where
      go : (b : Bool) → VariableFits (cond b (var_line text position) (slack_line text position))
      go true = variable_from-fits _ _
      go false = variable_from-fits _ _

  row-fits : (first : ℕ) (position : Option ℕ) → IsDouble (row_line text first position).right × IsDouble (row_line text first position).scale
  unfolding row_line row_head
  row-fits first position = (double-fits _, double-fits _)

  pair-fits : (position : Option ℕ) → IsDouble (pair text position).entry
  unfolding pair
  pair-fits position = double-fits _

  second-fits : (checked : ℕ) (position : Option ℕ) → IsDouble (second_if text checked position).value
  unfolding second_if
  second-fits checked position = go (eqb checked 0)
    where
      go : (b : Bool) → IsDouble (cond b (record { value = of_bits binary64 0; next = position }) (double text (expect text position (bytes " ")))).value
      go true = of_bits-fits binary64 0
      go false = double-fits _

  record RhoFits (line : RhoLine) : Type 0 where
    hi : IsDouble line.hi
    lo : IsDouble line.lo
    second : IsDouble line.second

  rho-fits : (checked : ℕ) (position : Option ℕ) → RhoFits (rho_line text checked position)
  unfolding rho_line
  rho-fits checked position = record { hi = double-fits _; lo = double-fits _; second = second-fits _ _ }

  feasibility-fits : IsDouble (heading text).feasibility
  unfolding heading
  feasibility-fits = double-fits _

  -- ---- what the lists of lines say
  variables_fit : (f : VariableLine → Float) → ((line : VariableLine) → VariableFits line → IsDouble (f line)) → AllDoubles (map f (variable_lines_in text))
  unfolding variable_lines_in
  variables_fit f of = record { fit_at = each_run IsDouble f nan past _ _ (λ i position. of _ (variable-fits _ i position)) _ _ _ }

  rows_fit : (f : RowLine → Float) → ((first : ℕ) (position : Option ℕ) → IsDouble (f (row_line text first position))) → AllDoubles (map f (row_lines_in text))
  unfolding row_lines_in
  rows_fit f of = record { fit_at = each_run IsDouble f nan past _ _ (λ i reached. of _ _) _ _ _ }

  rhos_fit : (f : RhoLine → Float) → ((line : RhoLine) → RhoFits line → IsDouble (f line)) → AllDoubles (map f (rho_lines_in text))
  unfolding rho_lines_in
  rhos_fit f of = record { fit_at = each_run IsDouble f nan past _ _ (λ i position. of _ (rho-fits _ position)) _ _ _ }

  entries_fit : AllDoubles (map (λ (item : Pair). item.entry) (pairs_in text))
  unfolding pairs_in row_pairs
  entries_fit =
      record {
        fit_at =
            each_gathered IsDouble (λ (item : Pair). item.entry) nan past _ _ _
            (λ reached. each_chain IsDouble (λ (item : Pair). item.entry) nan past _ _ _ pair-fits _ _) _ _ _;
      }

-- ---- the sheet
pub text_of_doubles : (text : List ℕ) → Doubles (sheet_in text)
unfolding sheet_in read_in
text_of_doubles text =
    record {
      entries_fit = entries_fit text;
      right_sides_fit = rows_fit text (λ (row : RowLine). row.right) (λ first position. (row-fits text first position).0);
      scales_fit = rows_fit text (λ (row : RowLine). row.scale) (λ first position. (row-fits text first position).1);
      feasibility_fits = feasibility-fits text;
      mins_fit = variables_fit text (λ (line : VariableLine). line.min) (λ line fits. fits.min);
      maxs_fit = variables_fit text (λ (line : VariableLine). line.max) (λ line fits. fits.max);
      low_fit = variables_fit text (λ (line : VariableLine). line.low) (λ line fits. fits.low);
      high_fit = variables_fit text (λ (line : VariableLine). line.high) (λ line fits. fits.high);
      values_fit = variables_fit text (λ (line : VariableLine). line.value) (λ line fits. fits.value);
      rho_hi_fit = rhos_fit text (λ (line : RhoLine). line.hi) (λ line fits. fits.hi);
      rho_lo_fit = rhos_fit text (λ (line : RhoLine). line.lo) (λ line fits. fits.lo);
      second_fit = rhos_fit text (λ (line : RhoLine). line.second) (λ line fits. fits.second);
    }
