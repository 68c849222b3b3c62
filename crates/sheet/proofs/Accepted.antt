-- What an accepted sheet has, question by question. Assumes nothing.
use native.Mathlib.Omega.{arith}
use mathlib.Core.Path.{◌≡◌, refl}
use mathlib.Core.Bool.{Bool, true, false}
use mathlib.Core.List.{List, [], ◌∷◌}
use Prim.Native.Nat.{ℕ, zero, suc, ◌+◌, ◌-◌, ◌≤◌, ◌<◌}
use borrow.Author.Tests.{eqb-true, leb-true}
use lib.Dec.{eqb, leb}
use lib.Ieee.{Float}
use lib.ListN.{length, get_or}
use Rattle.questions.specs.Limits.{most_rows, most_structurals, most_entries}
use Rattle.sheet.specs.Sheet.{Sheet, sheet, sizes_of, variables}
use Rattle.loops.specs.Places.{all_below}
use Rattle.questions.specs.Rows.{RowsLie}
use Rattle.sheet.specs.Lengths.{rows_fit, variables_fit, outputs_fit, lengths_fit, lengths_fine}
use Rattle.questions.specs.Questions.{sizes_fine, bounds_fine, tolerances_fine, all_finite, leaving_row_fine}
use Rattle.questions.specs.RowQuestions.{rises_at, starts_fine, columns_fine, entries_fine}
use Rattle.questions.specs.PlaceQuestions.{basis_fine}
use Rattle.questions.specs.WidenedList.{widened_fine}
use Rattle.sheet.specs.Answers.{ask, first_no, Accepted}
use Rattle.loops.proofs.All.{Each, each, all_at}

-- ---- 2
pub record SizesHold (rows structurals entries : ℕ) : Type 0 where
  pub some : 1 ≤ rows
  pub rows_most : rows ≤ most_rows
  pub structurals_most : structurals ≤ most_structurals
  pub entries_most : entries ≤ most_entries

pub sizes_hold : (rows structurals entries : ℕ) → sizes_fine rows structurals entries ≡ true → SizesHold rows structurals entries
unfolding sizes_fine
sizes_hold rows structurals entries e =
    let h = each (leb 1 rows) (leb rows most_rows ∷ leb structurals most_structurals ∷ leb entries most_entries ∷ []) e in
    record {
      some = leb-true 1 rows h.0;
      rows_most = leb-true rows most_rows h.1.0;
      structurals_most = leb-true structurals most_structurals h.1.1.0;
      entries_most = leb-true entries most_entries h.1.1.1.0;
    }

-- ---- 3, of the slices that go by rows and entries, n of these
pub record RowsHold (rows n : ℕ) (starts columns : List ℕ) (entries right_sides scales rho_hi rho_lo second : List Float) : Type 0 where
  pub starts_long : length starts ≡ rows + 1
  pub columns_long : length columns ≡ n
  pub entries_long : length entries ≡ n
  pub right_sides_long : length right_sides ≡ rows
  pub scales_long : length scales ≡ rows
  pub rho_hi_long : length rho_hi ≡ rows
  pub rho_lo_long : length rho_lo ≡ rows
  pub second_long : length second ≡ rows

pub rows_hold : (rows n : ℕ) (starts columns : List ℕ) (entries right_sides scales rho_hi rho_lo second : List Float)
    → rows_fit rows n starts columns entries right_sides scales rho_hi rho_lo second ≡ true
    → RowsHold rows n starts columns entries right_sides scales rho_hi rho_lo second
unfolding rows_fit
rows_hold rows n starts columns entries right_sides scales rho_hi rho_lo second e =
    let h =
    each (eqb (length starts) (rows + 1))
    (eqb (length columns) n ∷ eqb (length entries) n ∷ eqb (length right_sides) rows ∷ eqb (length scales) rows
    ∷ eqb (length rho_hi) rows ∷ eqb (length rho_lo) rows ∷ eqb (length second) rows ∷ []) e in
    record {
      starts_long = eqb-true (length starts) (rows + 1) h.0;
      columns_long = eqb-true (length columns) (n) h.1.0;
      entries_long = eqb-true (length entries) (n) h.1.1.0;
      right_sides_long = eqb-true (length right_sides) (rows) h.1.1.1.0;
      scales_long = eqb-true (length scales) (rows) h.1.1.1.1.0;
      rho_hi_long = eqb-true (length rho_hi) (rows) h.1.1.1.1.1.0;
      rho_lo_long = eqb-true (length rho_lo) (rows) h.1.1.1.1.1.1.0;
      second_long = eqb-true (length second) (rows) h.1.1.1.1.1.1.1.0;
    }

-- of those that go by variables
pub record VariablesHold (count : ℕ) (mins maxs low high : List Float) (basic places : List ℕ) (values : List Float) : Type 0 where
  pub mins_long : length mins ≡ count
  pub maxs_long : length maxs ≡ count
  pub low_long : length low ≡ count
  pub high_long : length high ≡ count
  pub basic_long : length basic ≡ count
  pub places_long : length places ≡ count
  pub values_long : length values ≡ count

pub variables_hold : (count : ℕ) (mins maxs low high : List Float) (basic places : List ℕ) (values : List Float) → variables_fit count mins maxs low high basic places values ≡ true
    → VariablesHold count mins maxs low high basic places values
unfolding variables_fit
variables_hold count mins maxs low high basic places values e =
    let h =
    each (eqb (length mins) count)
    (eqb (length maxs) count ∷ eqb (length low) count ∷ eqb (length high) count ∷ eqb (length basic) count
    ∷ eqb (length places) count ∷ eqb (length values) count ∷ []) e in
    record {
      mins_long = eqb-true (length mins) (count) h.0;
      maxs_long = eqb-true (length maxs) (count) h.1.0;
      low_long = eqb-true (length low) (count) h.1.1.0;
      high_long = eqb-true (length high) (count) h.1.1.1.0;
      basic_long = eqb-true (length basic) (count) h.1.1.1.1.0;
      places_long = eqb-true (length places) (count) h.1.1.1.1.1.0;
      values_long = eqb-true (length values) (count) h.1.1.1.1.1.1.0;
    }

-- of all
pub record LengthsHold (s : Sheet) : Type 0 where
  pub by_row : RowsHold s.rows s.entry_count s.starts s.columns s.entries s.right_sides s.scales s.rho_hi s.rho_lo s.second
  pub by_variable : VariablesHold (variables s) s.mins s.maxs s.low_tolerances s.high_tolerances s.basic s.places s.values
  pub integer_long : length s.integer ≡ s.structurals
  pub outputs_do_fit : outputs_fit (variables s) s.outputs ≡ true

pub lengths_hold : (s : Sheet) → lengths_fine s ≡ true → LengthsHold s
unfolding lengths_fit
lengths_hold s e =
    let rowsPart = rows_fit s.rows s.entry_count s.starts s.columns s.entries s.right_sides s.scales s.rho_hi s.rho_lo s.second in
    let variablesPart = variables_fit (variables s) s.mins s.maxs s.low_tolerances s.high_tolerances s.basic s.places s.values in
    let h = each rowsPart (variablesPart ∷ eqb (length s.integer) s.structurals ∷ outputs_fit (variables s) s.outputs ∷ []) e in
    record {
      by_row = rows_hold s.rows s.entry_count s.starts s.columns s.entries s.right_sides s.scales s.rho_hi s.rho_lo s.second h.0;
      by_variable = variables_hold (variables s) s.mins s.maxs s.low_tolerances s.high_tolerances s.basic s.places s.values h.1.0;
      integer_long = eqb-true (length s.integer) s.structurals h.1.1.0;
      outputs_do_fit = h.1.1.1.0;
    }

-- ---- 4: the rows' parts lie within lists of n
module _ (rows n : ℕ) (starts : List ℕ) (e : starts_fine rows n starts ≡ true) where
  starts_parts : (eqb (get_or starts 0 0) 0 ≡ true) × Each (all_below rows (rises_at starts) ∷ eqb (get_or starts rows 0) n ∷ [])
  unfolding starts_fine
  starts_parts = each (eqb (get_or starts 0 0) 0) (all_below rows (rises_at starts) ∷ eqb (get_or starts rows 0) n ∷ []) e

  rises : (r : ℕ) → r < rows → get_or starts r 0 ≤ get_or starts (r + 1) 0
  rises r less = leb-true (get_or starts r 0) (get_or starts (r + 1) 0) (all_at (rises_at starts) rows starts_parts.1.0 r less)

  -- d rows before the end
  before_end : (d r : ℕ) → r + d ≡ rows → get_or starts r 0 ≤ n
  before_end zero r at = let last : r ≡ rows = omega arith in rw last (omega (arith, eqb-true (get_or starts rows 0) n starts_parts.1.1.0))
  before_end (suc d) r at = omega (arith, rises r (omega arith), before_end d (r + 1) (omega arith))

  pub rows_lie : length starts ≡ rows + 1 → RowsLie rows n starts
  rows_lie long = record { long = long; rises = rises; inside = λ r less. before_end (rows - (r + 1)) (r + 1) (omega arith) }

-- ---- all questions
pub record AllYes (s : Sheet) : Type 0 where
  pub sizes_are_fine : sizes_fine s.rows s.structurals s.entry_count ≡ true
  pub lengths_are_fine : lengths_fine s ≡ true
  pub starts_are_fine : starts_fine s.rows s.entry_count s.starts ≡ true
  pub columns_are_fine : columns_fine s.rows s.structurals s.starts s.columns ≡ true
  pub entries_are_fine : entries_fine s.rows s.starts s.entries s.right_sides ≡ true
  pub bounds_are_fine : bounds_fine s.mins s.maxs ≡ true
  pub tolerances_are_fine : tolerances_fine s.feasibility s.scales s.low_tolerances s.high_tolerances ≡ true
  pub basis_is_fine : basis_fine s.rows s.basic s.places ≡ true
  pub values_fine : all_finite s.values ≡ true
  pub widened_is_fine : widened_fine (variables s) s.widened ≡ true
  pub leaving_fine : leaving_row_fine s.rows s.leaving_row ≡ true

-- no question but the first "no" gives a number
asked : (b : Bool) (n later : ℕ) → ask b (suc n) later ≡ 0 → (b ≡ true) × (later ≡ 0)
unfolding ask
asked true n later e = (refl, e)
asked false n later e = absurd (omega (arith, e))

pub all_yes : (s : Sheet) → Accepted s → AllYes s
unfolding first_no
all_yes s e =
    let a2 = asked (sizes_fine s.rows s.structurals s.entry_count) 1 _ (e) in
    let a3 = asked (lengths_fine s) 2 _ a2.1 in
    let a4 = asked (starts_fine s.rows s.entry_count s.starts) 3 _ a3.1 in
    let a5 = asked (columns_fine s.rows s.structurals s.starts s.columns) 4 _ a4.1 in
    let a6 = asked (entries_fine s.rows s.starts s.entries s.right_sides) 5 _ a5.1 in
    let a7 = asked (bounds_fine s.mins s.maxs) 6 _ a6.1 in
    let a8 = asked (tolerances_fine s.feasibility s.scales s.low_tolerances s.high_tolerances) 7 _ a7.1 in
    let a9 = asked (basis_fine s.rows s.basic s.places) 8 _ a8.1 in
    let a10 = asked (all_finite s.values) 9 _ a9.1 in
    let a11 = asked (widened_fine (variables s) s.widened) 10 _ a10.1 in
    let a12 = asked (leaving_row_fine s.rows s.leaving_row) 11 _ a11.1 in
    record {
      sizes_are_fine = a2.0;
      lengths_are_fine = a3.0;
      starts_are_fine = a4.0;
      columns_are_fine = a5.0;
      entries_are_fine = a6.0;
      bounds_are_fine = a7.0;
      tolerances_are_fine = a8.0;
      basis_is_fine = a9.0;
      values_fine = a10.0;
      widened_is_fine = a11.0;
      leaving_fine = a12.0;
    }

-- and the other way: a sheet to which every answer is yes is accepted
pub accepted : (s : Sheet) → AllYes s → Accepted s
unfolding first_no ask
accepted s y =
    rw (
      y.sizes_are_fine,
      y.lengths_are_fine,
      y.starts_are_fine,
      y.columns_are_fine,
      y.entries_are_fine,
      y.bounds_are_fine,
      y.tolerances_are_fine,
      y.basis_is_fine,
      y.values_fine,
      y.widened_is_fine,
      y.leaving_fine,
    )
    refl

-- ---- the same with no widened item
abbrev pub bare : Sheet → Sheet
bare s =
    sheet (sizes_of s) s.feasibility s.checked s.leaving_row s.leaving_up s.outputs s.starts s.columns s.entries s.right_sides s.scales s.integer
    s.mins s.maxs s.low_tolerances s.high_tolerances s.basic s.places s.values [] s.rho_hi s.rho_lo s.second

-- no other question reads the widened list
pub accepted_bare : (s : Sheet) → Accepted s → Accepted (bare s)
unfolding widened_fine
accepted_bare s e =
    let y = all_yes s e in
    accepted (bare s)
    (record {
      sizes_are_fine = y.sizes_are_fine;
      lengths_are_fine = y.lengths_are_fine;
      starts_are_fine = y.starts_are_fine;
      columns_are_fine = y.columns_are_fine;
      entries_are_fine = y.entries_are_fine;
      bounds_are_fine = y.bounds_are_fine;
      tolerances_are_fine = y.tolerances_are_fine;
      basis_is_fine = y.basis_is_fine;
      values_fine = y.values_fine;
      widened_is_fine = refl;
      leaving_fine = y.leaving_fine;
    })
