-- What the certificate reads of a row lies within what is lent, on an accepted sheet. Assumes nothing.
use native.Mathlib.Omega.{arith}
use mathlib.Core.Path.{◌≡◌, sym, ◌∙◌}
use mathlib.Core.Bool.{Bool, true}
use mathlib.Core.Logic.{inl, inr}
use mathlib.Core.List.{List, [], ◌∷◌}
use Prim.Native.Nat.{ℕ, ◌+◌, ◌-◌, ◌<◌, ◌≤◌}
use borrow.Author.Tests.{eqb-true, ltb-true}
use lib.Dec.{eqb, leb, ltb}
use lib.ListN.{length, get_or}
use Rattle.exact.proofs.Naturals.{le_or_lt}
use Rattle.loops.specs.Places.{all_below}
use Rattle.questions.specs.Rows.{RowsLie, slack_of}
use Rattle.questions.specs.RowQuestions.{column_fine_at, row_columns_fine, row_columns_fine_at, columns_fine}
use Rattle.loops.proofs.All.{each, all_at, and_left}
use Rattle.sheet.specs.Sheet.{Sheet, variables}
use Rattle.sheet.specs.Answers.{Accepted}
use Rattle.sheet.proofs.Accepted.{AllYes, all_yes, rows_lie}
use Rattle.sheet.proofs.Consequences.{by_row, by_variable}
use Rattle.certificate.specs.System.{System, system, system_of, row_columns}
use Rattle.certificate.specs.AddedReads.{Within}
use Rattle.certificate.specs.Reads.{RowReadable}

-- ---- 5: a row's columns are variables
columns_within : (structurals slack : ℕ) (columns : List ℕ) → structurals ≤ slack → row_columns_fine structurals slack columns ≡ true → (k : ℕ) → k < length columns → get_or columns k 0 ≤ slack
unfolding row_columns_fine
columns_within structurals slack columns below fine k less =
    let h = each (leb 1 (length columns)) (all_below (length columns - 1) (column_fine_at structurals columns) ∷ eqb (get_or columns (length columns - 1) 0) slack ∷ []) fine in
    elim (le_or_lt (length columns - 1) k) [
      | inl last ↦ let e : k ≡ length columns - 1 = omega arith in rw e (omega (arith, eqb-true (get_or columns (length columns - 1) 0) slack h.1.1.0))
      | inr before ↦
          omega (
            arith,
            ltb-true (get_or columns k 0) structurals
                (and_left (ltb (get_or columns k 0) structurals) (ltb (get_or columns k 0) (get_or columns (k + 1) 0))
                (all_at (column_fine_at structurals columns) (length columns - 1) h.1.0 k before)),
          )
    ]

-- what is read of the rows, whether or not the multipliers' errors are bounded, and on whichever side the leaving variable leaves
abbrev pub rows_with : Sheet → Bool → Bool → System
rows_with s estimated leaving_up =
    system s.structurals estimated leaving_up s.starts s.columns s.entries s.right_sides s.mins s.maxs s.basic s.rho_hi s.rho_lo s.second

module _ (s : Sheet) (accepted : Accepted s) where
  all : AllYes s
  all = all_yes s accepted

  pub row_within : (r : ℕ) → r < s.rows → Within (variables s) (row_columns (system_of s) r)
  unfolding columns_fine
  row_within r less k below =
      omega (
        arith,
        columns_within s.structurals (slack_of s.structurals r) (row_columns (system_of s) r) (omega arith)
            (all_at (row_columns_fine_at s.structurals s.starts s.columns) s.rows all.columns_are_fine r less) k below,
      )

  pub lie : RowsLie s.rows s.entry_count s.starts
  lie = rows_lie s.rows s.entry_count s.starts all.starts_are_fine (by_row s all).starts_long

  pub row_readable : (estimated leaving_up : Bool) (r : ℕ) → r < s.rows → RowReadable (rows_with s estimated leaving_up) r (variables s)
  row_readable estimated leaving_up r less =
      record {
        in_starts = omega (arith, (by_row s all).starts_long);
        rises = lie.rises r less;
        inside = omega (arith, lie.inside r less, (by_row s all).columns_long);
        same = (by_row s all).entries_long ∙ sym (by_row s all).columns_long;
        within = row_within r less;
        in_right_sides = omega (arith, (by_row s all).right_sides_long);
        in_basic = omega (arith, (by_variable s all).basic_long);
        in_second = omega (arith, (by_row s all).second_long);
      }
