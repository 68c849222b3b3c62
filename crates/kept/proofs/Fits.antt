-- What the functions ask of a sheet, on an accepted one. Assumes nothing.
use native.Mathlib.Omega.{arith}
use mathlib.Core.Path.{◌≡◌, sym, subst}
use mathlib.Core.Bool.{Bool, true, false}
use mathlib.Core.List.{List, [], ◌∷◌}
use Prim.Native.Nat.{ℕ, ◌+◌, ◌-◌, ◌<◌, ◌≤◌, ◌^◌}
use borrow.Author.Tests.{leb-true}
use lib.Dec.{leb}
use lib.ListN.{length, get_or, length-replicate, get_or-replicate}
use lib.Ieee.{Float, eq}
use Rattle.cdouble.specs.Compensated.{plus_zero, value}
use Rattle.loops.proofs.All.{each}
use Rattle.sheet.specs.Sheet.{Sheet, variables}
use Rattle.sheet.specs.Answers.{Accepted}
use Rattle.sheet.specs.Lengths.{outputs_fit}
use Rattle.sheet.proofs.Accepted.{AllYes, all_yes, sizes_hold}
use Rattle.sheet.proofs.Consequences.{lengths, by_row, by_variable}
use Rattle.edges.specs.Model.{model_with}
use Rattle.edges.specs.Edges.{leaving_variable}
use Rattle.edges.specs.RoomReads.{Known}
use Rattle.edges.proofs.Laws.{readable, leaving_holds}
use Rattle.certificate.specs.Added.{pair_at}
use Rattle.certificate.specs.Certificate.{Certificate, empty, combined}
use Rattle.certificate.specs.Reads.{Lent, RowsGoOn, CertificateFits}
use Rattle.certificate.proofs.Rows.{rows-counted}
use Rattle.certificate.proofs.Readable.{lie, rows_with, row_readable}
use Rattle.judgement.specs.Reads.{JudgeFits}
use Rattle.certificate.specs.declared.adding.Sums.{Sums}
use Rattle.sheet.specs.declared.outputs.Outputs.{Outputs}
use Rattle.sheet.specs.Outputs.{Lists, outputs}
use Rattle.certificate.proofs.Lengths.{after_rows_same, lent_same}

module _ (s : Sheet) (accepted : Accepted s) where
  all : AllYes s
  all = all_yes s accepted

  pub small : s.rows + length s.columns < 2 ^ 32
  small = let h = sizes_hold s.rows s.structurals s.entry_count all.sizes_are_fine in omega (arith, h.rows_most, h.entries_most, (by_row s all).columns_long)

  pub few_variables : variables s < 2 ^ 32
  few_variables = let h = sizes_hold s.rows s.structurals s.entry_count all.sizes_are_fine in omega (arith, h.rows_most, h.structurals_most)

  -- 3: what is lent has a place for each variable
  module _ (l : Lists) (e : List Float) (is : s.outputs ≡ outputs l e) where
    fit : outputs_fit (variables s) (outputs l e) ≡ true
    fit = subst (λ (o : Outputs). outputs_fit (variables s) o ≡ true) is (lengths s all).outputs_do_fit

    pub lent-long : Lent (variables s) l e
    unfolding outputs_fit
    lent-long =
        let n = variables s in
        let h = each (leb n (length l.high)) (leb n (length l.low) ∷ leb n (length l.magnitudes) ∷ leb n (length l.terms) ∷ leb n (length e) ∷ []) fit in
        record {
          long =
              record {
                in_high = leb-true n (length l.high) h.0;
                in_low = leb-true n (length l.low) h.1.0;
                in_magnitudes = leb-true n (length l.magnitudes) h.1.1.0;
                in_terms = leb-true n (length l.terms) h.1.1.1.0;
              };
          in_errors = leb-true n (length e) h.1.1.1.1.0;
        }

    pub certificate_fits : (estimated leaving_up : Bool) → CertificateFits (rows_with s estimated leaving_up) s.rows (variables s) l e
    certificate_fits estimated leaving_up = record { readable = row_readable s accepted estimated leaving_up; lent = lent-long; small = small }

  -- ---- the empty certificate, and the one of the sheet, whether or not the multipliers' errors are bounded and on whichever side the leaving
  -- variable leaves
  empty-lent : Lent (variables s) (empty (variables s)).lists_of (empty (variables s)).errors
  empty-lent =
      let n = variables s in
      record {
        long =
            record {
              in_high = omega (arith, length-replicate n plus_zero);
              in_low = omega (arith, length-replicate n plus_zero);
              in_magnitudes = omega (arith, length-replicate n plus_zero);
              in_terms = omega (arith, length-replicate {A = ℕ} n 0);
            };
        in_errors = omega (arith, length-replicate n plus_zero);
      }

  last_start : get_or s.starts s.rows 0 ≤ s.entry_count
  last_start =
      let some = (sizes_hold s.rows s.structurals s.entry_count all.sizes_are_fine).some in
      let e : s.rows - 1 + 1 ≡ s.rows = omega arith in
      subst (λ (r : ℕ). get_or s.starts r 0 ≤ s.entry_count) e ((lie s accepted).inside (s.rows - 1) (omega arith))

  module _ (estimated leaving_up : Bool) where
    empty_goes_on : RowsGoOn (rows_with s estimated leaving_up) s.rows (variables s) (empty (variables s)).lists_of (empty (variables s)).errors
    empty_goes_on =
        record {
          readable = row_readable s accepted estimated leaving_up;
          lent = empty-lent;
          none = λ v less. get_or-replicate (variables s) v 0 0 less;
          small = small;
        }

    abbrev pub certificate_with : Certificate
    certificate_with = combined (rows_with s estimated leaving_up) s.rows (variables s)

    pub combined-lent : Lent (variables s) certificate_with.lists_of certificate_with.errors
    unfolding combined
    combined-lent = let h = after_rows_same (rows_with s estimated leaving_up) s.rows (empty (variables s)) in lent_same h.0 h.1 empty-lent

    terms_small : certificate_with.sums_of.terms + variables s < 2 ^ 64
    unfolding combined
    terms_small =
        omega (arith, (rows-counted empty_goes_on s.rows (omega arith)).terms_few, last_start, small, few_variables, (by_row s all).columns_long)

    -- ---- the judgement, whatever is said of the widened variables
    pub judge_fits : (widened : ℕ → Bool → Bool) (list : List Float) (l : Lists) (e : List Float) {c : Sums} → Lent (variables s) l e → c ≡ certificate_with.sums_of
        → ((v : ℕ) → v < variables s → eq (value (pair_at l.high l.low v)) plus_zero ≡ false → Known (model_with s widened) list v)
        → JudgeFits (model_with s widened) list (variables s) (leaving_variable s) l e c
    judge_fits widened list l e long is known =
        record {
          walk_fits =
              record {
                readable = readable s accepted;
                known = known;
                lent = long;
                terms_small = let terms = subst (λ (c : Sums). c.terms + variables s < 2 ^ 64) (sym is) terms_small in omega (arith, terms);
                zero_small = omega (arith, few_variables);
                bounded_small = omega (arith, few_variables);
              };
          leaving_fits =
              (readable s accepted (leaving_variable s) (leaving_holds s accepted).0, omega (arith, (leaving_holds s accepted).0, (by_variable s all).values_long));
        }
