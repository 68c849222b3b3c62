-- One row, and the loop over the rows, on lists. Assumes nothing.
use native.Mathlib.Omega.{arith}
use mathlib.Core.Path.{◌≡◌, refl, ap, sym, subst, ◌∙◌}
use mathlib.Core.List.{List}
use Prim.Native.Nat.{ℕ, zero, suc, ◌+◌, ◌-◌, ◌<◌, ◌≤◌, ◌^◌}
use lib.ListN.{length, get_or}
use lib.Ieee.{Float}
use Rattle.certificate.specs.declared.adding.Sums.{Sums}
use Rattle.multipliers.specs.declared.weighing.Multiplier.{Multiplier}
use Rattle.std.proofs.Common.{Option}
use Rattle.multipliers.specs.Multipliers.{spreads}
use Rattle.certificate.specs.System.{System, error_at, multiplier_at, right_side_at, row_columns, row_entries}
use Rattle.certificate.specs.Added.{kept_into, spread_into, no_sums, summed}
use Rattle.certificate.specs.Certificate.{Certificate, certificate, with_row, after_rows}
use Rattle.certificate.specs.AddedReads.{RowFits, ErrorsFit}
use Rattle.certificate.specs.Reads.{Counted, RowGoesOn, RowsGoOn, Weighed}
use Rattle.certificate.proofs.AddedLengths.{Same}
use Rattle.certificate.proofs.Lengths.{after_rows_same, lent_same, part-long, row_counted}
use Rattle.loops.proofs.Turns.{Turn, first, next}
use Rattle.sheet.specs.Outputs.{Lists}

-- ---- one row: what its functions ask, and what they make together
module _ {m : System} {r count : ℕ} {c : Certificate} (goes : RowGoesOn m r count c) where
  columns_long : length (row_columns m r) ≡ get_or m.starts (r + 1) 0 - get_or m.starts r 0
  columns_long = part-long m.starts r m.columns goes.readable.rises goes.readable.inside

  entries_long : length (row_entries m r) ≡ length (row_columns m r)
  entries_long =
      part-long m.starts r m.entries goes.readable.rises (omega (arith, goes.readable.inside, goes.readable.same)) ∙ sym columns_long

  pub row_fits : RowFits count (row_columns m r) (row_entries m r) c.lists_of
  row_fits =
      record {
        same = entries_long;
        within = goes.readable.within;
        long = goes.lent.long;
        room = λ v less. omega (arith, goes.counted.few v less, columns_long, goes.readable.rises, goes.readable.inside, goes.small);
      }

  pub errors_fit : ErrorsFit count (row_columns m r) (row_entries m r) c.errors
  errors_fit = record { same = entries_long; within = goes.readable.within; in_errors = goes.lent.in_errors }

  pub sums_fit : (c.sums_of.terms + 1 + length (row_columns m r) < 2 ^ 64) × (c.sums_of.rows + 1 < 2 ^ 64) × (c.sums_of.zeroed + 1 < 2 ^ 64)
  sums_fit = (
    omega (arith, columns_long, goes.counted.terms_few, goes.readable.rises, goes.readable.inside, goes.small),
    omega (arith, goes.counted.rows_few, goes.small),
    omega (arith, goes.counted.zeroed_few, goes.small),
  )

  pub row_added : {l : Lists} {e : List Float} {k : Multiplier} {error : Float} {s : Option Float} {after : Sums}
      → k ≡ multiplier_at m r
      → error ≡ error_at m r
      → s ≡ spreads m.estimated error k
      → l ≡ kept_into k (row_columns m r) (row_entries m r) c.lists_of
      → e ≡ spread_into s m.basic (row_columns m r) (row_entries m r) c.errors
      → after ≡ summed k (right_side_at m r) (length (row_columns m r)) c.sums_of
      → certificate l e after ≡ with_row m r c
  unfolding with_row
  row_added {l} {e} {k} {error} {s} {after} is err spread kept spreading sums =
      ap (λ (x : Lists). certificate x e after) (kept ∙ ap (λ (x : Multiplier). kept_into x (row_columns m r) (row_entries m r) c.lists_of) is)
      ∙ ap (λ (x : List Float). certificate into x after)
      (spreading
      ∙ ap (λ (x : Option Float). spread_into x m.basic (row_columns m r) (row_entries m r) c.errors)
      (spread ∙ ap (λ (x : Float). spreads m.estimated x k) err ∙ ap (spreads m.estimated (error_at m r)) is))
      ∙ ap (λ (x : Sums). certificate into (spread_into (spreads m.estimated (error_at m r) (multiplier_at m r)) m.basic (row_columns m r) (row_entries m r) c.errors) x)
      (sums ∙ ap (λ (x : Multiplier). summed x (right_side_at m r) (length (row_columns m r)) c.sums_of) is)
    where
      into : Lists
      into = kept_into (multiplier_at m r) (row_columns m r) (row_entries m r) c.lists_of

-- ---- the rows
pub fewer : {m : System} {n k : ℕ} {list : List Multiplier} → Weighed m n list → k ≤ n → Weighed m k list
fewer weighed less = record { long = omega (arith, weighed.long, less); at = λ r below. weighed.at r (omega arith) }

module _ {m : System} {rows count : ℕ} {l : Lists} {errors : List Float} (go : RowsGoOn m rows count l errors) where
  abbrev before : Certificate
  before = certificate l errors no_sums

  pub rows-counted : (n : ℕ) → n ≤ rows → Counted m n count (after_rows m n before)
  unfolding after_rows
  rows-counted zero at = record { few = λ v less. omega (arith, go.none v less); terms_few = omega arith; rows_few = omega arith; zeroed_few = omega arith }
  rows-counted (suc n) at =
      let e : n + 1 ≡ suc n = omega arith in
      subst (λ (k : ℕ). Counted m k count (with_row m n (after_rows m n before))) e (row_counted (go.readable n (omega arith)) (rows-counted n (omega arith)))

  abbrev Rows : ℕ → Certificate → Type 0
  Rows r c = Turn (λ (n : ℕ). after_rows m n before) rows r c

  pub first_row : Rows 0 before
  unfolding after_rows
  first_row = first (λ (n : ℕ). after_rows m n before) rows

  module _ {r : ℕ} {c : Certificate} (turn : Rows r c) where
    pub rows_same : Same l c.lists_of
    rows_same = subst (λ (x : Certificate). Same l x.lists_of) (sym turn.so_far) (after_rows_same m r before).0

    pub errors_same : length c.errors ≡ length errors
    errors_same = ap (λ (x : Certificate). length x.errors) turn.so_far ∙ (after_rows_same m r before).1

    pub row_goes_on : r < rows → RowGoesOn m r count c
    row_goes_on less =
        record {
          readable = go.readable r less;
          lent = lent_same rows_same errors_same go.lent;
          counted = subst (Counted m r count) (sym turn.so_far) (rows-counted r (omega arith));
          small = omega (arith, go.small);
        }

    pub next_row : {d : Certificate} → r < rows → d ≡ with_row m r c → Rows (r + 1) d
    unfolding after_rows
    next_row less e = next (with_row m r) turn less refl e
