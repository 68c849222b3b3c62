-- The certificate's lists keep their lengths, and its counts grow by no more than the entries read. Assumes nothing.
use native.Mathlib.Omega.{arith}
use mathlib.Core.Path.{◌≡◌, refl, ◌∙◌}
use mathlib.Core.List.{List}
use Prim.Native.Nat.{ℕ, zero, suc, ◌+◌, ◌-◌, ◌≤◌}
use lib.ListN.{length, get_or, length-take, length-drop}
use lib.Ieee.{Float}
use Rattle.questions.specs.Rows.{part}
use Rattle.certificate.specs.System.{System, multiplier_at, right_side_at, row_columns, row_entries}
use Rattle.sheet.specs.Outputs.{Lists}
use Rattle.certificate.specs.Certificate.{Certificate, with_row, after_rows}
use Rattle.certificate.specs.Reads.{Lent, RowReadable, Counted}
use Rattle.certificate.proofs.AddedLengths.{Same, same, then, kept_same, spread_same, long_same, kept_few, summed_grown}

pub after_rows_same : (m : System) (n : ℕ) (c : Certificate) → Same c.lists_of (after_rows m n c).lists_of × (length (after_rows m n c).errors ≡ length c.errors)
unfolding after_rows with_row
after_rows_same m zero c = (same c.lists_of, refl)
after_rows_same m (suc n) c =
    let b = after_rows_same m n c in
    (then b.0 (kept_same _ _ _ (after_rows m n c).lists_of), spread_same _ _ _ _ (after_rows m n c).errors ∙ b.1)

pub lent_same : {count : ℕ} {l k : Lists} {e f : List Float} → Same l k → length f ≡ length e → Lent count l e → Lent count k f
lent_same s errors lent = record { long = long_same s lent.long; in_errors = omega (arith, errors, lent.in_errors) }

-- a row's parts
pub part-long : {A : Type 0} (starts : List ℕ) (r : ℕ) (xs : List A) → get_or starts r 0 ≤ get_or starts (r + 1) 0 → get_or starts (r + 1) 0 ≤ length xs
    → length (part starts r xs) ≡ get_or starts (r + 1) 0 - get_or starts r 0
unfolding part
part-long starts r xs rises inside = simp (length-take, length-drop) (omega arith)

-- one row more
pub row_counted : {m : System} {r count : ℕ} {c : Certificate} → RowReadable m r count → Counted m r count c → Counted m (r + 1) count (with_row m r c)
unfolding with_row
row_counted {m} {r} {count} {c} row counted =
    let n = part-long m.starts r m.columns row.rises row.inside in
    let g = summed_grown (multiplier_at m r) (right_side_at m r) (length (row_columns m r)) c.sums_of in
    record {
      few = λ v less. omega (arith, kept_few (multiplier_at m r) (row_columns m r) (row_entries m r) c.lists_of v, counted.few v less, n, row.rises);
      terms_few = omega (arith, g.terms_grown, counted.terms_few, n, row.rises);
      rows_few = omega (arith, g.rows_grown, counted.rows_few);
      zeroed_few = omega (arith, g.zeroed_grown, counted.zeroed_few);
    }
