-- Errors added for every variable, of which those of the basis are kept, are the errors added for the basis alone. Assumes nothing.
use native.Mathlib.Omega.{arith}
use mathlib.Core.Path.{◌≡◌, refl, ap, sym, subst, ◌∙◌}
use mathlib.Core.Bool.{Bool, true, false, cond}
use mathlib.Core.List.{List, ◌++◌}
use Prim.Native.Nat.{ℕ, zero, suc, ◌<◌, ◌≤◌}
use lib.ListN.{length, get_or, set, take, drop, replicate, length-append, length-replicate, get_or-replicate}
use lib.Seq.{set-get_or}
use lib.Ieee.{Float, nan}
use Rattle.std.proofs.Common.{Option, Some, None}
use Rattle.std.proofs.lemmas.List.{get_or_default, take_at}
use Rattle.std.proofs.lemmas.Slice.{drop-append-drop}
use Rattle.doubles.specs.Compare.{absolute}
use Rattle.cdouble.specs.Compensated.{◌⊕◌, ◌⊗◌, plus_zero}
use Rattle.questions.specs.Flags.{is_set}
use Rattle.loops.proofs.Listed.{each_place-at, each_place-set, is_each_place}
use Rattle.multipliers.specs.Multipliers.{spreads}
use Rattle.certificate.specs.declared.adding.Sums.{Sums}
use Rattle.certificate.specs.System.{System, error_at, multiplier_at, right_side_at, row_columns, row_entries}
use Rattle.certificate.specs.Added.{with_error, after_errors, spread_into, kept_into, no_sums, summed}
use Rattle.certificate.specs.AddedReads.{Within}
use Rattle.certificate.specs.Certificate.{Certificate, certificate, with_row, after_rows, empty, combined, over, lists_over, written}
use Rattle.certificate.specs.Everywhere.{everyone, everywhere, kept_at, basic_only}
use Rattle.certificate.specs.Reads.{RowReadable, CertificateFits}
use Rattle.certificate.proofs.AddedLengths.{after_errors_same}
use Rattle.certificate.proofs.Lengths.{after_rows_same}
use Rattle.certificate.proofs.Written.{certificate_is}
use Rattle.sheet.specs.Outputs.{Lists}

-- ---- one entry's share of an error
module _ (basic : List ℕ) where
  kept_there : (e : List Float) (v : ℕ) → v < length e → get_or (basic_only basic e) v nan ≡ kept_at basic v (get_or e v nan)
  kept_there e v less = each_place-at (kept_at basic) e nan v less

  -- it stays where the variable is in the basis, and else it is as if it had not come
  share_kept : (e : List Float) (v : ℕ) (x : Float) → v < length e → (b : Bool) → is_set (get_or basic v 1) ≡ b
      → basic_only basic (set e v (get_or e v nan ⊕ x)) ≡ cond b (set (basic_only basic e) v (get_or (basic_only basic e) v nan ⊕ x)) (basic_only basic e)
  share_kept e v x less true is =
      let there : get_or (basic_only basic e) v nan ≡ get_or e v nan = kept_there e v less ∙ ap (λ (b : Bool). cond b (get_or e v nan) plus_zero) is in
      each_place-set (kept_at basic) e v (get_or e v nan ⊕ x)
      ∙ ap (λ (b : Bool). set (basic_only basic e) v (cond b (get_or e v nan ⊕ x) plus_zero)) is
      ∙ ap (λ (y : Float). set (basic_only basic e) v (y ⊕ x)) (sym there)
  share_kept e v x less false is =
      let there : get_or (basic_only basic e) v nan ≡ plus_zero = kept_there e v less ∙ ap (λ (b : Bool). cond b (get_or e v nan) plus_zero) is in
      each_place-set (kept_at basic) e v (get_or e v nan ⊕ x)
      ∙ ap (λ (b : Bool). set (basic_only basic e) v (cond b (get_or e v nan ⊕ x) plus_zero)) is
      ∙ ap (set (basic_only basic e) v) (sym there)
      ∙ set-get_or (basic_only basic e) v nan

  nothing_kept : (b : Bool) → cond b plus_zero plus_zero ≡ plus_zero
  nothing_kept true = refl
  nothing_kept false = refl

  zeros_kept : (count : ℕ) → basic_only basic (replicate count plus_zero) ≡ replicate count plus_zero
  zeros_kept count =
      sym
      (is_each_place (kept_at basic) plus_zero (replicate count plus_zero) (replicate count plus_zero) refl
      (λ v less.
      let zero_there : get_or (replicate count plus_zero) v plus_zero ≡ plus_zero = get_or-replicate count v plus_zero plus_zero (omega (arith, length-replicate count plus_zero)) in
      zero_there ∙ sym (ap (kept_at basic v) zero_there ∙ nothing_kept (is_set (get_or basic v 1)))))

-- ---- a row's shares
module _ (basic : List ℕ) {count : ℕ} (flags : count ≤ length basic) where
  error_kept : (distance : Float) (v : ℕ) (a : Float) (e : List Float) → v < count → v < length e
      → basic_only basic (with_error distance (everyone count) v a e) ≡ with_error distance basic v a (basic_only basic e)
  error_kept distance v a e less inside =
      ap (λ (flag : ℕ). basic_only basic (cond (is_set flag) (set e v (get_or e v nan ⊕ distance ⊗ absolute a)) e)) (get_or-replicate count v 1 0 less)
      ∙ share_kept basic e v (distance ⊗ absolute a) inside (is_set (get_or basic v 0)) (ap is_set (get_or_default basic v 1 0 (omega arith)))

  module _ (columns : List ℕ) (entries : List Float) (within : Within count columns) where
    errors_kept : (distance : Float) (n : ℕ) → n ≤ length columns → (e : List Float) → count ≤ length e
        → basic_only basic (after_errors distance (everyone count) columns entries n e) ≡ after_errors distance basic columns entries n (basic_only basic e)
    unfolding after_errors
    errors_kept distance zero at e long = refl
    errors_kept distance (suc n) at e long =
        let before = after_errors distance (everyone count) columns entries n e in
        let less : get_or columns n 0 < count = within n (omega arith) in
        error_kept distance (get_or columns n 0) (get_or entries n nan) before less (omega (arith, after_errors_same distance (everyone count) columns entries n e))
        ∙ ap (with_error distance basic (get_or columns n 0) (get_or entries n nan)) (errors_kept distance n (omega arith) e long)

    spread_kept : (s : Option Float) (e : List Float) → count ≤ length e
        → basic_only basic (spread_into s (everyone count) columns entries e) ≡ spread_into s basic columns entries (basic_only basic e)
    unfolding spread_into
    spread_kept None e long = refl
    spread_kept (Some distance) e long = errors_kept distance (length columns) (omega arith) e long

-- ---- a certificate's errors
abbrev kept : List ℕ → Certificate → Certificate
kept basic c = certificate c.lists_of (basic_only basic c.errors) c.sums_of

module _ {m : System} {count : ℕ} where
  row_kept : (r : ℕ) → RowReadable m r count → (c : Certificate) → count ≤ length c.errors → with_row m r (kept m.basic c) ≡ kept m.basic (with_row (everywhere count m) r c)
  unfolding with_row
  row_kept r row c long =
      let lists = kept_into (multiplier_at m r) (row_columns m r) (row_entries m r) c.lists_of in
      let sums = summed (multiplier_at m r) (right_side_at m r) (length (row_columns m r)) c.sums_of in
      ap (λ (e : List Float). certificate lists e sums)
      (sym (spread_kept m.basic row.in_basic (row_columns m r) (row_entries m r) row.within (spreads m.estimated (error_at m r) (multiplier_at m r)) c.errors long))

  rows_kept : (n : ℕ) → ((r : ℕ) → r < n → RowReadable m r count) → (c : Certificate) → count ≤ length c.errors → after_rows m n (kept m.basic c) ≡ kept m.basic (after_rows (everywhere count m) n c)
  unfolding after_rows
  rows_kept zero readable c long = refl
  rows_kept (suc n) readable c long =
      ap (with_row m n) (rows_kept n (λ r less. readable r (omega arith)) c long)
      ∙ row_kept n (readable n (omega arith)) (after_rows (everywhere count m) n c) (omega (arith, (after_rows_same (everywhere count m) n c).1))

-- ---- `certificate`
module _ {m : System} {rows count : ℕ} {l : Lists} {errors : List Float} (fits : CertificateFits m rows count l errors) where
  -- what the rows ask they ask of that basis too
  pub fits_everywhere : CertificateFits (everywhere count m) rows count l errors
  fits_everywhere =
      record {
        readable = λ r less.
            let row = fits.readable r less in
            record {
              in_starts = row.in_starts;
              rises = row.rises;
              inside = row.inside;
              same = row.same;
              within = row.within;
              in_right_sides = row.in_right_sides;
              in_basic = omega (arith, length-replicate {A = ℕ} count 1);
              in_second = row.in_second;
            };
        lent = fits.lent;
        small = fits.small;
      }

  abbrev all_errors : Certificate
  all_errors = combined (everywhere count m) rows count

  errors_long : length all_errors.errors ≡ count
  unfolding combined
  errors_long = (after_rows_same (everywhere count m) rows (empty count)).1 ∙ length-replicate count plus_zero

  combined_kept : combined m rows count ≡ kept m.basic all_errors
  unfolding combined
  combined_kept =
      ap (λ (e : List Float). after_rows m rows (certificate (empty count).lists_of e (empty count).sums_of)) (sym (zeros_kept m.basic count))
      ∙ rows_kept rows fits.readable (empty count) (omega (arith, length-replicate count plus_zero))

  -- the errors over the lent ones, kept
  over_kept : over count (basic_only m.basic (take count (over count all_errors.errors errors))) (over count all_errors.errors errors) ≡ over count (combined m rows count).errors errors
  over_kept =
      ap (λ (e : List Float). basic_only m.basic e ++ drop count (over count all_errors.errors errors)) (take_at all_errors.errors (drop count errors) count errors_long)
      ∙ ap (λ (rest : List Float). basic_only m.basic all_errors.errors ++ rest) (drop-append-drop count errors all_errors.errors count (omega arith) errors_long)
      ∙ ap (λ (c : Certificate). over count c.errors errors) (sym combined_kept)

  -- where there are error bounds; and without them nothing is kept or made 0
  kept_if : (b : Bool) → (let e = cond b (over count all_errors.errors errors) errors in
      cond b (over count (basic_only m.basic (take count e)) e) e ≡ cond b (over count (combined m rows count).errors errors) errors)
  kept_if true = over_kept
  kept_if false = refl

  long_if : (b : Bool) → count ≤ length (cond b (over count all_errors.errors errors) errors)
  long_if true = omega (arith, length-append all_errors.errors (drop count errors), errors_long)
  long_if false = fits.lent.in_errors

  -- after the lists are cleared and the rows added, what the last step asks, and what it makes
  module _ {k : Lists} {e : List Float} (cleared : k ≡ lists_over count (empty count).lists_of l)
      (clears : e ≡ cond m.estimated (over count (replicate count plus_zero) errors) errors)
      {j : Lists} {f : List Float} {c : Sums} (adds : certificate j f c ≡ after_rows (everywhere count m) rows (certificate k e no_sums)) where
    added : certificate j f c ≡ written m.estimated count all_errors l errors
    added = certificate_is fits_everywhere cleared clears adds

    errors_are : f ≡ cond m.estimated (over count all_errors.errors errors) errors
    unfolding written
    errors_are = ap (λ (x : Certificate). x.errors) added

    pub kept_asks : count ≤ length f
    kept_asks = subst (λ (x : List Float). count ≤ length x) (sym errors_are) (long_if m.estimated)

    pub kept_is : {g : List Float} → g ≡ cond m.estimated (over count (basic_only m.basic (take count f)) f) f
        → certificate j g c ≡ written m.estimated count (combined m rows count) l errors
    unfolding written
    kept_is {g} keeps =
        ap (λ (x : Certificate). certificate x.lists_of g x.sums_of) added
        ∙ ap (λ (x : List Float). certificate (lists_over count all_errors.lists_of l) x all_errors.sums_of)
        (keeps ∙ ap (λ (x : List Float). cond m.estimated (over count (basic_only m.basic (take count x)) x) x) errors_are ∙ kept_if m.estimated)
        ∙ ap (λ (x : Certificate). certificate (lists_over count x.lists_of l) (cond m.estimated (over count (combined m rows count).errors errors) errors) x.sums_of) (sym combined_kept)
