-- What is written for the variables does not depend on what was lent, and the places beyond them stay. Assumes nothing.
use native.Mathlib.Omega.{arith}
use mathlib.Core.Path.{◌≡◌, refl, ap, sym, subst, ◌∙◌}
use mathlib.Core.Bool.{Bool, true, false, cond, ◌||◌}
use mathlib.Core.List.{List, ◌++◌}
use Prim.Native.Nat.{ℕ, zero, suc, ◌+◌, ◌<◌, ◌≤◌}
use lib.ListN.{length, get_or, set, drop, replicate, length-replicate, length-append, length-drop, get_or-replicate, get_or-append}
use lib.Seq.{set-append_left}
use lib.Ieee.{Float, nan, eq}
use Rattle.doubles.specs.Compare.{absolute}
use Rattle.cdouble.specs.declared.CDouble.{CDouble}
use Rattle.cdouble.specs.Compensated.{◌⊕◌, ◌⊗◌, plus_scaled, plus_zero, value}
use Rattle.questions.specs.Flags.{is_set}
use Rattle.questions.specs.Rows.{slack_of}
use Rattle.multipliers.specs.declared.weighing.Multiplier.{Multiplier}
use Rattle.multipliers.specs.declared.weighing.Multiplier.TheVariants.{Zeroed, Dropped, Kept}
use Rattle.std.proofs.Common.{Option, Some, None}
use Rattle.multipliers.specs.Multipliers.{needs_infinite_side, spreads, weighed}
use Rattle.certificate.specs.System.{System, error_at, signed_at, multiplier_at, right_side_at, row_columns, row_entries}
use Rattle.certificate.specs.Added.{pair_at, with_term, after_terms, kept_into, with_error, after_errors, spread_into, no_sums, summed}
use Rattle.certificate.specs.Certificate.{Certificate, certificate, with_row, after_rows, empty, combined, over, lists_over, written}
use Rattle.certificate.specs.AddedReads.{Long, Within}
use Rattle.certificate.specs.Reads.{RowsGoOn, CertificateFits}
use Rattle.certificate.proofs.AddedLengths.{Same, after_terms_same, after_errors_same, long_same}
use Rattle.certificate.proofs.Lengths.{after_rows_same, lent_same}
use Rattle.sheet.specs.Outputs.{Lists, lists}

-- ---- lists with more places beyond
abbrev pub beyond : Lists → Lists → Lists
beyond l rest = lists (l.high ++ rest.high) (l.low ++ rest.low) (l.magnitudes ++ rest.magnitudes) (l.terms ++ rest.terms)

term_beyond : (y : CDouble) (v : ℕ) (a : Float) (l rest : Lists) → v < length l.high → v < length l.low → v < length l.magnitudes → v < length l.terms
    → with_term y v a (beyond l rest) ≡ beyond (with_term y v a l) rest
term_beyond y v a l rest h w g t =
    rw (
      get_or-append l.high rest.high nan v h,
      get_or-append l.low rest.low nan v w,
      get_or-append l.magnitudes rest.magnitudes nan v g,
      get_or-append l.terms rest.terms 0 v t,
      set-append_left l.high rest.high v (plus_scaled (pair_at l.high l.low v) y a).hi h,
      set-append_left l.low rest.low v (plus_scaled (pair_at l.high l.low v) y a).lo w,
      set-append_left l.magnitudes rest.magnitudes v (get_or l.magnitudes v nan ⊕ absolute (value y ⊗ a)) g,
      set-append_left l.terms rest.terms v (get_or l.terms v 0 + 1) t,
    )
    refl

share_beyond : (b : Bool) (xs ys : List Float) (v : ℕ) (x : Float) → v < length xs → cond b (set (xs ++ ys) v x) (xs ++ ys) ≡ cond b (set xs v x) xs ++ ys
share_beyond true xs ys v x less = set-append_left xs ys v x less
share_beyond false xs ys v x less = refl

module _ {count : ℕ} (columns : List ℕ) (entries : List Float) (within : Within count columns) where
  terms_beyond : (y : CDouble) (n : ℕ) → n ≤ length columns → (l rest : Lists) → Long count l → after_terms y columns entries n (beyond l rest) ≡ beyond (after_terms y columns entries n l) rest
  unfolding after_terms
  terms_beyond y zero at l rest long = refl
  terms_beyond y (suc n) at l rest long =
      let s = long_same (after_terms_same y columns entries n l) long in
      let w = within n (omega arith) in
      ap (with_term y (get_or columns n 0) (get_or entries n nan)) (terms_beyond y n (omega arith) l rest long)
      ∙ term_beyond y (get_or columns n 0) (get_or entries n nan) (after_terms y columns entries n l) rest (omega (arith, s.in_high)) (omega (arith, s.in_low))
      (omega (arith, s.in_magnitudes)) (omega (arith, s.in_terms))

  kept_beyond : (m : Multiplier) (l rest : Lists) → Long count l → kept_into m columns entries (beyond l rest) ≡ beyond (kept_into m columns entries l) rest
  unfolding kept_into
  kept_beyond (Zeroed y) l rest long = refl
  kept_beyond Dropped l rest long = refl
  kept_beyond (Kept y) l rest long = terms_beyond y (length columns) (omega arith) l rest long

  errors_beyond : (distance : Float) (basic : List ℕ) (n : ℕ) → n ≤ length columns → (e rest : List Float) → count ≤ length e
      → after_errors distance basic columns entries n (e ++ rest) ≡ after_errors distance basic columns entries n e ++ rest
  unfolding after_errors
  errors_beyond distance basic zero at e rest long = refl
  errors_beyond distance basic (suc n) at e rest long =
      let before = after_errors distance basic columns entries n e in
      let less : get_or columns n 0 < length before = omega (arith, within n (omega arith), after_errors_same distance basic columns entries n e) in
      ap (with_error distance basic (get_or columns n 0) (get_or entries n nan)) (errors_beyond distance basic n (omega arith) e rest long)
      ∙ rw (get_or-append before rest nan (get_or columns n 0) less)
      (share_beyond (is_set (get_or basic (get_or columns n 0) 0)) before rest (get_or columns n 0)
      (get_or before (get_or columns n 0) nan ⊕ distance ⊗ absolute (get_or entries n nan)) less)

  spread_beyond : (s : Option Float) (basic : List ℕ) (e rest : List Float) → count ≤ length e
      → spread_into s basic columns entries (e ++ rest) ≡ spread_into s basic columns entries e ++ rest
  unfolding spread_into
  spread_beyond None basic e rest long = refl
  spread_beyond (Some distance) basic e rest long = errors_beyond distance basic (length columns) (omega arith) e rest long

-- ---- a certificate with more places beyond
abbrev with_rest : Certificate → Lists → List Float → Certificate
with_rest c rest more = certificate (beyond c.lists_of rest) (c.errors ++ more) c.sums_of

module _ (m : System) {count : ℕ} where
  row_beyond : (r : ℕ) → Within count (row_columns m r) → (c : Certificate) (rest : Lists) (more : List Float) → Long count c.lists_of → count ≤ length c.errors
      → with_row m r (with_rest c rest more) ≡ with_rest (with_row m r c) rest more
  unfolding with_row
  row_beyond r within c rest more long errors =
      rw (
        kept_beyond (row_columns m r) (row_entries m r) within (multiplier_at m r) c.lists_of rest long,
        spread_beyond (row_columns m r) (row_entries m r) within (spreads m.estimated (error_at m r) (multiplier_at m r)) m.basic c.errors more errors,
      )
      refl

  rows_beyond : (n : ℕ) → ((r : ℕ) → r < n → Within count (row_columns m r)) → (c : Certificate) (rest : Lists) (more : List Float) → Long count c.lists_of → count ≤ length c.errors
      → after_rows m n (with_rest c rest more) ≡ with_rest (after_rows m n c) rest more
  unfolding after_rows
  rows_beyond zero within c rest more long errors = refl
  rows_beyond (suc n) within c rest more long errors =
      let s = after_rows_same m n c in
      ap (with_row m n) (rows_beyond n (λ r less. within r (omega arith)) c rest more long errors)
      ∙ row_beyond n (within n (omega arith)) (after_rows m n c) rest more (long_same s.0 long) (omega (arith, s.1))

-- ---- the lists made 0 first
over-long : {A : Type 0} (count : ℕ) (x : A) (xs : List A) → count ≤ length xs → length (over count (replicate count x) xs) ≡ length xs
over-long count x xs fits = simp (length-append, length-replicate, length-drop) (omega arith)

-- ---- the errors stand apart from the rest, and stay where there are no error bounds
nothing_either_way : (error : Float) (b : Bool) (y : CDouble) → spreads false error (cond b Dropped (Kept y)) ≡ None
unfolding spreads
nothing_either_way error true y = refl
nothing_either_way error false y = refl

nothing_spread : (error : Float) (y : CDouble) (min max : Float) → spreads false error (weighed false error y min max) ≡ None
unfolding weighed
nothing_spread error y min max = nothing_either_way error (eq (value y) plus_zero || needs_infinite_side (value y) min max) y

module _ (m : System) where
  no_spread : (r : ℕ) → m.estimated ≡ false → spreads m.estimated (error_at m r) (multiplier_at m r) ≡ None
  no_spread r e =
      let min = get_or m.mins (slack_of m.structurals r) nan in
      let max = get_or m.maxs (slack_of m.structurals r) nan in
      ap (λ (b : Bool). spreads b (error_at m r) (weighed b (error_at m r) (signed_at m r) min max)) e ∙ nothing_spread (error_at m r) (signed_at m r) min max

  errors_stay : (n : ℕ) (c : Certificate) → m.estimated ≡ false → (after_rows m n c).errors ≡ c.errors
  unfolding after_rows with_row spread_into
  errors_stay zero c e = refl
  errors_stay (suc n) c e =
      ap (λ (s : Option Float). spread_into s m.basic (row_columns m n) (row_entries m n) (after_rows m n c).errors) (no_spread n e) ∙ errors_stay n c e

  rows_alone : (n : ℕ) (l : Lists) (e f : List Float)
      → ((after_rows m n (certificate l e no_sums)).lists_of ≡ (after_rows m n (certificate l f no_sums)).lists_of)
      × ((after_rows m n (certificate l e no_sums)).sums_of ≡ (after_rows m n (certificate l f no_sums)).sums_of)
  unfolding after_rows with_row
  rows_alone zero l e f = (refl, refl)
  rows_alone (suc n) l e f =
      let b = rows_alone n l e f in (
        ap (kept_into (multiplier_at m n) (row_columns m n) (row_entries m n)) b.0,
        ap (summed (multiplier_at m n) (right_side_at m n) (length (row_columns m n))) b.1,
      )

-- ---- `certificate`, from what clearing gave
module _ {m : System} {rows count : ℕ} {l : Lists} {errors : List Float} (fits : CertificateFits m rows count l errors) {k : Lists} {e : List Float}
    (cleared : k ≡ lists_over count (empty count).lists_of l) (clears : e ≡ cond m.estimated (over count (replicate count plus_zero) errors) errors) where
  errors_same : length e ≡ length errors
  errors_same = ap length clears ∙ either m.estimated
    where
      either : (b : Bool) → length (cond b (over count (replicate count plus_zero) errors) errors) ≡ length errors
      either true = over-long count plus_zero errors fits.lent.in_errors
      either false = refl

  cleared_same : Same l k
  cleared_same =
      let long = fits.lent.long in
      subst (Same l) (sym cleared)
      (record {
        high_same = over-long count plus_zero l.high long.in_high;
        low_same = over-long count plus_zero l.low long.in_low;
        magnitudes_same = over-long count plus_zero l.magnitudes long.in_magnitudes;
        terms_same = over-long count 0 l.terms long.in_terms;
      })

  none_yet : (v : ℕ) → v < count → get_or k.terms v 0 ≡ 0
  none_yet v less =
      ap (λ (x : Lists). get_or x.terms v 0) cleared
      ∙ get_or-append (replicate count 0) (drop count l.terms) 0 v (omega (arith, length-replicate {A = ℕ} count 0))
      ∙ get_or-replicate count v 0 0 less

  pub certificate_goes_on : RowsGoOn m rows count k e
  certificate_goes_on = record { readable = fits.readable; lent = lent_same cleared_same errors_same fits.lent; none = none_yet; small = fits.small }

  abbrev rest : Lists
  rest = lists (drop count l.high) (drop count l.low) (drop count l.magnitudes) (drop count l.terms)

  empty-long : Long count (empty count).lists_of
  empty-long =
      record {
        in_high = omega (arith, length-replicate count plus_zero);
        in_low = omega (arith, length-replicate count plus_zero);
        in_magnitudes = omega (arith, length-replicate count plus_zero);
        in_terms = omega (arith, length-replicate {A = ℕ} count 0);
      }

  -- the same rows after the empty certificate, with the lent places beyond
  all_rows : after_rows m rows (certificate k (over count (replicate count plus_zero) errors) no_sums) ≡ with_rest (combined m rows count) rest (drop count errors)
  unfolding combined
  all_rows =
      ap (λ (x : Lists). after_rows m rows (certificate x (over count (replicate count plus_zero) errors) no_sums)) cleared
      ∙ rows_beyond m rows (λ r less. (fits.readable r less).within) (empty count) rest (drop count errors) empty-long (omega (arith, length-replicate count plus_zero))

  errors_are : (after_rows m rows (certificate k e no_sums)).errors ≡ cond m.estimated (over count (combined m rows count).errors errors) errors
  errors_are = by m.estimated refl
    where
      by : (b : Bool) → m.estimated ≡ b → (after_rows m rows (certificate k e no_sums)).errors ≡ cond b (over count (combined m rows count).errors errors) errors
      by true is =
          ap (λ (x : List Float). (after_rows m rows (certificate k x no_sums)).errors)
          (clears ∙ ap (λ (b : Bool). cond b (over count (replicate count plus_zero) errors) errors) is)
          ∙ ap (λ (c : Certificate). c.errors) all_rows
      by false is = errors_stay m rows (certificate k e no_sums) is ∙ clears ∙ ap (λ (b : Bool). cond b (over count (replicate count plus_zero) errors) errors) is

  pub certificate_is : {c : Certificate} → c ≡ after_rows m rows (certificate k e no_sums) → c ≡ written m.estimated count (combined m rows count) l errors
  unfolding written
  certificate_is f =
      let a = rows_alone m rows k e (over count (replicate count plus_zero) errors) in
      f
      ∙ ap (λ (x : List Float). certificate (after_rows m rows (certificate k e no_sums)).lists_of x (after_rows m rows (certificate k e no_sums)).sums_of) errors_are
      ∙ rw (a.0 ∙ ap (λ (c : Certificate). c.lists_of) all_rows, a.1 ∙ ap (λ (c : Certificate). c.sums_of) all_rows) refl
