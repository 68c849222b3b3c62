-- The loops over a row's entries, on lists. Assumes nothing.
use native.Mathlib.Omega.{arith}
use mathlib.Core.Path.{◌≡◌, refl, ap, sym, subst, ◌∙◌}
use mathlib.Core.Bool.{cond}
use mathlib.Core.List.{List}
use Prim.Native.Nat.{ℕ, ◌+◌, ◌<◌}
use lib.ListN.{length, get_or, set, get_or-replicate}
use lib.Ieee.{Float, nan}
use Rattle.doubles.specs.Compare.{absolute}
use Rattle.cdouble.specs.declared.CDouble.{CDouble}
use Rattle.cdouble.specs.Compensated.{◌⊕◌, ◌⊗◌}
use Rattle.questions.specs.Flags.{is_set}
use Rattle.loops.proofs.Turns.{Turn, first, next}
use Rattle.certificate.specs.Added.{with_term, after_terms, with_error, after_errors}
use Rattle.certificate.specs.AddedReads.{TermFits, RowFits, ErrorsFit}
use Rattle.certificate.specs.Everywhere.{everyone}
use Rattle.certificate.proofs.AddedLengths.{Same, after_terms_same, after_terms_few, after_errors_same}
use Rattle.sheet.specs.Outputs.{Lists}

-- ---- a kept row's entries
module _ {count : ℕ} (y : CDouble) {columns : List ℕ} {entries : List Float} {l : Lists} (row : RowFits count columns entries l) where
  abbrev Terms : ℕ → Lists → Type 0
  Terms k c = Turn (λ (n : ℕ). after_terms y columns entries n l) (length columns) k c

  pub first_term : Terms 0 l
  unfolding after_terms
  first_term = first (λ (n : ℕ). after_terms y columns entries n l) (length columns)

  module _ {c : Lists} {k : ℕ} (turn : Terms k c) where
    pub terms_same : Same l c
    terms_same = subst (Same l) (sym turn.so_far) (after_terms_same y columns entries k l)

    pub term_asks : {v : ℕ} → k < length columns → v ≡ get_or columns k 0 → TermFits v c
    term_asks {v} less here =
        let w : v < count = subst (λ (u : ℕ). u < count) (sym here) (row.within k less) in
        let s = terms_same in
        record {
          in_high = omega (arith, s.high_same, row.long.in_high);
          in_low = omega (arith, s.low_same, row.long.in_low);
          in_magnitudes = omega (arith, s.magnitudes_same, row.long.in_magnitudes);
          in_terms = omega (arith, s.terms_same, row.long.in_terms);
          one_more =
              omega (
                arith,
                ap (λ (x : Lists). get_or x.terms v 0) turn.so_far,
                after_terms_few y columns entries k l v,
                row.room v w,
              );
        }

    pub next_term : {d : Lists} {v : ℕ} {a : Float} → k < length columns → v ≡ get_or columns k 0 → a ≡ get_or entries k nan → d ≡ with_term y v a c → Terms (k + 1) d
    unfolding after_terms
    next_term {a = a} less here at e =
        next (with_term y (get_or columns k 0) (get_or entries k nan)) turn less refl
        (e ∙ ap (λ (u : ℕ). with_term y u a c) here ∙ ap (λ (x : Float). with_term y (get_or columns k 0) x c) at)

-- ---- a row's shares of an error, for each of count variables
module _ {count : ℕ} (distance : Float) {columns : List ℕ} {entries errors : List Float} (row : ErrorsFit count columns entries errors) where
  abbrev Errors : ℕ → List Float → Type 0
  Errors k e = Turn (λ (n : ℕ). after_errors distance (everyone count) columns entries n errors) (length columns) k e

  pub first_error : Errors 0 errors
  unfolding after_errors
  first_error = first (λ (n : ℕ). after_errors distance (everyone count) columns entries n errors) (length columns)

  module _ {e : List Float} {k : ℕ} (turn : Errors k e) where
    pub errors_same : length e ≡ length errors
    errors_same = ap length turn.so_far ∙ after_errors_same distance (everyone count) columns entries k errors

    pub error_asks : {v : ℕ} → k < length columns → v ≡ get_or columns k 0 → v < length e
    error_asks {v} less here =
        let w : v < count = subst (λ (u : ℕ). u < count) (sym here) (row.within k less) in
        omega (arith, row.in_errors, errors_same)

    pub next_error : {f : List Float} {v : ℕ} {a : Float}
        → k < length columns
        → v ≡ get_or columns k 0
        → a ≡ get_or entries k nan
        → f ≡ set e v (get_or e v nan ⊕ distance ⊗ absolute a)
        → Errors (k + 1) f
    unfolding after_errors
    next_error {v = v} {a = a} less here at is =
        let there = get_or columns k 0 in
        let share = get_or e there nan ⊕ distance ⊗ absolute (get_or entries k nan) in
        next (with_error distance (everyone count) there (get_or entries k nan)) turn less refl
        (is
        ∙ ap (λ (u : ℕ). set e u (get_or e u nan ⊕ distance ⊗ absolute a)) here
        ∙ ap (λ (x : Float). set e there (get_or e there nan ⊕ distance ⊗ absolute x)) at
        ∙ ap (λ (flag : ℕ). cond (is_set flag) (set e there share) e) (sym (get_or-replicate count there 1 0 (row.within k less))))
