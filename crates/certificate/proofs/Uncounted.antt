-- A variable of which the certificate counts no term: no kept row has it among its columns, and its coefficient is 0. Assumes nothing.
use native.Mathlib.Omega.{arith}
use mathlib.Core.Path.{◌≡◌, refl, ap, ap₂, sym, ◌∙◌}
use mathlib.Core.Bool.{Bool, true, false}
use mathlib.Core.Logic.{inl, inr}
use mathlib.Core.List.{List}
use Prim.Native.Nat.{ℕ, zero, suc, ◌+◌, ◌<◌}
use borrow.Author.Tests.{eqb-true, eqb-false}
use lib.Dec.{eqb}
use lib.ListN.{length, get_or, set, length-replicate, get_or-replicate}
use lib.Seq.{get_or-set_same, get_or-set_other}
use lib.Ieee.{Float, nan}
use Rattle.exact.proofs.Naturals.{le_or_lt}
use Rattle.cdouble.specs.declared.CDouble.{CDouble}
use Rattle.cdouble.specs.Compensated.{pair, plus_zero}
use Rattle.multipliers.specs.declared.weighing.Multiplier.{Multiplier}
use Rattle.multipliers.specs.declared.weighing.Multiplier.TheVariants.{Zeroed, Dropped, Kept}
use Rattle.sheet.specs.Outputs.{Lists}
use Rattle.certificate.specs.System.{System, multiplier_at, row_columns, row_entries}
use Rattle.certificate.specs.Added.{after_terms, kept_into, pair_at}
use Rattle.certificate.specs.Certificate.{Certificate, empty, after_rows, combined, with_row}
use Rattle.certificate.proofs.AddedLengths.{after_terms_same}
use Rattle.certificate.proofs.Lengths.{after_rows_same}

-- the first n columns are other variables than v
abbrev pub Others : List ℕ → ℕ → ℕ → Type 0
Others columns v n = (k : ℕ) → k < n → eqb (get_or columns k 0) v ≡ false

-- a row, if it is kept, has only others
abbrev pub Free : Multiplier → List ℕ → ℕ → Type 0
Free m columns v = elim m [ Zeroed y ↦ Unit | Dropped ↦ Unit | Kept y ↦ Others columns v (length columns) ]

-- ---- a kept row's entries
module _ (y : CDouble) (columns : List ℕ) (entries : List Float) (v : ℕ) where
  -- one entry more adds no term of v, so none stood there before and it is another's
  one_other : (n : ℕ) (t : List ℕ) → v < length t → get_or (set t (get_or columns n 0) (get_or t (get_or columns n 0) 0 + 1)) v 0 ≡ 0
      → (b : Bool) → eqb (get_or columns n 0) v ≡ b → (get_or t v 0 ≡ 0) × (b ≡ false)
  one_other n t inside none true here =
      let e = eqb-true (get_or columns n 0) v here in
      let counted : get_or t v 0 + 1 ≡ 0 =
      sym (get_or-set_same t v (get_or t v 0 + 1) 0 inside) ∙ ap (λ (w : ℕ). get_or (set t w (get_or t w 0 + 1)) v 0) (sym e) ∙ none in
      absurd (omega (arith, counted))
  one_other n t inside none false other =
      let w = get_or columns n 0 in (sym (get_or-set_other t w v (get_or t w 0 + 1) 0 (λ e. eqb-false w v other (sym e))) ∙ none, refl)

  more_others : (n : ℕ) → Others columns v n → eqb (get_or columns n 0) v ≡ false → Others columns v (suc n)
  more_others n others last k less =
      elim (le_or_lt n k) [ inl here ↦ let e : k ≡ n = omega arith in ap (λ (j : ℕ). eqb (get_or columns j 0) v) e ∙ last | inr before ↦ others k before ]

  -- no term counted: none before, and none of v among the entries
  uncounted : (n : ℕ) (l : Lists) → v < length l.terms → get_or (after_terms y columns entries n l).terms v 0 ≡ 0 → (get_or l.terms v 0 ≡ 0) × Others columns v n
  unfolding after_terms
  uncounted zero l inside none = (none, λ k less. absurd (omega arith))
  uncounted (suc n) l inside none =
      let before = after_terms y columns entries n l in
      let one = one_other n before.terms (omega (arith, (after_terms_same y columns entries n l).terms_same)) none (eqb (get_or columns n 0) v) refl in
      let h = uncounted n l inside one.0 in
      (h.0, more_others n h.1 one.1)

  -- entries of others leave the coefficient of v
  pair_left : (n : ℕ) (l : Lists) → Others columns v n → let after = after_terms y columns entries n l in pair_at after.high after.low v ≡ pair_at l.high l.low v
  unfolding after_terms
  pair_left zero l others = refl
  pair_left (suc n) l others =
      let before = after_terms y columns entries n l in
      let other : (v ≡ get_or columns n 0 → ⊥) = λ e. eqb-false (get_or columns n 0) v (others n (omega arith)) (sym e) in
      ap₂ pair (get_or-set_other before.high _ v _ nan other) (get_or-set_other before.low _ v _ nan other)
      ∙ pair_left n l (λ k less. others k (omega arith))

-- ---- a row, by what becomes of its multiplier
row_uncounted : (m : Multiplier) (columns : List ℕ) (entries : List Float) (v : ℕ) (l : Lists) → v < length l.terms → get_or (kept_into m columns entries l).terms v 0 ≡ 0
    → (get_or l.terms v 0 ≡ 0) × Free m columns v
unfolding kept_into
row_uncounted (Zeroed y) columns entries v l inside none = (none, tt)
row_uncounted Dropped columns entries v l inside none = (none, tt)
row_uncounted (Kept y) columns entries v l inside none = uncounted y columns entries v (length columns) l inside none

row_leaves : (m : Multiplier) (columns : List ℕ) (entries : List Float) (v : ℕ) (l : Lists) → Free m columns v
    → let after = kept_into m columns entries l in pair_at after.high after.low v ≡ pair_at l.high l.low v
unfolding kept_into
row_leaves (Zeroed y) columns entries v l free = refl
row_leaves Dropped columns entries v l free = refl
row_leaves (Kept y) columns entries v l free = pair_left y columns entries v (length columns) l free

-- ---- the rows
module _ (m : System) (v : ℕ) (c : Certificate) (inside : v < length c.lists_of.terms) where
  row_free : (n : ℕ) → get_or (after_rows m (suc n) c).lists_of.terms v 0 ≡ 0 → (get_or (after_rows m n c).lists_of.terms v 0 ≡ 0) × Free (multiplier_at m n) (row_columns m n) v
  unfolding after_rows with_row
  row_free n none =
      row_uncounted (multiplier_at m n) (row_columns m n) (row_entries m n) v (after_rows m n c).lists_of (omega (arith, (after_rows_same m n c).0.terms_same)) none

  -- no term counted after n rows: v is in none of them that is kept
  pub rows_free : (n : ℕ) → get_or (after_rows m n c).lists_of.terms v 0 ≡ 0 → (r : ℕ) → r < n → Free (multiplier_at m r) (row_columns m r) v
  rows_free zero none r less = absurd (omega arith)
  rows_free (suc n) none r less =
      let last = row_free n none in
      elim (le_or_lt n r) [ inl here ↦ let e : r ≡ n = omega arith in rw e last.1 | inr before ↦ rows_free n last.0 r before ]

  rows_leave : (n : ℕ) → get_or (after_rows m n c).lists_of.terms v 0 ≡ 0
      → let after = (after_rows m n c).lists_of in pair_at after.high after.low v ≡ pair_at c.lists_of.high c.lists_of.low v
  unfolding after_rows with_row
  rows_leave zero none = refl
  rows_leave (suc n) none =
      let last = row_free n none in
      row_leaves (multiplier_at m n) (row_columns m n) (row_entries m n) v (after_rows m n c).lists_of last.1 ∙ rows_leave n last.0

-- ---- all rows
module _ (m : System) (rows count v : ℕ) (less : v < count) (none : get_or (combined m rows count).lists_of.terms v 0 ≡ 0) where
  inside : v < length (empty count).lists_of.terms
  inside = omega (arith, length-replicate {A = ℕ} count 0)

  -- no kept row has v
  pub all_free : (r : ℕ) → r < rows → Free (multiplier_at m r) (row_columns m r) v
  unfolding combined
  all_free = rows_free m v (empty count) inside rows none

  -- and its coefficient is 0
  pub pair_zero : let l = (combined m rows count).lists_of in pair_at l.high l.low v ≡ pair plus_zero plus_zero
  unfolding combined
  pair_zero =
      rows_leave m v (empty count) inside rows none ∙ ap₂ pair (get_or-replicate count v plus_zero nan less) (get_or-replicate count v plus_zero nan less)
