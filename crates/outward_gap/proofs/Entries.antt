-- Rows added to the lists of lower and upper ends, place by place. One law serves both lists, with the sum and the product of its side. Assumes
-- nothing.
use native.Mathlib.Omega.{arith}
use mathlib.Core.Path.{◌≡◌, refl, ap, sym, ◌∙◌}
use mathlib.Core.Bool.{Bool, true, false, cond}
use mathlib.Core.List.{List}
use Prim.Native.Nat.{ℕ, suc, ◌+◌, ◌-◌, ◌<◌, ◌≤◌}
use borrow.Author.Tests.{eqb-true, eqb-false, ne_eqb, leb-true, leb-false}
use lib.Dec.{eqb, leb}
use lib.ListN.{length, get_or, set, replicate, length-set, length-take, length-drop}
use lib.Seq.{get_or-set_same, get_or-set_other}
use lib.Ieee.{Float, nan}
use Rattle.loops.proofs.Turns.{UpTo, begin, advance}
use Rattle.loops.proofs.Listed.{length-each_place, each_place-at, length-listed, is_each_place, each_place-none, each_place-listed, listed-replicate}
use Rattle.doubles.specs.Directed.{sum_up, sum_down, product_up, product_down}
use Rattle.cdouble.specs.declared.CDouble.{CDouble}
use Rattle.cdouble.specs.Compensated.{plus_zero}
use Rattle.questions.specs.Rows.{part}
use Rattle.multipliers.specs.declared.weighing.Multiplier.{Multiplier}
use Rattle.multipliers.specs.declared.weighing.Multiplier.TheVariants.{Zeroed, Dropped, Kept}
use Rattle.gaps.specs.Rows.{Rows, KeptRows}
use Rattle.gaps.specs.Steps.{Operation, add_scaled, after_entries, with_row, coefficient_after}
use Rattle.outward_gap.specs.Ends.{added, with_entries, with_rows_entries, ends_of}

-- ---- one side
module _ (sum product : Operation) (first : ℕ) where
  -- one entry more of a kept row, n of which are added
  module _ (y : CDouble) (columns : List ℕ) (entries before : List Float) (n : ℕ) where
    abbrev v : ℕ
    v = get_or columns n 0

    abbrev a : Float
    a = get_or entries n nan

    abbrev ends : List Float
    ends = with_entries sum product first y columns entries n before

    -- the place k changed where it is that of the variable v
    abbrev changed : ℕ → Bool → Float
    changed k here =
        let c = after_entries sum product y columns entries (first + k) n (get_or before k nan) in
        cond here (add_scaled sum product y a c) c

    as_before : (k : ℕ) → k < length before → get_or ends k nan ≡ after_entries sum product y columns entries (first + k) n (get_or before k nan)
    as_before k less = each_place-at (λ k. after_entries sum product y columns entries (first + k) n) before nan k less

    in_window : (k : ℕ) → first ≤ v → k < length before → (t : Bool) → eqb v (first + k) ≡ t
        → get_or (set ends (v - first) (add_scaled sum product y a (get_or ends (v - first) nan))) k nan ≡ changed k t
    in_window k from less true here =
        let e : v - first ≡ k = omega (arith, eqb-true v (first + k) here) in
        ap (λ (j : ℕ). get_or (set ends j (add_scaled sum product y a (get_or ends j nan))) k nan) e
        ∙ get_or-set_same ends k (add_scaled sum product y a (get_or ends k nan)) nan
        (omega (arith, less, length-each_place (λ k. after_entries sum product y columns entries (first + k) n) before))
        ∙ ap (add_scaled sum product y a) (as_before k less)
    in_window k from less false other =
        get_or-set_other ends (v - first) k (add_scaled sum product y a (get_or ends (v - first) nan)) nan
        (λ e. eqb-false v (first + k) other (omega (arith, e, from))) ∙ as_before k less

    added_at : (k : ℕ) → k < length before → (t : Bool) → leb first v ≡ t
        → get_or (cond t (set ends (v - first) (add_scaled sum product y a (get_or ends (v - first) nan))) ends) k nan ≡ changed k (eqb v (first + k))
    added_at k less true from = in_window k (leb-true first v from) less (eqb v (first + k)) refl
    added_at k less false before-first =
        as_before k less ∙ ap (changed k) (sym (ne_eqb v (first + k) (λ e. omega (arith, e, leb-false first v before-first))))

    added_long : (t : Bool) → length (cond t (set ends (v - first) (add_scaled sum product y a (get_or ends (v - first) nan))) ends) ≡ length before
    added_long true =
        length-set ends (v - first) (add_scaled sum product y a (get_or ends (v - first) nan))
        ∙ length-each_place (λ k. after_entries sum product y columns entries (first + k) n) before
    added_long false = length-each_place (λ k. after_entries sum product y columns entries (first + k) n) before

    pub one_entry : added sum product first y v a ends ≡ with_entries sum product first y columns entries (suc n) before
    unfolding after_entries
    one_entry =
        is_each_place (λ k. after_entries sum product y columns entries (first + k) (suc n)) nan before (added sum product first y v a ends)
        (added_long (leb first v)) (λ k less. added_at k less (leb first v) refl)

  pub no_entry : (y : CDouble) (columns : List ℕ) (entries before : List Float) → before ≡ with_entries sum product first y columns entries 0 before
  unfolding after_entries
  no_entry y columns entries before = each_place-none before

  -- a row by its place in the set
  pub row_left : (m : Multiplier) (columns : List ℕ) (entries before : List Float) → ((y : CDouble) → m ≡ Kept y → ⊥) → before ≡ with_rows_entries sum product first m columns entries before
  unfolding with_row
  row_left (Zeroed y) columns entries before other = each_place-none before
  row_left Dropped columns entries before other = each_place-none before
  row_left (Kept y) columns entries before other = absurd (other y refl)

  pub row_kept : {m : Multiplier} {y : CDouble} (columns : List ℕ) (entries before : List Float) {after : List Float} → m ≡ Kept y
      → after ≡ with_entries sum product first y columns entries (length columns) before → after ≡ with_rows_entries sum product first m columns entries before
  unfolding with_row
  row_kept columns entries before is e = e ∙ ap (λ (m : Multiplier). with_rows_entries sum product first m columns entries before) (sym is)

  -- the rows
  module _ (kept : KeptRows) (m : Rows) (width : ℕ) where
    pub no_row : replicate width plus_zero ≡ ends_of sum product kept m first width 0
    unfolding coefficient_after
    no_row = listed-replicate width plus_zero

    pub one_row : (n : ℕ) → with_rows_entries sum product first (kept n) (m.columns n) (m.entries n) (ends_of sum product kept m first width n) ≡ ends_of sum product kept m first width (suc n)
    unfolding coefficient_after
    one_row n = each_place-listed (λ k. with_row sum product (kept n) (m.columns n) (m.entries n) (first + k)) width (λ k. coefficient_after sum product kept m (first + k) n) nan

-- ---- both sides: a kept row's entries one after another
pub record Entered (first : ℕ) (y : CDouble) (columns : List ℕ) (entries lower upper l u : List Float) (n : ℕ) : Type 0 where
  pub low_is : l ≡ with_entries sum_down product_down first y columns entries n lower
  pub high_is : u ≡ with_entries sum_up product_up first y columns entries n upper

pub first_entry : (first : ℕ) (y : CDouble) (columns : List ℕ) (entries lower upper : List Float) → UpTo (Entered first y columns entries lower upper lower upper) (length columns) 0
first_entry first y columns entries lower upper =
    begin
    (record { low_is = no_entry sum_down product_down first y columns entries lower; high_is = no_entry sum_up product_up first y columns entries upper })

module _ {first : ℕ} {y : CDouble} {columns : List ℕ} {entries lower upper l u : List Float} {k : ℕ} (turn : UpTo (Entered first y columns entries lower upper l u) (length columns) k) where
  pub entered_long : length upper ≡ length lower → length u ≡ length l
  entered_long same =
      ap length turn.so_far.high_is
      ∙ length-each_place (λ j. after_entries sum_up product_up y columns entries (first + j) k) upper
      ∙ same
      ∙ sym (length-each_place (λ j. after_entries sum_down product_down y columns entries (first + j) k) lower)
      ∙ ap length (sym turn.so_far.low_is)

  pub next_entry : {l' u' : List Float} {v : ℕ} {a : Float} → k < length columns → v ≡ get_or columns k 0 → a ≡ get_or entries k nan
      → (l' ≡ added sum_down product_down first y v a l) × (u' ≡ added sum_up product_up first y v a u)
      → UpTo (Entered first y columns entries lower upper l' u') (length columns) (k + 1)
  next_entry {l'} {u'} less here at is =
      let f : (l' ≡ added sum_down product_down first y (get_or columns k 0) (get_or entries k nan) l)
      × (u' ≡ added sum_up product_up first y (get_or columns k 0) (get_or entries k nan) u) = rw (here, at) at is in
      advance less
      (record {
        low_is = f.0 ∙ ap (added sum_down product_down first y (get_or columns k 0) (get_or entries k nan)) turn.so_far.low_is ∙ one_entry sum_down product_down first y columns entries lower k;
        high_is = f.1 ∙ ap (added sum_up product_up first y (get_or columns k 0) (get_or entries k nan)) turn.so_far.high_is ∙ one_entry sum_up product_up first y columns entries upper k;
      })

-- ---- both sides: the rows one after another
-- a row has as many entries as columns
pub parts_same : {A B : Type 0} (starts : List ℕ) (r : ℕ) (xs : List A) (ys : List B) → length xs ≡ length ys → length (part starts r xs) ≡ length (part starts r ys)
unfolding part
parts_same starts r xs ys same = simp (length-take, length-drop, same) refl

pub record Summed (kept : KeptRows) (m : Rows) (first width : ℕ) (l u : List Float) (n : ℕ) : Type 0 where
  pub low_is : l ≡ ends_of sum_down product_down kept m first width n
  pub high_is : u ≡ ends_of sum_up product_up kept m first width n

pub first_row : (kept : KeptRows) (m : Rows) (first : ℕ) {width : ℕ} {l u : List Float} → (l ≡ replicate width plus_zero) × (u ≡ replicate width plus_zero)
    → UpTo (Summed kept m first width l u) m.count 0
first_row kept m first {width} cleared =
    begin
    (record {
      low_is = cleared.0 ∙ no_row sum_down product_down first kept m width;
      high_is = cleared.1 ∙ no_row sum_up product_up first kept m width;
    })

module _ {kept : KeptRows} {m : Rows} {first width : ℕ} {l u : List Float} {r : ℕ} (turn : UpTo (Summed kept m first width l u) m.count r) where
  pub summed_long : length u ≡ length l
  summed_long =
      ap length turn.so_far.high_is
      ∙ length-listed width (λ k. coefficient_after sum_up product_up kept m (first + k) r)
      ∙ sym (length-listed width (λ k. coefficient_after sum_down product_down kept m (first + k) r))
      ∙ ap length (sym turn.so_far.low_is)

  pub next_row : {l' u' : List Float} → r < m.count
      → (l' ≡ with_rows_entries sum_down product_down first (kept r) (m.columns r) (m.entries r) l) × (u' ≡ with_rows_entries sum_up product_up first (kept r) (m.columns r) (m.entries r) u)
      → UpTo (Summed kept m first width l' u') m.count (r + 1)
  next_row less is =
      advance less
      (record {
        low_is = is.0 ∙ ap (with_rows_entries sum_down product_down first (kept r) (m.columns r) (m.entries r)) turn.so_far.low_is ∙ one_row sum_down product_down first kept m width r;
        high_is = is.1 ∙ ap (with_rows_entries sum_up product_up first (kept r) (m.columns r) (m.entries r)) turn.so_far.high_is ∙ one_row sum_up product_up first kept m width r;
      })
