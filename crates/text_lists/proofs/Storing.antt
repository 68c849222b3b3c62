-- Lines stored one after the other in lists that are lent together: what is left to do at a loop's head, one turn, and its end. Assumes nothing.
use mathlib.Core.Path.{◌≡◌, refl, sym, ap, ◌∙◌}
use mathlib.Core.Bool.{Bool, false}
use mathlib.Core.List.{List, [], ◌∷◌, ◌++◌, map, map-append}
use Prim.Native.Nat.{ℕ, suc, ◌+◌, ◌-◌, ◌<◌, ◌≤◌}
use native.Mathlib.Numerals.{add-one}
use native.Mathlib.Omega.{arith}
use lib.ListN.{length, length-map}
use lib.Seq.{sets}
use Rattle.std.specs.Prelude.{Option}
use Rattle.std.proofs.lemmas.List.{nil_from_length}
use Rattle.repeats.specs.Chained.{chain}
use Rattle.repeats.specs.Counted.{run, gather}
use Rattle.repeats.specs.Filled.{filled_from}
use Rattle.repeats.proofs.Stores.{step_left, sets_append}
use Rattle.repeats.proofs.Chains.{Over, chain_counts_end}
use Rattle.questions.specs.declared.widened.Marks.{Marks}
use Rattle.questions.specs.Marks.{noted, marks_from}
use Rattle.text_lines.specs.declared.row_items.Pair.{Pair}
use Rattle.text_lines.specs.declared.sided_lines.SidedLine.{SidedLine}
use Rattle.text_lines.specs.declared.multiplier_lines.RhoLine.{RhoLine}
use Rattle.text_lists.specs.declared.row_lists.RowLine.{RowLine}
use Rattle.text_lists.specs.declared.row_lists.Reached.{Reached}
use Rattle.text_lists.specs.Lent.{RowLists, with_pair, with_pairs, with_row, with_rows, RhoLists, with_rho}
use Rattle.text_lists.specs.Widened.{item}
use Rattle.text_lists.specs.Rows.{row_at, after_row, pairs_at, row_lines, rows_pairs, no_pair_yet}

-- `stored` stores things from a place on, as `store` does one after the other
pub record Stores {R L : Type 0} (store : ℕ → R → L → L) (stored : ℕ → List R → L → L) : Type 0 where
  pub none : (i : ℕ) (l : L) → stored i [] l ≡ l
  pub one : (i : ℕ) (r : R) (rs : List R) (l : L) → stored i (r ∷ rs) l ≡ stored (suc i) rs (store i r l)

-- ---- n things: the lists l with what is left stored are the lists l₀ with all stored
pub record RunLeft {S R L : Type 0} (read : ℕ → S → R) (next : R → S) (stored : ℕ → List R → L → L) (n : ℕ) (σ₀ : S) (l₀ : L) (i : ℕ) (σ : S) (l : L) : Type 0 where
  pub is : stored 0 (run read next 0 n σ₀) l₀ ≡ stored i (run read next i (n - i) σ) l

module _ {S R L : Type 0} {read : ℕ → S → R} {next : R → S} {stored : ℕ → List R → L → L} {n : ℕ} {σ₀ : S} {l₀ : L} where
  pub run_left_start : RunLeft read next stored n σ₀ l₀ 0 σ₀ l₀
  run_left_start = let z : n - 0 ≡ n = omega arith in record { is = rw z refl }

  pub run_left_turn : {store : ℕ → R → L → L} → Stores store stored → {i : ℕ} {σ : S} {l m : L} {r : R} → i < n → r ≡ read i σ → m ≡ store i r l → RunLeft read next stored n σ₀ l₀ i σ l
      → RunLeft read next stored n σ₀ l₀ (i + 1) (next r) m
  unfolding run
  run_left_turn s {i} {σ} {l} h e g t = record { is = t.is ∙ rw (step_left n i h) (s.one i (read i σ) _ l ∙ rw (add-one i, g, e) refl) }

  pub run_left_end : {store : ℕ → R → L → L} → Stores store stored → {i : ℕ} {σ : S} {l : L} → n ≤ i → RunLeft read next stored n σ₀ l₀ i σ l → l ≡ stored 0 (run read next 0 n σ₀) l₀
  unfolding run
  run_left_end s {i} {σ} {l} h t = let z : n - i ≡ 0 = omega arith in sym (t.is ∙ rw z (s.none i l))

-- ---- things until there is none, n at most in all, of which `first` stand before
pub record ChainLeft {P R L : Type 0} (none : P → Bool) (read : P → R) (next : R → P) (stored : ℕ → List R → L → L) (n first : ℕ) (p₀ : P) (l₀ : L) (count : ℕ) (p : P) (l : L) : Type 0 where
  pub is : stored first (chain none read next (n - first) p₀) l₀ ≡ stored count (chain none read next (n - count) p) l

module _ {P R L : Type 0} {none : P → Bool} {read : P → R} {next : R → P} {stored : ℕ → List R → L → L} {n first : ℕ} {p₀ : P} {l₀ : L} where
  pub chain_left_turn : {store : ℕ → R → L → L} → Stores store stored → {count : ℕ} {p : P} {l m : L} {r : R} → count < n → none p ≡ false → r ≡ read p → m ≡ store count r l
      → ChainLeft none read next stored n first p₀ l₀ count p l → ChainLeft none read next stored n first p₀ l₀ (count + 1) (next r) m
  unfolding chain
  chain_left_turn s {count} {p} {l} h k e g t =
      record { is = t.is ∙ rw (step_left n count h, k) (s.one count (read p) _ l ∙ rw (add-one count, g, e) refl) }

  pub chain_left_end : {store : ℕ → R → L → L} → Stores store stored → {count : ℕ} {p : P} {l : L} → Over none n count p → ChainLeft none read next stored n first p₀ l₀ count p l
      → l ≡ stored first (chain none read next (n - first) p₀) l₀
  chain_left_end s {count} {p} {l} o t =
      let more : count ≡ count + length (chain none read next (n - count) p) = chain_counts_end o (record { is = refl }) in
      let nothing : chain none read next (n - count) p ≡ [] = nil_from_length (chain none read next (n - count) p) (omega (arith, more)) in
      sym (t.is ∙ rw nothing (s.none count l))

-- ---- the rows, each with its pairs
appended : {R A : Type 0} (f : R → A) (place : ℕ) (xs ys : List R) (l : List A) → filled_from place f (xs ++ ys) l ≡ filled_from (place + length xs) f ys (filled_from place f xs l)
appended f place xs ys l = ap (λ (vs : List _). sets l place vs) (map-append f xs ys) ∙ sets_append l place (map f xs) (map f ys) ∙ rw length-map refl

abbrev rows_from : ℕ → ℕ → List RowLine → List Pair → RowLists → RowLists
rows_from i first rows items l =
    record {
      right_sides = filled_from i (λ (row : RowLine). row.right) rows l.right_sides;
      scales = filled_from i (λ (row : RowLine). row.scale) rows l.scales;
      starts = filled_from (i + 1) (λ (row : RowLine). row.end) rows l.starts;
      columns = filled_from first (λ (item : Pair). item.column) items l.columns;
      entries = filled_from first (λ (item : Pair). item.entry) items l.entries;
    }

module _ (text : List ℕ) (n : ℕ) where
  abbrev rest : ℕ → Reached → RowLists → RowLists
  rest i σ l = rows_from i σ.count (run (row_at text) after_row i (n - i) σ) (gather (row_at text) after_row (pairs_at text) i (n - i) σ) l

  pub record RowsLeft (position : Option ℕ) (l₀ : RowLists) (i : ℕ) (σ : Reached) (l : RowLists) : Type 0 where
    pub is : with_rows (row_lines text n position) (rows_pairs text n position) l₀ ≡ rest i σ l

  turn : (i : ℕ) (σ : Reached) (l : RowLists) → i < n → (row_at text i σ).end ≡ σ.count + length (pairs_at text σ)
      → rest i σ l ≡ rest (i + 1) (after_row (row_at text i σ)) (with_row i (row_at text i σ) (with_pairs σ.count (pairs_at text σ) l))
  unfolding run gather
  turn i σ l h q =
      let more : List Pair = gather (row_at text) after_row (pairs_at text) (suc i) (n - suc i) (after_row (row_at text i σ)) in
      rw (
        step_left n i h,
        appended (λ (item : Pair). item.column) σ.count (pairs_at text σ) more l.columns,
        appended (λ (item : Pair). item.entry) σ.count (pairs_at text σ) more l.entries,
        ← q,
      )
      (rw (add-one i, add-one (suc i)) refl)

  module _ {position : Option ℕ} {l₀ : RowLists} where
    pub rows_left_start : RowsLeft position l₀ 0 (no_pair_yet position) l₀
    rows_left_start = let z : n - 0 ≡ n = omega arith in record { is = rw z refl }

    pub rows_left_turn : {i : ℕ} {σ : Reached} {l m : RowLists} {row : RowLine} → i < n → row ≡ row_at text i σ → row.end ≡ σ.count + length (pairs_at text σ)
        → m ≡ with_row i row (with_pairs σ.count (pairs_at text σ) l) → RowsLeft position l₀ i σ l → RowsLeft position l₀ (i + 1) (after_row row) m
    rows_left_turn {i} {σ} {l} h e q g t = record { is = t.is ∙ rw (g, e) (turn i σ l h (rw e at q)) }

    pub rows_left_end : {i : ℕ} {σ : Reached} {l : RowLists} → n ≤ i → RowsLeft position l₀ i σ l → l ≡ with_rows (row_lines text n position) (rows_pairs text n position) l₀
    unfolding run gather
    rows_left_end {i} {σ} {l} h t =
        let z : n - i ≡ 0 = omega (arith, h) in
        let none : rest i σ l ≡ l = rw z refl in
        sym (t.is ∙ none)

-- ---- pairs, marks of the widened lines, and multipliers
pub pairs_store : Stores with_pair with_pairs
pairs_store = record { none = λ i l. refl; one = λ i r rs l. refl }

-- a mark has its own place, wherever its line stands
abbrev pub marked_from : ℕ → ℕ → List SidedLine → Marks → Marks
marked_from count i lines m = marks_from count m (map item lines)

pub widened_store : (count : ℕ) → Stores (λ i line m. noted count (item line) m) (marked_from count)
unfolding marks_from
widened_store count = record { none = λ i m. refl; one = λ i line lines m. refl }

abbrev pub rhos_from : ℕ → List RhoLine → RhoLists → RhoLists
rhos_from i lines l =
    record {
      rho_hi = filled_from i (λ (line : RhoLine). line.hi) lines l.rho_hi;
      rho_lo = filled_from i (λ (line : RhoLine). line.lo) lines l.rho_lo;
      second = filled_from i (λ (line : RhoLine). line.second) lines l.second;
    }

pub rhos_store : Stores with_rho rhos_from
rhos_store = record { none = λ i l. refl; one = λ i r rs l. refl }
