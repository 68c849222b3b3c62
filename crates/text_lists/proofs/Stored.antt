-- The lists while the lines are read: each turn of the loop stores a line. Assumes nothing.
use mathlib.Core.Path.{◌≡◌, refl, sym, ◌∙◌}
use mathlib.Core.Bool.{Bool, true, false}
use mathlib.Core.List.{List}
use Prim.Native.Nat.{ℕ, ◌+◌, ◌-◌, ◌<◌, ◌≤◌}
use native.Mathlib.Numerals.{add-one}
use native.Mathlib.Omega.{arith}
use borrow.Author.Tests.{ltb-true, ltb-false}
use lib.Dec.{ltb}
use mir.Val.{bool_byte}
use Rattle.repeats.specs.Counted.{run}
use Rattle.repeats.specs.Filled.{filled_from}
use Rattle.repeats.proofs.Stores.{step_left}
use Rattle.text_lines.specs.declared.variable_lines.VariableLine.{VariableLine}
use Rattle.text_lists.specs.declared.variables_lent.VariableLists.{VariableLists as Slices}
use Rattle.text_lists.specs.VariablesLent.{SameSlices, VariableLists, with_variable, with_variables}

-- the same references, over two calls
pub same_then : {l k j : Slices} → SameSlices l k → SameSlices k j → SameSlices l j
same_then a b =
    record {
      integer_is = b.integer_is ∙ a.integer_is;
      mins_is = b.mins_is ∙ a.mins_is;
      maxs_is = b.maxs_is ∙ a.maxs_is;
      low_tolerances_is = b.low_tolerances_is ∙ a.low_tolerances_is;
      high_tolerances_is = b.high_tolerances_is ∙ a.high_tolerances_is;
      basic_is = b.basic_is ∙ a.basic_is;
      places_is = b.places_is ∙ a.places_is;
      values_is = b.values_is ∙ a.values_is;
    }

-- the lines stored from a place on
abbrev stored_from : ℕ → List VariableLine → List VariableLine → VariableLists → VariableLists
stored_from place structural lines l =
    record {
      integer = filled_from place (λ (line : VariableLine). bool_byte line.integer) structural l.integer;
      mins = filled_from place (λ (line : VariableLine). line.min) lines l.mins;
      maxs = filled_from place (λ (line : VariableLine). line.max) lines l.maxs;
      low_tolerances = filled_from place (λ (line : VariableLine). line.low) lines l.low_tolerances;
      high_tolerances = filled_from place (λ (line : VariableLine). line.high) lines l.high_tolerances;
      basic = filled_from place (λ (line : VariableLine). bool_byte line.basic) lines l.basic;
      places = filled_from place (λ (line : VariableLine). line.place) lines l.places;
      values = filled_from place (λ (line : VariableLine). line.value) lines l.values;
    }

module _ {S : Type 0} (read : ℕ → S → VariableLine) (next : VariableLine → S) (structurals count : ℕ) where
  -- the lists l with what is left stored from the i-th place on
  abbrev rest : ℕ → S → VariableLists → VariableLists
  rest i σ l = stored_from i (run read next i (structurals - i) σ) (run read next i (count - i) σ) l

  -- they are the first lists with all stored
  pub record Left (σ₀ : S) (l₀ : VariableLists) (i : ℕ) (σ : S) (l : VariableLists) : Type 0 where
    pub is : with_variables (run read next 0 structurals σ₀) (run read next 0 count σ₀) l₀ ≡ rest i σ l

  turn : (i : ℕ) (σ : S) (l : VariableLists) → i < count → rest i σ l ≡ rest (i + 1) (next (read i σ)) (with_variable structurals i (read i σ) l)
  unfolding run
  turn i σ l h = go (ltb i structurals) refl
    where
      go : (b : Bool) → ltb i structurals ≡ b → rest i σ l ≡ rest (i + 1) (next (read i σ)) (with_variable structurals i (read i σ) l)
      go true w = rw (w, step_left count i h, step_left structurals i (ltb-true i structurals w)) (rw (add-one i) refl)
      go false w =
          let n : structurals ≤ i = ltb-false i structurals w in
          let z : structurals - i ≡ 0 = omega (arith, n) in
          let z' : structurals - (i + 1) ≡ 0 = omega (arith, n) in
          rw (w, z, z', step_left count i h) (rw (add-one i) refl)

  module _ {σ₀ : S} {l₀ : VariableLists} where
    pub left_start : Left σ₀ l₀ 0 σ₀ l₀
    left_start =
        let z : structurals - 0 ≡ structurals = omega arith in
        let z' : count - 0 ≡ count = omega arith in
        record { is = rw (z, z') refl }

    pub left_turn : {i : ℕ} {σ : S} {l m : VariableLists} {r : VariableLine} → i < count → r ≡ read i σ → m ≡ with_variable structurals i r l
        → Left σ₀ l₀ i σ l → Left σ₀ l₀ (i + 1) (next r) m
    left_turn {i} {σ} {l} h e g t = record { is = t.is ∙ rw (g, e) (turn i σ l h) }

    pub left_end : {i : ℕ} {σ : S} {l : VariableLists} → structurals ≤ count → count ≤ i → Left σ₀ l₀ i σ l
        → l ≡ with_variables (run read next 0 structurals σ₀) (run read next 0 count σ₀) l₀
    unfolding run
    left_end {i} {σ} {l} s h t =
        let z : structurals - i ≡ 0 = omega (arith, s, h) in
        let z' : count - i ≡ 0 = omega (arith, h) in
        let none : rest i σ l ≡ l = rw (z, z') refl in
        sym (t.is ∙ none)
