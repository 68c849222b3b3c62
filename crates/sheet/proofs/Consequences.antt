-- What the answers of single questions give: of any lists, then of a sheet to which every answer is yes. Assumes nothing.
use native.Mathlib.Omega.{arith}
use mathlib.Core.Path.{◌≡◌, refl, ap, sym, ◌∙◌, subst}
use mathlib.Core.Logic.{inl, inr}
use mathlib.Core.Bool.{Bool, true, false, not, cond}
use mathlib.Core.List.{List, [], ◌∷◌}
use Prim.Native.Nat.{ℕ, zero, suc, ◌+◌, ◌≤◌, ◌<◌}
use borrow.Author.Tests.{eqb-true, ltb-true, not-true}
use lib.Dec.{T}
use lib.ListN.{length, get_or}
use lib.Ieee.{Float, nan, inf, binary64, is_nan, mul, le, eq, ne}
use lib.Ieee.Scale.{finite}
use Rattle.exact.proofs.Compare.{le_no_nan}
use Rattle.exact.specs.Value.{sign}
use Rattle.exact.proofs.Naturals.{le_or_lt}
use Rattle.sheet.specs.Sheet.{Sheet, variables}
use Rattle.loops.specs.Places.{all_below}
use Rattle.questions.specs.BasisPlaces.{holds_place, holders}
use Rattle.questions.specs.Questions.{finite_at, all_finite, range_fine, range_fine_at, bounds_fine, plain, plain_at, all_plain, product_finite_at, tolerances_fine, leaving_row_fine}
use Rattle.questions.specs.RowQuestions.{slack_entry_fine_at, entries_fine}
use Rattle.questions.specs.PlaceQuestions.{place_fine_at, held_once_at, basis_fine}
use Rattle.loops.proofs.All.{Each, each, and_left, and_right, all_at}
use Rattle.questions.proofs.Tests.{passes}
use Rattle.sheet.proofs.Accepted.{RowsHold, VariablesHold, LengthsHold, lengths_hold, AllYes}

-- ---- 6 and 10: a list whose numbers are finite
pub finite_at_lem : (xs : List Float) → all_finite xs ≡ true → (k : ℕ) → k < length xs → T (finite (get_or xs k nan))
unfolding all_finite
finite_at_lem xs all k less = passes refl (all_at (finite_at xs) (length xs) all k less)

-- ---- 7
-- a number that differs from an infinity is not that infinity
differs : (x : Float) (s : Bool) → ne x (inf s) ≡ true → x ≡ inf s → ⊥
unfolding ne eq
differs x true e is = passes refl (sym (ap (λ (y : Float). ne y (inf true)) is) ∙ e)
differs x false e is = passes refl (sym (ap (λ (y : Float). ne y (inf false)) is) ∙ e)

pub record RangeHolds (min max : Float) : Type 0 where
  pub ordered : T (le min max)
  pub min_no_nan : T (not (is_nan min))
  pub max_no_nan : T (not (is_nan max))
  pub min_not_top : min ≡ inf false → ⊥
  pub max_not_bottom : max ≡ inf true → ⊥

pub range_parts : (min max : Float) → range_fine min max ≡ true → RangeHolds min max
unfolding range_fine
range_parts min max e =
    let h = each (le min max) (ne min (inf false) ∷ ne max (inf true) ∷ []) e in
    let o : T (le min max) = passes refl h.0 in
    let n = le_no_nan min max o in
    record { ordered = o; min_no_nan = n.0; max_no_nan = n.1; min_not_top = differs min false h.1.0; max_not_bottom = differs max true h.1.1.0 }

-- ---- 8: a plain number is finite, and its sign bit is clear
abbrev pub Plain : Float → Type 0
Plain x = T (finite x) × (sign x ≡ false)

pub plain_parts : (x : Float) → plain x ≡ true → Plain x
unfolding plain
plain_parts x e = (passes refl (and_left (finite x) (not (sign x)) e), not-true (sign x) (and_right (finite x) (not (sign x)) e))

pub plain_at_lem : (xs : List Float) → all_plain xs ≡ true → (k : ℕ) → k < length xs → Plain (get_or xs k nan)
unfolding all_plain
plain_at_lem xs all k less = plain_parts (get_or xs k nan) (all_at (plain_at xs) (length xs) all k less)

-- ---- 9: a place that is held, and by how many
module _ (basic places : List ℕ) (p : ℕ) where
  abbrev pub Holds : ℕ → Type 0
  Holds v = holds_place basic places p v ≡ true

  -- where somebody holds it there is one that does
  pub some_holder : (n : ℕ) → 1 ≤ holders basic places n p → (v : ℕ) × (v < n) × Holds v
  unfolding holders
  some_holder zero some = absurd (omega arith)
  some_holder (suc n) some = go (some_holder n) (holds_place basic places p n) refl some
    where
      go : (1 ≤ holders basic places n p → (v : ℕ) × (v < n) × Holds v) → (b : Bool) → holds_place basic places p n ≡ b → 1 ≤ holders basic places n p + cond b 1 0 → (v : ℕ) × (v < suc n) × Holds v
      go earlier true here some = (n, omega arith, here)
      go earlier false here some = let h = earlier (omega arith) in (h.0, omega (arith, h.1), h.2)

  -- one more where the last variable holds it, and never fewer
  one_more : (n : ℕ) → Holds n → holders basic places (suc n) p ≡ holders basic places n p + 1
  unfolding holders
  one_more n here = rw here refl

  no_fewer : (n : ℕ) → holders basic places n p ≤ holders basic places (suc n) p
  unfolding holders
  no_fewer n = omega arith

  -- a variable that holds it is counted, and one that holds it too is counted besides
  counts : (n v : ℕ) → v < n → Holds v → 1 ≤ holders basic places n p
  counts zero v less here = absurd (omega arith)
  counts (suc n) v less here =
      elim (le_or_lt n v) [
        | inl last ↦ let e : v ≡ n = omega arith in omega (arith, one_more n (subst Holds e here))
        | inr before ↦ omega (arith, no_fewer n, counts n v before here)
      ]

  counts_both : (n v w : ℕ) → v < w → w < n → Holds v → Holds w → 2 ≤ holders basic places n p
  counts_both zero v w order less first second = absurd (omega arith)
  counts_both (suc n) v w order less first second =
      elim (le_or_lt n w) [
        | inl last ↦ let e : w ≡ n = omega arith in omega (arith, one_more n (subst Holds e second), counts n v (omega arith) first)
        | inr before ↦ omega (arith, no_fewer n, counts_both n v w order before first second)
      ]

  -- where just one holds it, there is no second one
  pub no_second : (n : ℕ) → holders basic places n p ≡ 1 → (v w : ℕ) → v < n → w < n → Holds v → Holds w → v ≡ w
  no_second n one v w first-less second_less first second =
      elim (le_or_lt v w) [
        | inl up ↦
            elim (le_or_lt w v) [
              | inl down ↦ omega arith
              | inr less ↦ absurd (omega (arith, counts_both n v w less second_less first second))
            ]
        | inr less ↦ absurd (omega (arith, counts_both n w v less first-less second first))
      ]

-- ---- of a sheet to which every answer is yes
module _ (s : Sheet) (all : AllYes s) where
  pub lengths : LengthsHold s
  lengths = lengths_hold s all.lengths_are_fine

  pub by_variable : VariablesHold (variables s) s.mins s.maxs s.low_tolerances s.high_tolerances s.basic s.places s.values
  by_variable = lengths.by_variable

  pub by_row : RowsHold s.rows s.entry_count s.starts s.columns s.entries s.right_sides s.scales s.rho_hi s.rho_lo s.second
  by_row = lengths.by_row

  -- 6: the right sides
  pub right_side-finite : (r : ℕ) → r < s.rows → T (finite (get_or s.right_sides r nan))
  unfolding entries_fine
  right_side-finite r less =
      let h = each (all_finite s.entries) (all_finite s.right_sides ∷ all_below s.rows (slack_entry_fine_at s.starts s.entries) ∷ []) all.entries_are_fine in
      finite_at_lem s.right_sides h.1.0 r (omega (arith, by_row.right_sides_long))

  -- 7: the bounds
  pub range_at_lem : (v : ℕ) → v < variables s → RangeHolds (get_or s.mins v nan) (get_or s.maxs v nan)
  unfolding bounds_fine
  range_at_lem v less =
      range_parts (get_or s.mins v nan) (get_or s.maxs v nan) (all_at (range_fine_at s.mins s.maxs) (length s.mins) all.bounds_are_fine v (omega (arith, by_variable.mins_long)))

  -- 8: tolerances, feasibility and scales
  abbrev later_parts : List Bool
  later_parts =
      all_plain s.high_tolerances ∷ plain s.feasibility ∷ all_plain s.scales ∷ all_below (length s.scales) (product_finite_at s.feasibility s.scales) ∷ []

  tolerance_parts : (all_plain s.low_tolerances ≡ true) × Each later_parts
  unfolding tolerances_fine
  tolerance_parts = each (all_plain s.low_tolerances) later_parts all.tolerances_are_fine

  pub low_plain : (v : ℕ) → v < variables s → Plain (get_or s.low_tolerances v nan)
  low_plain v less = plain_at_lem s.low_tolerances tolerance_parts.0 v (omega (arith, by_variable.low_long))

  pub high_plain : (v : ℕ) → v < variables s → Plain (get_or s.high_tolerances v nan)
  high_plain v less = plain_at_lem s.high_tolerances tolerance_parts.1.0 v (omega (arith, by_variable.high_long))

  pub feasibility_plain : Plain s.feasibility
  feasibility_plain = plain_parts s.feasibility tolerance_parts.1.1.0

  pub scale_plain : (r : ℕ) → r < s.rows → Plain (get_or s.scales r nan)
  scale_plain r less = plain_at_lem s.scales tolerance_parts.1.1.1.0 r (omega (arith, by_row.scales_long))

  pub product_finite : (r : ℕ) → r < s.rows → T (finite (mul binary64 s.feasibility (get_or s.scales r nan)))
  product_finite r less = passes refl (all_at (product_finite_at s.feasibility s.scales) (length s.scales) tolerance_parts.1.1.1.1.0 r (omega (arith, by_row.scales_long)))

  -- 9: each place below the row count is held by just one variable
  pub held_once : (p : ℕ) → p < s.rows → holders s.basic s.places (variables s) p ≡ 1
  unfolding basis_fine
  held_once p less =
      let h = and_right (all_below (length s.basic) (place_fine_at s.rows s.basic s.places)) (all_below s.rows (held_once_at s.basic s.places)) all.basis_is_fine in
      subst (λ (n : ℕ). holders s.basic s.places n p ≡ 1) by_variable.basic_long (eqb-true (holders s.basic s.places (length s.basic) p) 1 (all_at (held_once_at s.basic s.places) s.rows h p less))

  pub holder : (p : ℕ) → p < s.rows → (v : ℕ) × (v < variables s) × Holds s.basic s.places p v
  holder p less = some_holder s.basic s.places p (variables s) (omega (arith, held_once p less))

  pub one_holder : (p : ℕ) → p < s.rows → (v w : ℕ) → v < variables s → w < variables s → Holds s.basic s.places p v → Holds s.basic s.places p w → v ≡ w
  one_holder p less = no_second s.basic s.places p (variables s) (held_once p less)

  -- 10: the values
  pub value-finite : (v : ℕ) → v < variables s → T (finite (get_or s.values v nan))
  value-finite v less = finite_at_lem s.values all.values_fine v (omega (arith, by_variable.values_long))

  -- 12: the leaving row
  pub leaving_lt : s.leaving_row < s.rows
  unfolding leaving_row_fine
  leaving_lt = ltb-true s.leaving_row s.rows all.leaving_fine
