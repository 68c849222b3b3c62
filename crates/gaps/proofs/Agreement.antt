-- Equal rows and equal kept multipliers give the same combined row, and so in the same ranges the same outward gap. Assumes nothing.
use native.Mathlib.Omega.{arith}
use mathlib.Core.Path.{◌≡◌, refl, sym, ap, ap₂, ◌∙◌, subst}
use mathlib.Core.Bool.{Bool, true, false, ◌&&◌, cond}
use mathlib.Core.List.{List}
use Prim.Native.Nat.{ℕ, zero, suc, ◌≤◌, ◌<◌}
use native.Mathlib.Nat.{le_refl}
use lib.Dec.{T, eqb}
use lib.IntN.{ℤ, ◌*ℤ◌}
use lib.ListN.{length, get_or}
use lib.Ieee.{Float, nan, inf}
use lib.Ieee.Fits.{and_l, and_r}
use lib.Ieee.Scale.{finite}
use Rattle.exact.specs.Value.{exact}
use Rattle.doubles.specs.Directed.{product_with, sum_down, sum_up, round_down, round_up}
use Rattle.doubles.proofs.Zero.{exact-with_zero, finite-with_zero}
use Rattle.doubles.proofs.Bounding.{product_finite}
use Rattle.cdouble.specs.declared.CDouble.{CDouble}
use Rattle.loops.specs.Places.{all_below}
use Rattle.loops.proofs.All.{all_same}
use Rattle.multipliers.specs.declared.weighing.Multiplier.{Multiplier}
use Rattle.multipliers.specs.declared.weighing.Multiplier.TheVariants.{Zeroed, Dropped, Kept}
use Rattle.gaps.specs.Rows.{Rows, Ranges, KeptRows, finite_parts}
use Rattle.gaps.specs.Sameness.{Agree, SameRows, SameMultiplier, SameKept}
use Rattle.gaps.specs.Steps.{Operation, add_scaled, after_entries, with_row, coefficient_after, cl, cu, limited, limited_at, largest, with_right_side, right_side, difference, outward_gap}
use Rattle.gaps.proofs.Sound.{SoundRows}
use Rattle.gaps.proofs.Bounds.{parts_finite}

-- ---- doubles that agree have one exact value …
exact-agree : (a b : Float) → Agree a b → exact a ≡ exact b
exact-agree a b e = sym (exact-with_zero false a) ∙ ap exact e ∙ exact-with_zero false b

finite-agree : (a b : Float) → Agree a b → finite a ≡ finite b
finite-agree a b e = sym (finite-with_zero false a) ∙ ap finite e ∙ finite-with_zero false b

-- … which is all that a rounded product of finite ones sees
product_agree : (rounded : ℤ → Float) (a b x y : Float) → T (finite a) → T (finite x) → Agree a b → Agree x y → product_with rounded a x ≡ product_with rounded b y
product_agree rounded a b x y f g p q =
    sym (product_finite rounded a x f g)
    ∙ ap₂ (λ (z w : ℤ). rounded (z *ℤ w)) (exact-agree a b p) (exact-agree x y q)
    ∙ product_finite rounded b y (subst T (finite-agree a b p) f) (subst T (finite-agree x y q) g)

-- ---- equal multipliers: kept both, with parts that agree, or neither
both_by_place : (P : Multiplier → Multiplier → Type 0) → ((y z : CDouble) → Agree y.hi z.hi → Agree y.lo z.lo → P (Kept y) (Kept z))
    → ((y z : CDouble) → P (Zeroed y) (Zeroed z)) → ((y : CDouble) → P (Zeroed y) Dropped) → ((z : CDouble) → P Dropped (Zeroed z)) → P Dropped Dropped
    → (y z : Multiplier) → SameMultiplier y z → P y z
unfolding SameMultiplier
both_by_place P kept zeroed first-zeroed second-zeroed dropped (Kept y) (Kept z) e = kept y z e.0 e.1
both_by_place P kept zeroed first-zeroed second-zeroed dropped (Kept y) (Zeroed z) e = absurd e
both_by_place P kept zeroed first-zeroed second-zeroed dropped (Kept y) Dropped e = absurd e
both_by_place P kept zeroed first-zeroed second-zeroed dropped (Zeroed y) (Kept z) e = absurd e
both_by_place P kept zeroed first-zeroed second-zeroed dropped (Zeroed y) (Zeroed z) e = zeroed y z
both_by_place P kept zeroed first-zeroed second-zeroed dropped (Zeroed y) Dropped e = first-zeroed y
both_by_place P kept zeroed first-zeroed second-zeroed dropped Dropped (Kept z) e = absurd e
both_by_place P kept zeroed first-zeroed second-zeroed dropped Dropped (Zeroed z) e = second-zeroed z
both_by_place P kept zeroed first-zeroed second-zeroed dropped Dropped Dropped e = dropped

finite_parts_same : (y z : Multiplier) → SameMultiplier y z → finite_parts y ≡ finite_parts z
unfolding finite_parts
finite_parts_same = both_by_place (λ y z. finite_parts y ≡ finite_parts z) (λ y z p q. ap₂ ◌&&◌ (finite-agree y.hi z.hi p) (finite-agree y.lo z.lo q)) (λ y z. refl) (λ y. refl) (λ z. refl) refl

-- ---- one row more, with any sum and a product rounded in any way
module _ (sum : Operation) (rounded : ℤ → Float) where
  abbrev product : Operation
  product = product_with rounded

  scaled_same : (y z : CDouble) → Agree y.hi z.hi → Agree y.lo z.lo → T (finite_parts (Kept y)) → (a b : Float) → T (finite a) → Agree a b
      → {c d : Float} → c ≡ d → add_scaled sum product y a c ≡ add_scaled sum product z b d
  unfolding finite_parts
  scaled_same y z p q parts a b f r e =
      ap₂ sum
      (ap₂ sum e (product_agree rounded y.hi z.hi a b (and_l (finite y.hi) (finite y.lo) parts) f p r))
      (product_agree rounded y.lo z.lo a b (and_r (finite y.hi) (finite y.lo) parts) f q r)

  entries_same : (y z : CDouble) → Agree y.hi z.hi → Agree y.lo z.lo → T (finite_parts (Kept y)) → (columns : List ℕ) (entries others : List Float) (v n : ℕ)
      → ((k : ℕ) → k < n → T (finite (get_or entries k nan))) → ((k : ℕ) → k < n → Agree (get_or entries k nan) (get_or others k nan))
      → {c d : Float} → c ≡ d → after_entries sum product y columns entries v n c ≡ after_entries sum product z columns others v n d
  unfolding after_entries
  entries_same y z p q parts columns entries others v zero f r e = e
  entries_same y z p q parts columns entries others v (suc n) f r e =
      let before = entries_same y z p q parts columns entries others v n (λ k less. f k (omega arith)) (λ k less. r k (omega arith)) e in
      ap₂ (cond (eqb (get_or columns n 0) v)) (scaled_same y z p q parts (get_or entries n nan) (get_or others n nan) (f n (omega arith)) (r n (omega arith)) before) before

  row_same : (columns : List ℕ) (entries others : List Float) (v : ℕ) → ((k : ℕ) → k < length columns → T (finite (get_or entries k nan)))
      → ((k : ℕ) → k < length columns → Agree (get_or entries k nan) (get_or others k nan)) → {c d : Float} → c ≡ d
      → (y z : Multiplier) → SameMultiplier y z → T (finite_parts y) → with_row sum product y columns entries v c ≡ with_row sum product z columns others v d
  unfolding with_row
  row_same columns entries others v f r {c} {d} e =
      both_by_place (λ y z. T (finite_parts y) → with_row sum product y columns entries v c ≡ with_row sum product z columns others v d)
      (λ y z p q parts. entries_same y z p q parts columns entries others v (length columns) f r e)
      (λ y z parts. e) (λ y parts. e) (λ z parts. e) (λ parts. e)

right_side_row_same : (a b : Float) → T (finite a) → Agree a b → {c d : Float} → c ≡ d → (y z : Multiplier) → SameMultiplier y z → T (finite_parts y) → with_right_side y a c ≡ with_right_side z b d
unfolding with_right_side
right_side_row_same a b f r {c} {d} e =
    both_by_place (λ y z. T (finite_parts y) → with_right_side y a c ≡ with_right_side z b d)
    (λ y z p q parts. scaled_same sum_down (round_down 1074) y z p q parts a b f r e)
    (λ y z parts. e) (λ y parts. e) (λ z parts. e) (λ parts. e)

-- ---- the walk over the variables sees their ends alone
module _ (lower upper other-lower other-upper : ℕ → Float) (g : Ranges) where
  abbrev SameEnds : ℕ → Type 0
  SameEnds n = (v : ℕ) → v < n → (lower v ≡ other-lower v) × (upper v ≡ other-upper v)

  pub limits_same : (n : ℕ) → SameEnds n → all_below n (limited_at lower upper g) ≡ all_below n (limited_at other-lower other-upper g)
  limits_same n same =
      all_same (limited_at lower upper g) (limited_at other-lower other-upper g) n (λ v less. ap₂ (λ (l u : Float). limited l u (g.low v) (g.high v)) (same v less).0 (same v less).1)

  pub largest_same : (n : ℕ) → SameEnds n → largest lower upper g n ≡ largest other-lower other-upper g n
  unfolding largest
  largest_same zero same = refl
  largest_same (suc n) same = cc ((same n (omega arith)).0, (same n (omega arith)).1, largest_same n (λ v less. same v (omega arith)))

-- ---- all rows
module _ (kept other : KeptRows) (m n : Rows) (sound : SoundRows m) (rows : SameRows m n) (same : SameKept m.count kept other) where
  pub parts_same : all_below m.count (λ r. finite_parts (kept r)) ≡ all_below n.count (λ r. finite_parts (other r))
  parts_same =
      all_same (λ r. finite_parts (kept r)) (λ r. finite_parts (other r)) m.count (λ r less. finite_parts_same (kept r) (other r) (same r less))
      ∙ ap (λ (k : ℕ). all_below k (λ r. finite_parts (other r))) (sym rows.count_same)

  -- where all kept parts are finite
  module _ (parts : (r : ℕ) → r < m.count → T (finite_parts (kept r))) where
    coefficient_same : (sum : Operation) (rounded : ℤ → Float) (v k : ℕ) → k ≤ m.count
        → coefficient_after sum (product_with rounded) kept m v k ≡ coefficient_after sum (product_with rounded) other n v k
    unfolding coefficient_after
    coefficient_same sum rounded v zero h = refl
    coefficient_same sum rounded v (suc k) h =
        row_same sum rounded (m.columns k) (m.entries k) (n.entries k) v (sound.entry-finite k h) (λ j less. sym (rows.entries_agree k h j less))
        (coefficient_same sum rounded v k (omega arith)) (kept k) (other k) (same k h) (parts k h)
        ∙ ap (λ (columns : List ℕ). with_row sum (product_with rounded) (other k) columns (n.entries k) v (coefficient_after sum (product_with rounded) other n v k)) (sym (rows.columns_same k h))

    -- either end of a coefficient
    end_same : (sum : Operation) (rounded : ℤ → Float) (v : ℕ) → coefficient_after sum (product_with rounded) kept m v m.count ≡ coefficient_after sum (product_with rounded) other n v n.count
    end_same sum rounded v = coefficient_same sum rounded v m.count (le_refl m.count) ∙ ap (coefficient_after sum (product_with rounded) other n v) (sym rows.count_same)

    pub cl_same : (v : ℕ) → cl kept m v ≡ cl other n v
    cl_same = end_same sum_down (round_down 1074)

    pub cu_same : (v : ℕ) → cu kept m v ≡ cu other n v
    cu_same = end_same sum_up (round_up 1074)

    right_side_after : (k : ℕ) → k ≤ m.count → right_side kept m k ≡ right_side other n k
    unfolding right_side
    right_side_after zero h = refl
    right_side_after (suc k) h =
        right_side_row_same (m.right_sides k) (n.right_sides k) (sound.right_side-finite k h) (sym (rows.right_sides_agree k h)) (right_side_after k (omega arith))
        (kept k) (other k) (same k h) (parts k h)

    pub right_side_same : right_side kept m m.count ≡ right_side other n n.count
    right_side_same = right_side_after m.count (le_refl m.count) ∙ ap (right_side other n) (sym rows.count_same)

  -- ---- the gap in the same ranges
  pub gap_same : (g : Ranges) → outward_gap kept m g ≡ outward_gap other n g
  unfolding outward_gap
  gap_same g =
      let each = parts_finite kept m.count in
      let ends : all_below m.count (λ r. finite_parts (kept r)) ≡ true → (v : ℕ) → v < m.variables → (cl kept m v ≡ cl other n v) × (cu kept m v ≡ cu other n v) =
      λ all v less. (cl_same (each all) v, cu_same (each all) v) in
      where-all (all_below m.count (λ r. finite_parts (kept r))) (inf true)
      (λ all. limits_same (cl kept m) (cu kept m) (cl other n) (cu other n) g m.variables (ends all) ∙ ap (λ (k : ℕ). all_below k (limited_at (cl other n) (cu other n) g)) (sym rows.variables_same))
      (λ all.
      ap₂ difference (right_side_same (each all))
      (largest_same (cl kept m) (cu kept m) (cl other n) (cu other n) g m.variables (ends all) ∙ ap (largest (cl other n) (cu other n) g) (sym rows.variables_same)))
      ∙ ap (λ (all : Bool). cond (all && all_below n.variables (limited_at (cl other n) (cu other n) g))
      (difference (right_side other n n.count) (largest (cl other n) (cu other n) g n.variables)) (inf true)) parts_same
    where
      where-all : (all : Bool) {b c : Bool} {x y : Float} (z : Float) → (all ≡ true → b ≡ c) → (all ≡ true → x ≡ y) → cond (all && b) x z ≡ cond (all && c) y z
      where-all true z p q = ap₂ (λ (b : Bool) (x : Float). cond b x z) (p refl) (q refl)
      where-all false z p q = refl
