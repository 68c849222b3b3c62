-- A finite outward gap means that there is an exact gap, and is not above it. Assumes nothing.
use mathlib.Core.Path.{◌≡◌, refl, ◌∙◌, subst}
use mathlib.Core.Bool.{Bool, true, false, cond, not, ◌||◌, ◌&&◌}
use mathlib.Core.Option.{some}
use Prim.Native.Nat.{ℕ, ◌<◌}
use lib.IntN.{ℤ, pos, ◌+ℤ◌, ◌*ℤ◌, ◌-ℤ◌, +ℤ_idl}
use lib.Dec.{T}
use lib.Ieee.{Float, inf, binary64, fits, is_nan, eq, neg}
use lib.Ieee.Fits.{inf-fits}
use lib.Ieee.Bits.{is_true}
use lib.Ieee.Scale.{finite}
use Rattle.exact.specs.Value.{sign, exact}
use Rattle.exact.specs.Integers.{Σ<}
use Rattle.doubles.specs.Directed.{sum_down}
use Rattle.loops.specs.Places.{all_below}
use Rattle.loops.proofs.All.{and_left, and_right, all_at, all_of}
use Rattle.gaps.specs.Rows.{Rows, Ranges, KeptRows, finite_parts}
use Rattle.gaps.specs.Steps.{cl, cu, limited_at, with_term, largest, right_side, difference, outward_gap}
use Rattle.gaps.specs.Points.{in_units}
use Rattle.gaps.specs.ExactGap.{coefficient, combined_right_side, taken_at, largest_value, exact_gap}
use Rattle.gaps.specs.ThirdDemand.{NeverAbove}
use Rattle.gaps.proofs.Sound.{SoundRows, SoundRanges}
use Rattle.gaps.proofs.Sides.{upward, downward, Bounds, bounds_zero, bounds_finer, bounds_sum, bounds_run, bounds_neg}
use Rattle.gaps.proofs.Bounds.{parts_finite, cl_bounds, cu_bounds, right_side_bounds}
use Rattle.gaps.proofs.Taken.{with_term_lem}

-- ---- what is finite is not the −infinity of a test that failed
passed : (q : Bool) (x : Float) → T (finite (cond q x (inf true))) → (q ≡ true) × (cond q x (inf true) ≡ x)
passed true x f = (refl, refl)
passed false x f = absurd f

failed : (q : Bool) (x : Float) → T (finite (cond q (inf true) x)) → cond q (inf true) x ≡ x
failed true x f = absurd f
failed false x f = refl

module _ (kept : KeptRows) (m : Rows) (g : Ranges) (sound : SoundRows m) (ranges : SoundRanges m.variables g) where
  -- ---- where no step gives −infinity
  module _ (parts : all_below m.count (λ r. finite_parts (kept r)) ≡ true) (limits : all_below m.variables (limited_at (cl kept m) (cu kept m) g) ≡ true) where
    finite_parts_lem : (r : ℕ) → r < m.count → T (finite_parts (kept r))
    finite_parts_lem = parts_finite kept m.count parts

    at_variable : (v : ℕ) → v < m.variables → T (finite (taken_at kept m g v))
        × ((sum : Float) (z : ℤ) → Bounds upward 2148 z sum → Bounds upward 2148 (z +ℤ coefficient kept m v *ℤ exact (taken_at kept m g v))
        (with_term (cl kept m v) (cu kept m v) (g.low v) (g.high v) sum))
    at_variable v less =
        with_term_lem (cl kept m v) (cu kept m v) (g.low v) (g.high v) (coefficient kept m v) (cl_bounds kept m sound finite_parts_lem v) (cu_bounds kept m sound finite_parts_lem v) (ranges v less)
        (all_at (limited_at (cl kept m) (cu kept m) g) m.variables limits v less)

    finite-taken : all_below m.variables (λ v. finite (taken_at kept m g v)) ≡ true
    finite-taken = all_of (λ v. finite (taken_at kept m g v)) m.variables λ v less. is_true (finite (taken_at kept m g v)) (at_variable v less).0

    abbrev exact_largest : ℤ
    exact_largest = Σ< m.variables (λ v. coefficient kept m v *ℤ exact (taken_at kept m g v))

    -- M is not below the exact largest value
    pub largest_bounds : Bounds upward 2148 exact_largest (largest (cl kept m) (cu kept m) g m.variables)
    unfolding largest
    largest_bounds =
        rw +ℤ_idl at
        (bounds_run upward 2148 (largest (cl kept m) (cu kept m) g) (λ v. coefficient kept m v *ℤ exact (taken_at kept m g v)) (pos 0) m.variables (bounds_zero upward 2148)
        (λ v less z Z. (at_variable v less).1 (largest (cl kept m) (cu kept m) g v) z Z))

    -- there is an exact gap
    exact_gap_is : exact_gap kept m g ≡ some (in_units (combined_right_side kept m) -ℤ exact_largest)
    unfolding exact_gap largest_value
    exact_gap_is = rw (parts, finite-taken)

    -- B − M rounded down is not above the exact difference
    bounds_difference : Bounds downward 2148 (in_units (combined_right_side kept m) -ℤ exact_largest) (sum_down (right_side kept m m.count) (neg (largest (cl kept m) (cu kept m) g m.variables)))
    unfolding in_units
    bounds_difference =
        bounds_sum downward 2148 _ _ (right_side kept m m.count) (neg (largest (cl kept m) (cu kept m) g m.variables))
        (bounds_finer downward 1074 1074 (right_side_bounds kept m sound finite_parts_lem)) (bounds_neg 2148 exact_largest (largest (cl kept m) (cu kept m) g m.variables) largest_bounds)

-- ---- what the outward gap can be: a double, no NaN and not +infinity
pub record Shape (x : Float) : Type 0 where
  pub fit : T (fits binary64 x)
  pub no_nan : T (not (is_nan x))
  pub not_top : x ≡ inf false → ⊥

bottom_shape : Shape (inf true)
unfolding is_nan
bottom_shape = record { fit = inf-fits binary64 true; no_nan = tt; not_top = λ e. subst (λ (x : Float). T (sign x)) e tt }

pub outward_shape : (kept : KeptRows) (m : Rows) (g : Ranges) → SoundRows m → SoundRanges m.variables g → Shape (outward_gap kept m g)
unfolding outward_gap difference
outward_shape kept m g sound ranges =
    let P = all_below m.count (λ r. finite_parts (kept r)) in
    let Q = all_below m.variables (limited_at (cl kept m) (cu kept m) g) in
    let B = right_side kept m m.count in
    let M = largest (cl kept m) (cu kept m) g m.variables in
    go (sum_down B (neg M)) (P && Q) (eq B (inf true) || eq M (inf false)) λ e. bounds_difference kept m g sound ranges (and_left P Q e) (and_right P Q e)
  where
    go : {z : ℤ} (x : Float) (q t : Bool) → (q ≡ true → Bounds downward 2148 z x) → Shape (cond q (cond t (inf true) x) (inf true))
    go x true true h = bottom_shape
    go x true false h = let D = h refl in record { fit = D.fit; no_nan = D.no_nan; not_top = D.no_other }
    go x false t h = bottom_shape

pub never_above : (kept : KeptRows) (m : Rows) (g : Ranges) → SoundRows m → SoundRanges m.variables g → NeverAbove kept m g
unfolding outward_gap difference
never_above kept m g sound ranges f =
    let P = all_below m.count (λ r. finite_parts (kept r)) in
    let Q = all_below m.variables (limited_at (cl kept m) (cu kept m) g) in
    let B = right_side kept m m.count in
    let M = largest (cl kept m) (cu kept m) g m.variables in
    let tests = passed (P && Q) (difference B M) f in
    let parts = and_left P Q tests.0 in
    let limits = and_right P Q tests.0 in
    let d = subst (λ (x : Float). T (finite x)) tests.1 f in
    let is = tests.1 ∙ failed (eq B (inf true) || eq M (inf false)) (sum_down B (neg M)) d in
    let D = bounds_difference kept m g sound ranges parts limits in
    (_, exact_gap_is kept m g sound ranges parts limits, rw is (D.bound (rw is at f)))
