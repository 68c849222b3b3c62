-- The outward gap: document 01, "The outward gap (added)", its five steps. Assumes nothing.
use Rattle.std.specs.Prelude.{Bool, true, false, cond, not, ◌&&◌, ◌||◌, List, ℕ, zero, suc, eqb, length, get_or, Float}
use Rattle.std.specs.Float.{nan, inf}
use Rattle.std.specs.Float.Ieee.{lt, eq, neg}
use Rattle.std.specs.Float.Ieee.Scale.{finite}
use Rattle.doubles.specs.Compare.{larger}
use Rattle.doubles.specs.Directed.{sum_up, sum_down, product_up, product_down}
use Rattle.cdouble.specs.declared.CDouble.{CDouble}
use Rattle.cdouble.specs.Compensated.{plus_zero}
use Rattle.loops.specs.Places.{all_below}
use Rattle.multipliers.specs.declared.weighing.Multiplier.{Multiplier}
use Rattle.multipliers.specs.declared.weighing.Multiplier.TheVariants.{Zeroed, Dropped, Kept}
use Rattle.sheet.specs.Sheet.{Sheet}
use Rattle.gaps.specs.Rows.{Rows, Ranges, KeptRows, finite_parts, rows_of, ranges_of, kept_of}

-- ---- 2. "add hi times entry, then lo times entry", with the sum and the product of one side
abbrev pub Operation : Type 0
Operation = Float → Float → Float

abbrev pub add_scaled : Operation → Operation → CDouble → Float → Float → Float
add_scaled sum product y a c = sum (sum c (product y.hi a)) (product y.lo a)

-- the first n entries of a kept row, those in the variable v
unfoldable pub after_entries : Operation → Operation → CDouble → List ℕ → List Float → ℕ → ℕ → Float → Float
after_entries sum product y columns entries v zero c = c
after_entries sum product y columns entries v (suc n) c =
    cond (eqb (get_or columns n 0) v) (add_scaled sum product y (get_or entries n nan) (after_entries sum product y columns entries v n c)) (after_entries sum product y columns entries v n c)

-- a row by its place in the set
unfoldable pub with_row : Operation → Operation → Multiplier → List ℕ → List Float → ℕ → Float → Float
with_row sum product (Zeroed y) columns entries v c = c
with_row sum product Dropped columns entries v c = c
with_row sum product (Kept y) columns entries v c = after_entries sum product y columns entries v (length columns) c

-- "For each variable, cl and cu start at 0. For each kept row, ascending, containing it: add …": after the first n rows
unfoldable pub coefficient_after : Operation → Operation → KeptRows → Rows → ℕ → ℕ → Float
coefficient_after sum product kept m v zero = plus_zero
coefficient_after sum product kept m v (suc n) =
    with_row sum product (kept n) (m.columns n) (m.entries n) v (coefficient_after sum product kept m v n)

-- "product and sum rounded down for cl, …
abbrev pub cl : KeptRows → Rows → ℕ → Float
cl kept m v = coefficient_after sum_down product_down kept m v m.count

-- … up for cu"
abbrev pub cu : KeptRows → Rows → ℕ → Float
cu kept m v = coefficient_after sum_up product_up kept m v m.count

-- ---- 3. "cl = cu = 0: skipped"
abbrev pub skipped : Float → Float → Bool
skipped l u = eq l plus_zero && eq u plus_zero

-- "cu > 0 with high edge +infinity, or cl < 0 with low edge −infinity"
abbrev pub unlimited : Float → Float → Float → Float → Bool
unlimited l u low high = (lt plus_zero u && eq high (inf false)) || (lt l plus_zero && eq low (inf true))

-- neither an infinite end (2) nor an unlimited variable (3), either of which gives −infinity
unfoldable pub limited : Float → Float → Float → Float → Bool
limited l u low high = finite l && finite u && (skipped l u || not (unlimited l u low high))

-- of the variable v, whose coefficient lies from lower v to upper v
abbrev pub limited_at : (ℕ → Float) → (ℕ → Float) → Ranges → ℕ → Bool
limited_at lower upper g v = limited (lower v) (upper v) (g.low v) (g.high v)

-- ---- 4. "its term is the largest of cl, cu times the finite edges, products rounded up"
abbrev pub at_edge : Float → Float → Float → Float
at_edge l u edge = larger (product_up l edge) (product_up u edge)

unfoldable pub term : Float → Float → Float → Float → Float
term l u low high =
    cond (finite low) (cond (finite high) (larger (at_edge l u low) (at_edge l u high)) (at_edge l u low)) (at_edge l u high)

-- one variable more
unfoldable pub with_term : Float → Float → Float → Float → Float → Float
with_term l u low high sum = cond (skipped l u) sum (sum_up sum (term l u low high))

-- "M adds the terms from 0 in variable order, rounded up": of the first n variables
unfoldable pub largest : (ℕ → Float) → (ℕ → Float) → Ranges → ℕ → Float
largest lower upper g zero = plus_zero
largest lower upper g (suc n) = with_term (lower n) (upper n) (g.low n) (g.high n) (largest lower upper g n)

-- ---- 5. "B adds hi, then lo, times right side of kept rows, rounded down": a row by its place in the set
unfoldable pub with_right_side : Multiplier → Float → Float → Float
with_right_side (Zeroed y) b sum = sum
with_right_side Dropped b sum = sum
with_right_side (Kept y) b sum = add_scaled sum_down product_down y b sum

-- of the first n rows
unfoldable pub right_side : KeptRows → Rows → ℕ → Float
right_side kept m zero = plus_zero
right_side kept m (suc n) = with_right_side (kept n) (m.right_sides n) (right_side kept m n)

-- "The gap is B − M rounded down; −infinity if B is −infinity or M +infinity"
unfoldable pub difference : Float → Float → Float
difference b m = cond (eq b (inf true) || eq m (inf false)) (inf true) (sum_down b (neg m))

-- ---- 1. "A kept y with a part not finite: −infinity", and the −infinities of 2 and 3
unfoldable pub outward_gap : KeptRows → Rows → Ranges → Float
outward_gap kept m g =
    cond (all_below m.count (λ r. finite_parts (kept r)) && all_below m.variables (limited_at (cl kept m) (cu kept m) g))
    (difference (right_side kept m m.count) (largest (cl kept m) (cu kept m) g m.variables))
    (inf true)

-- that of a sheet
unfoldable pub outward_of : Sheet → Float
outward_of s = outward_gap (kept_of s) (rows_of s) (ranges_of s)
