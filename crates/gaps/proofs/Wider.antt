-- A point that lies in ranges lies in wider ones. Assumes nothing.
use mathlib.Core.Logic.{inl, inr}
use mathlib.Core.Bool.{true, false}
use Prim.Native.Nat.{ℕ, ◌<◌}
use lib.IntN.{ℤ}
use lib.Dec.{T}
use lib.Ieee.{Float, nan, inf, fin, binary64, fits, lt, le, eq}
use Rattle.exact.specs.Value.{exact}
use Rattle.exact.specs.Integers.{◌≼◌, ◌≺◌}
use Rattle.exact.proofs.Order.{≼_trans, ≺_not_≼, ≼_or_≺}
use Rattle.exact.proofs.Compare.{le-exact}
use Rattle.gaps.specs.Rows.{Ranges}
use Rattle.gaps.specs.Points.{Point, IsBelow, IsAbove, Lies}
use Rattle.gaps.specs.Sameness.{Within}
use Rattle.gaps.proofs.Sides.{scale_mono}

-- what is below a number is below a greater one, and above a smaller one
below_greater : {a b c : ℤ} → a ≺ b → b ≼ c → a ≺ c
below_greater {a} {c = c} less o = elim (≼_or_≺ c a) [ inl back ↦ absurd (≺_not_≼ less (≼_trans o back)) | inr here ↦ here ]

above_smaller : {a b c : ℤ} → b ≺ a → c ≼ b → c ≺ a
above_smaller {a} {c = c} less o = elim (≼_or_≺ a c) [ inl back ↦ absurd (≺_not_≼ less (≼_trans back o)) | inr here ↦ here ]

-- below the wider range's low edge is below the narrower one's …
below_narrower : (p : Point) (v : ℕ) (wide narrow : Float) → T (fits binary64 wide) → T (fits binary64 narrow) → T (le wide narrow) → IsBelow p v wide → IsBelow p v narrow
unfolding IsBelow lt le eq
below_narrower p v nan narrow f g o below = absurd below
below_narrower p v (inf true) narrow f g o below = absurd below
below_narrower p v (inf false) nan f g o below = absurd o
below_narrower p v (inf false) (inf true) f g o below = absurd o
below_narrower p v (inf false) (inf false) f g o below = tt
below_narrower p v (inf false) (fin s m e) f g o below = absurd o
below_narrower p v (fin s m e) nan f g o below = absurd o
below_narrower p v (fin s m e) (inf true) f g o below = absurd o
below_narrower p v (fin s m e) (inf false) f g o below = tt
below_narrower p v (fin s m e) (fin t n d) f g o below =
    below_greater below (scale_mono p.denominator (exact (fin s m e)) (exact (fin t n d)) ((le-exact (fin s m e) (fin t n d) tt tt f g).0 o))

-- … and above its high edge above the narrower one's
above_narrower : (p : Point) (v : ℕ) (wide narrow : Float) → T (fits binary64 wide) → T (fits binary64 narrow) → T (le narrow wide) → IsAbove p v wide → IsAbove p v narrow
unfolding IsAbove lt le eq
above_narrower p v nan narrow f g o above = absurd above
above_narrower p v (inf false) narrow f g o above = absurd above
above_narrower p v (inf true) nan f g o above = absurd o
above_narrower p v (inf true) (inf true) f g o above = tt
above_narrower p v (inf true) (inf false) f g o above = absurd o
above_narrower p v (inf true) (fin s m e) f g o above = absurd o
above_narrower p v (fin s m e) nan f g o above = absurd o
above_narrower p v (fin s m e) (inf true) f g o above = tt
above_narrower p v (fin s m e) (inf false) f g o above = absurd o
above_narrower p v (fin s m e) (fin t n d) f g o above =
    above_smaller above (scale_mono p.denominator (exact (fin t n d)) (exact (fin s m e)) ((le-exact (fin t n d) (fin s m e) tt tt g f).0 o))

-- ranges whose ends are doubles
pub record RangesFit (n : ℕ) (g : Ranges) : Type 0 where
  pub low_fits : (v : ℕ) → v < n → T (fits binary64 (g.low v))
  pub high_fits : (v : ℕ) → v < n → T (fits binary64 (g.high v))

pub lies_in_wider : (n : ℕ) (g h : Ranges) → RangesFit n g → RangesFit n h → Within n g h → (p : Point) → Lies g n p → Lies h n p
lies_in_wider n g h narrow wide within p lies =
    record {
      not_below =
          λ v less below.
          lies.not_below v less (below_narrower p v (h.low v) (g.low v) (wide.low_fits v less) (narrow.low_fits v less) (within.low_not_lower v less) below);
      not_above =
          λ v less above.
          lies.not_above v less (above_narrower p v (h.high v) (g.high v) (wide.high_fits v less) (narrow.high_fits v less) (within.high_not_higher v less) above);
    }
