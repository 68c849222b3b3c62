-- Points: document 01, "The words of the third demand". A double's exact value is a whole number of units of 2 ^ -1074. Assumes nothing.
use Rattle.std.specs.Prelude.{◌≡◌, true, false, ℕ, ◌^◌, ◌<◌, ℤ, pos, ◌*ℤ◌, ◌-ℤ◌, length, get_or, Float}
use Rattle.std.specs.Float.{nan, inf, fin}
use Rattle.exact.specs.Value.{exact}
use Rattle.exact.specs.Integers.{◌≺◌, Σ<}
use Rattle.gaps.specs.Rows.{Rows, Ranges}

-- "A point is a list of whole numbers over one positive denominator, one for each variable": those past the variables enter nowhere
pub record Point : Type 0 where
  pub numbers : ℕ → ℤ
  pub denominator : ℕ
  pub positive : 0 < denominator

-- z of some unit, in units 2 ^ 1074 times smaller: so a whole number compares with a double's exact value
unfoldable pub in_units : ℤ → ℤ
in_units z = z *ℤ pos (2 ^ 1074)

-- the number of the variable v is below this edge, or above it
unfoldable pub IsBelow : Point → ℕ → Float → Type 0
IsBelow p v nan = ⊥
IsBelow p v (inf true) = ⊥
IsBelow p v (inf false) = Unit {0}
IsBelow p v (fin s m e) = in_units (p.numbers v) ≺ exact (fin s m e) *ℤ pos p.denominator

unfoldable pub IsAbove : Point → ℕ → Float → Type 0
IsAbove p v nan = ⊥
IsAbove p v (inf true) = Unit {0}
IsAbove p v (inf false) = ⊥
IsAbove p v (fin s m e) = exact (fin s m e) *ℤ pos p.denominator ≺ in_units (p.numbers v)

-- "It lies in the widened ranges if no number is below its low edge or above its high edge"
pub record Lies (g : Ranges) (variables : ℕ) (p : Point) : Type 0 where
  pub not_below : (v : ℕ) → v < variables → IsBelow p v (g.low v) → ⊥
  pub not_above : (v : ℕ) → v < variables → IsAbove p v (g.high v) → ⊥

-- "the row's entries times its numbers", added up, in units over the denominator
unfoldable pub row_at : Rows → Point → ℕ → ℤ
row_at m p r = Σ< (length (m.columns r)) (λ k. exact (get_or (m.entries r) k nan) *ℤ p.numbers (get_or (m.columns r) k 0))

-- "It meets a row exactly if the row's entries times its numbers add up to the right side"
abbrev pub Meets : Rows → Point → ℕ → Type 0
Meets m p r = row_at m p r ≡ exact (m.right_sides r) *ℤ pos p.denominator

-- the amount by which it misses a row, in units over the denominator
unfoldable pub missed : Rows → Point → ℕ → ℤ
missed m p r = exact (m.right_sides r) *ℤ pos p.denominator -ℤ row_at m p r
