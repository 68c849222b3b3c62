-- What the code asks of the lent slices. On an accepted sheet it holds. Assumes nothing.
use Rattle.std.specs.Prelude.{◌≡◌, List, ℕ, ◌+◌, ◌≤◌, ◌<◌, ◌^◌, length, get_or, Float}
use Rattle.multipliers.specs.declared.weighing.Multiplier.{Multiplier}
use Rattle.multipliers.specs.declared.weighing.Multiplier.TheVariants.{Dropped}
use Rattle.certificate.specs.System.{System, multiplier_at, row_columns}
use Rattle.sheet.specs.Outputs.{Lists}
use Rattle.certificate.specs.Certificate.{Certificate}
use Rattle.certificate.specs.AddedReads.{Long, Within}

-- the lists and the errors have a place for each of count variables
pub record Lent (count : ℕ) (l : Lists) (errors : List Float) : Type 0 where
  pub long : Long count l
  pub in_errors : count ≤ length errors

-- the lent list has the multiplier of each of so many rows
pub record Weighed (m : System) (rows : ℕ) (list : List Multiplier) : Type 0 where
  pub long : rows ≤ length list
  pub at : (r : ℕ) → r < rows → get_or list r Dropped ≡ multiplier_at m r

-- what is read of the row r over count variables
pub record RowReadable (m : System) (r count : ℕ) : Type 0 where
  pub in_starts : r + 1 < length m.starts
  pub rises : get_or m.starts r 0 ≤ get_or m.starts (r + 1) 0
  pub inside : get_or m.starts (r + 1) 0 ≤ length m.columns
  pub same : length m.entries ≡ length m.columns
  pub within : Within count (row_columns m r)
  pub in_right_sides : r < length m.right_sides
  pub in_basic : count ≤ length m.basic
  pub in_second : r < length m.second

-- the counts after r rows, which have so many entries
pub record Counted (m : System) (r count : ℕ) (c : Certificate) : Type 0 where
  pub few : (v : ℕ) → v < count → get_or c.lists_of.terms v 0 ≤ get_or m.starts r 0
  pub terms_few : c.sums_of.terms ≤ r + get_or m.starts r 0
  pub rows_few : c.sums_of.rows ≤ r
  pub zeroed_few : c.sums_of.zeroed ≤ r

-- the row r is next
pub record RowGoesOn (m : System) (r count : ℕ) (c : Certificate) : Type 0 where
  pub readable : RowReadable m r count
  pub lent : Lent count c.lists_of c.errors
  pub counted : Counted m r count c
  pub small : r + length m.columns + 1 < 2 ^ 32

-- so many rows, all counts 0
pub record RowsGoOn (m : System) (rows count : ℕ) (l : Lists) (errors : List Float) : Type 0 where
  pub readable : (r : ℕ) → r < rows → RowReadable m r count
  pub lent : Lent count l errors
  pub none : (v : ℕ) → v < count → get_or l.terms v 0 ≡ 0
  pub small : rows + length m.columns < 2 ^ 32

-- so many rows, in whatever is lent
pub record CertificateFits (m : System) (rows count : ℕ) (l : Lists) (errors : List Float) : Type 0 where
  pub readable : (r : ℕ) → r < rows → RowReadable m r count
  pub lent : Lent count l errors
  pub small : rows + length m.columns < 2 ^ 32
