-- What the code asks of the lent slices for one row. On an accepted sheet it holds. Assumes nothing.
use Rattle.std.specs.Prelude.{◌≡◌, List, ℕ, ◌+◌, ◌≤◌, ◌<◌, ◌^◌, length, get_or, Float}
use Rattle.sheet.specs.Outputs.{Lists}

-- the lists have a place for each of count variables
pub record Long (count : ℕ) (l : Lists) : Type 0 where
  pub in_high : count ≤ length l.high
  pub in_low : count ≤ length l.low
  pub in_magnitudes : count ≤ length l.magnitudes
  pub in_terms : count ≤ length l.terms

-- one entry more of the variable v
pub record TermFits (v : ℕ) (l : Lists) : Type 0 where
  pub in_high : v < length l.high
  pub in_low : v < length l.low
  pub in_magnitudes : v < length l.magnitudes
  pub in_terms : v < length l.terms
  pub one_more : get_or l.terms v 0 + 1 < 2 ^ 32

-- a row's columns are variables
abbrev pub Within : ℕ → List ℕ → Type 0
Within count columns = (k : ℕ) → k < length columns → get_or columns k 0 < count

-- a row that goes into the lists
pub record RowFits (count : ℕ) (columns : List ℕ) (entries : List Float) (l : Lists) : Type 0 where
  pub same : length entries ≡ length columns
  pub within : Within count columns
  pub long : Long count l
  pub room : (v : ℕ) → v < count → get_or l.terms v 0 + length columns < 2 ^ 32

-- a row that goes into the errors
pub record ErrorsFit (count : ℕ) (columns : List ℕ) (entries errors : List Float) : Type 0 where
  pub same : length entries ≡ length columns
  pub within : Within count columns
  pub in_errors : count ≤ length errors
