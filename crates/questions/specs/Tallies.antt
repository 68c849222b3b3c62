-- How the code answers the ninth question in one pass: it counts the variables at each place. Read by contracts of functions that the crate keeps
-- to itself. Assumes nothing.
use Rattle.std.specs.Prelude.{◌≡◌, Bool, cond, ◌&&◌, List, ℕ, zero, suc, ◌+◌, ◌^◌, ◌≤◌, ◌<◌, eqb, ltb, length, get_or, set}
use Rattle.questions.specs.Flags.{is_set}
use Rattle.questions.specs.Limits.{most_rows}

-- where a variable is counted: at the place p where the flag is set and p is a row's, else beyond the places of all rows
abbrev pub counted_place : ℕ → ℕ → ℕ → ℕ
counted_place rows flag p = cond (is_set flag && ltb p rows) p most_rows

-- one more there
abbrev pub counted : ℕ → ℕ → ℕ → List ℕ → List ℕ
counted rows flag p counts = set counts (counted_place rows flag p) (get_or counts (counted_place rows flag p) 0 + 1)

-- the counts with the first n variables counted
unfoldable pub tallied : ℕ → List ℕ → List ℕ → ℕ → List ℕ → List ℕ
tallied rows basic places zero counts = counts
tallied rows basic places (suc n) counts = counted rows (get_or basic n 0) (get_or places n 0) (tallied rows basic places n counts)

-- whether the count of a place is 1
abbrev pub one_at : List ℕ → ℕ → Bool
one_at counts p = eqb (get_or counts p 0) 1

-- there is a count of where the variable is counted, and one more fits it
pub record Countable (rows flag p : ℕ) (counts : List ℕ) : Type 0 where
  pub inside : counted_place rows flag p < length counts
  pub fits : get_or counts (counted_place rows flag p) 0 + 1 < 2 ^ 64

-- what is asked before anything is counted: there is a count for each row's place and one beyond all rows', and the counts are 0
pub record Tally (rows : ℕ) (basic places counts : List ℕ) : Type 0 where
  pub same : length places ≡ length basic
  pub few : rows ≤ most_rows
  pub room : most_rows < length counts
  pub zeros : (p : ℕ) → get_or counts p 0 ≡ 0
