-- The certificate, as a fold over the rows in ascending order and over each row's entries in stored order: document 01, "The certificate".
-- Assumes nothing.
use Rattle.std.specs.Prelude.{Bool, cond, List, ◌++◌, ℕ, zero, suc, length, replicate, drop, Float}
use Rattle.cdouble.specs.Compensated.{plus_zero}
use Rattle.certificate.specs.declared.adding.Sums.{Sums}
use Rattle.multipliers.specs.Multipliers.{spreads}
use Rattle.certificate.specs.System.{System, error_at, multiplier_at, right_side_at, row_columns, row_entries}
use Rattle.certificate.specs.Added.{kept_into, spread_into, no_sums, summed}
use Rattle.sheet.specs.Outputs.{Lists, lists}

-- ---- all of it
pub record Certificate : Type 0 where
  pub lists_of : Lists
  pub errors : List Float
  pub sums_of : Sums

abbrev pub certificate : Lists → List Float → Sums → Certificate
certificate l e c = record { lists_of = l; errors = e; sums_of = c }

-- one row more
unfoldable pub with_row : System → ℕ → Certificate → Certificate
with_row m r c =
    certificate
    (kept_into (multiplier_at m r) (row_columns m r) (row_entries m r) c.lists_of)
    (spread_into (spreads m.estimated (error_at m r) (multiplier_at m r)) m.basic (row_columns m r) (row_entries m r) c.errors)
    (summed (multiplier_at m r) (right_side_at m r) (length (row_columns m r)) c.sums_of)

-- the first n rows
unfoldable pub after_rows : System → ℕ → Certificate → Certificate
after_rows m zero c = c
after_rows m (suc n) c = with_row m n (after_rows m n c)

-- before any row, over count variables
abbrev pub empty : ℕ → Certificate
empty count =
    certificate (lists (replicate count plus_zero) (replicate count plus_zero) (replicate count plus_zero) (replicate count 0)) (replicate count plus_zero) no_sums

-- `certificate`, of so many rows over so many variables
unfoldable pub combined : System → ℕ → ℕ → Certificate
combined m rows count = after_rows m rows (empty count)

-- ---- the lent lists
-- one that is written for each of count variables: "places beyond stay"
abbrev pub over : {A : Type 0} → ℕ → List A → List A → List A
over count xs lent = xs ++ drop count lent

-- all four
abbrev pub lists_over : ℕ → Lists → Lists → Lists
lists_over count l lent =
    lists (over count l.high lent.high) (over count l.low lent.low) (over count l.magnitudes lent.magnitudes) (over count l.terms lent.terms)

-- "A verdict writes coefficients, magnitudes, term counts and, if present, errors for every variable; places beyond stay, and without error
-- bounds the errors slice stays"
unfoldable pub written : Bool → ℕ → Certificate → Lists → List Float → Certificate
written estimated count c l e =
    certificate
    (lists_over count c.lists_of l)
    (cond estimated (over count c.errors e) e) c.sums_of
