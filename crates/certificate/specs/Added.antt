-- What one row adds to the certificate, by what becomes of its multiplier, entry by entry in stored order: document 01, "The certificate".
-- Assumes nothing.
use Rattle.std.specs.Prelude.{cond, List, ℕ, zero, suc, ◌+◌, length, get_or, set, Option, Some, None, Float}
use Rattle.std.specs.Float.{nan}
use Rattle.std.specs.Float.Ieee.{eq}
use Rattle.doubles.specs.Compare.{absolute}
use Rattle.cdouble.specs.declared.CDouble.{CDouble}
use Rattle.cdouble.specs.Compensated.{◌⊕◌, ◌⊗◌, pair, plus_scaled, plus_zero, value}
use Rattle.questions.specs.Flags.{is_set}
use Rattle.sheet.specs.Outputs.{Lists, lists}
use Rattle.multipliers.specs.declared.weighing.Multiplier.{Multiplier}
use Rattle.multipliers.specs.declared.weighing.Multiplier.TheVariants.{Zeroed, Dropped, Kept}
use Rattle.certificate.specs.declared.adding.Sums.{Sums}

-- ---- per variable: its coefficient's two parts, the magnitude that was summed, and how many terms
-- its coefficient
abbrev pub pair_at : List Float → List Float → ℕ → CDouble
pair_at high low v = pair (get_or high v nan) (get_or low v nan)

-- one entry more of a kept row, a of the variable v
abbrev pub with_term : CDouble → ℕ → Float → Lists → Lists
with_term y v a c =
    lists
    (set c.high v (plus_scaled (pair_at c.high c.low v) y a).hi)
    (set c.low v (plus_scaled (pair_at c.high c.low v) y a).lo)
    (set c.magnitudes v (get_or c.magnitudes v nan ⊕ absolute (value y ⊗ a)))
    (set c.terms v (get_or c.terms v 0 + 1))

-- the first n entries of a kept row
unfoldable pub after_terms : CDouble → List ℕ → List Float → ℕ → Lists → Lists
after_terms y columns entries zero c = c
after_terms y columns entries (suc n) c = with_term y (get_or columns n 0) (get_or entries n nan) (after_terms y columns entries n c)

-- a row, by what becomes of its multiplier
unfoldable pub kept_into : Multiplier → List ℕ → List Float → Lists → Lists
kept_into (Zeroed y) columns entries c = c
kept_into Dropped columns entries c = c
kept_into (Kept y) columns entries c = after_terms y columns entries (length columns) c

-- ---- per variable: how far the multipliers' errors may carry its coefficient
-- one entry more: "the variables in basis … get …"
abbrev pub with_error : Float → List ℕ → ℕ → Float → List Float → List Float
with_error distance basic v a errors =
    cond (is_set (get_or basic v 0)) (set errors v (get_or errors v nan ⊕ distance ⊗ absolute a)) errors

-- the first n entries of a row
unfoldable pub after_errors : Float → List ℕ → List ℕ → List Float → ℕ → List Float → List Float
after_errors distance basic columns entries zero errors = errors
after_errors distance basic columns entries (suc n) errors =
    with_error distance basic (get_or columns n 0) (get_or entries n nan) (after_errors distance basic columns entries n errors)

-- a row, by what it spreads
unfoldable pub spread_into : Option Float → List ℕ → List ℕ → List Float → List Float → List Float
spread_into None basic columns entries errors = errors
spread_into (Some distance) basic columns entries errors = after_errors distance basic columns entries (length columns) errors

-- ---- the sums over all rows
abbrev pub sums : CDouble → Float → ℕ → ℕ → ℕ → Sums
sums beta magnitude terms rows zeroed = record { beta = beta; magnitude = magnitude; terms = terms; rows = rows; zeroed = zeroed }

-- none yet
abbrev pub no_sums : Sums
no_sums = sums (pair plus_zero plus_zero) plus_zero 0 0 0

-- a row with this right side and n entries: a term for the right side and one for each entry
unfoldable pub summed : Multiplier → Float → ℕ → Sums → Sums
summed (Zeroed y) right_side n c =
    sums c.beta c.magnitude c.terms c.rows (cond (eq (value y) plus_zero) c.zeroed (c.zeroed + 1))
summed Dropped right_side n c = c
summed (Kept y) right_side n c =
    sums (plus_scaled c.beta y right_side) (c.magnitude ⊕ absolute (value y ⊗ right_side)) (c.terms + 1 + n) (c.rows + 1) c.zeroed
