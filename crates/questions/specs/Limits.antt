-- The limits of document 01's second question, in one place. Assumes nothing.
use Rattle.std.specs.Prelude.{ℕ, ◌+◌}

-- "1 to 128 rows"
abbrev pub most_rows : ℕ
most_rows = 128

-- "0 to 256 structural variables"
abbrev pub most_structurals : ℕ
most_structurals = 256

-- "at most 4,096 entries"
abbrev pub most_entries : ℕ
most_entries = 4096

-- all variables of the largest sheet: "Variables here include the slacks"
abbrev pub most_variables : ℕ
most_variables = most_structurals + most_rows
