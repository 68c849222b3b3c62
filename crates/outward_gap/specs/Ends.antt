-- The lists that hold the lower and the upper end of each coefficient, over a window of variables: the place k is that of the variable first + k.
-- Assumes nothing.
use Rattle.std.specs.Prelude.{cond, List, ℕ, ◌+◌, ◌-◌, leb, get_or, set, Float}
use Rattle.std.specs.Float.{nan}
use Rattle.cdouble.specs.declared.CDouble.{CDouble}
use Rattle.loops.specs.Listed.{listed, each_place}
use Rattle.multipliers.specs.declared.weighing.Multiplier.{Multiplier}
use Rattle.gaps.specs.Rows.{Rows, KeptRows}
use Rattle.gaps.specs.Steps.{Operation, add_scaled, after_entries, with_row, coefficient_after}

-- one entry more of a kept row, a of the variable v, where the window has it
abbrev pub added : Operation → Operation → ℕ → CDouble → ℕ → Float → List Float → List Float
added sum product first y v a ends = cond (leb first v) (set ends (v - first) (add_scaled sum product y a (get_or ends (v - first) nan))) ends

-- a kept row's first n entries
abbrev pub with_entries : Operation → Operation → ℕ → CDouble → List ℕ → List Float → ℕ → List Float → List Float
with_entries sum product first y columns entries n ends = each_place (λ k. after_entries sum product y columns entries (first + k) n) ends

-- a row by its place in the set
abbrev pub with_rows_entries : Operation → Operation → ℕ → Multiplier → List ℕ → List Float → List Float → List Float
with_rows_entries sum product first m columns entries ends = each_place (λ k. with_row sum product m columns entries (first + k)) ends

-- one end of the coefficient of each of so many variables from the first on, after the first n rows
abbrev pub ends_of : Operation → Operation → KeptRows → Rows → ℕ → ℕ → ℕ → List Float
ends_of sum product kept m first width n = listed width (λ k. coefficient_after sum product kept m (first + k) n)
