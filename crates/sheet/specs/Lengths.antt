-- Document 01, "Questions put to the input", the third. Assumes nothing.
use Rattle.std.specs.Prelude.{Bool, ◌&&◌, List, ℕ, ◌+◌, leb, eqb, length, Float}
use Rattle.sheet.specs.declared.outputs.Outputs.{Outputs}
use Rattle.sheet.specs.Sheet.{Sheet, Sizes, sizes_of}

-- ---- 3. "Does each slice have the length these need, …, second corrections … also when unchecked", those that go by rows and entries
unfoldable pub rows_fit : ℕ → ℕ → List ℕ → List ℕ → List Float → List Float → List Float → List Float → List Float → List Float → Bool
rows_fit rows entry_count starts columns entries right_sides scales rho_hi rho_lo second =
    eqb (length starts) (rows + 1)
    && eqb (length columns) entry_count
    && eqb (length entries) entry_count
    && eqb (length right_sides) rows
    && eqb (length scales) rows
    && eqb (length rho_hi) rows
    && eqb (length rho_lo) rows
    && eqb (length second) rows

-- those that go by variables
unfoldable pub variables_fit : ℕ → List Float → List Float → List Float → List Float → List ℕ → List ℕ → List Float → Bool
variables_fit count mins maxs low_tolerances high_tolerances basic places values =
    eqb (length mins) count
    && eqb (length maxs) count
    && eqb (length low_tolerances) count
    && eqb (length high_tolerances) count
    && eqb (length basic) count
    && eqb (length places) count
    && eqb (length values) count

-- "outputs at least (… errors also when unchecked)"
unfoldable pub outputs_fit : ℕ → Outputs → Bool
outputs_fit count outputs =
    leb count outputs.high
    && leb count outputs.low
    && leb count outputs.magnitudes
    && leb count outputs.terms
    && leb count outputs.errors

-- all slices
unfoldable pub lengths_fit :
    Sizes → Outputs → List ℕ → List ℕ → List Float → List Float → List Float → List ℕ → List Float → List Float → List Float → List Float
    → List ℕ → List ℕ → List Float → List Float → List Float → List Float → Bool
lengths_fit sizes outputs starts columns entries right_sides scales integer mins maxs low_tolerances high_tolerances basic places values rho_hi rho_lo second =
    let count = sizes.structurals + sizes.rows in
    rows_fit sizes.rows sizes.entries starts columns entries right_sides scales rho_hi rho_lo second
    && variables_fit count mins maxs low_tolerances high_tolerances basic places values
    && eqb (length integer) sizes.structurals
    && outputs_fit count outputs

-- of a sheet
abbrev pub lengths_fine : Sheet → Bool
lengths_fine s =
    lengths_fit (sizes_of s) s.outputs s.starts s.columns s.entries s.right_sides s.scales s.integer s.mins s.maxs
    s.low_tolerances s.high_tolerances s.basic s.places s.values s.rho_hi s.rho_lo s.second
