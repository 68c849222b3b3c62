-- The sheet that the slices of the code's `Sheet` say, each under its own name, with a widened list. Assumes nothing.
use Rattle.std.specs.Prelude.{List}
use Rattle.questions.specs.declared.widened.Widened.{Widened}
use Rattle.sheet.specs.declared.outputs.Outputs.{Outputs}
use Rattle.sheet.specs.declared.lent.Sheet.{Sheet as Slices}
use Rattle.sheet.specs.Sheet.{Sheet, sheet, sizes}

abbrev pub lent_sheet : Slices → List Widened → Outputs → Sheet
lent_sheet s widened outputs =
    sheet (sizes s.rows s.structurals s.entry_count) s.feasibility s.checked s.leaving_row s.leaving_up outputs
    s.starts.now s.columns.now s.entries.now s.right_sides.now s.scales.now s.integer.now s.mins.now s.maxs.now s.low_tolerances.now s.high_tolerances.now
    s.basic.now s.places.now s.values.now widened s.rho_hi.now s.rho_lo.now s.second.now
