-- A text is read into lists that have room for the largest sheet. Here is the sheet that stands at their fronts. Assumes nothing.
use Rattle.std.specs.Prelude.{◌+◌, ◌≤◌, length, min, take}
use Rattle.questions.specs.Limits.{most_rows, most_structurals, most_entries, most_variables}
use Rattle.sheet.specs.Sheet.{Sheet, sheet, sizes_of}

-- lists with room for the largest sheet
pub record HasRoom (long : Sheet) : Type 0 where
  pub in_starts : most_rows + 1 ≤ length long.starts
  pub in_columns : most_entries ≤ length long.columns
  pub in_entries : most_entries ≤ length long.entries
  pub in_right_sides : most_rows ≤ length long.right_sides
  pub in_scales : most_rows ≤ length long.scales
  pub in_integer : most_structurals ≤ length long.integer
  pub in_mins : most_variables ≤ length long.mins
  pub in_maxs : most_variables ≤ length long.maxs
  pub in_low_tolerances : most_variables ≤ length long.low_tolerances
  pub in_high_tolerances : most_variables ≤ length long.high_tolerances
  pub in_basic : most_variables ≤ length long.basic
  pub in_places : most_variables ≤ length long.places
  pub in_values : most_variables ≤ length long.values
  pub in_rho_hi : most_rows ≤ length long.rho_hi
  pub in_rho_lo : most_rows ≤ length long.rho_lo
  pub in_second : most_rows ≤ length long.second

-- the sheet at their fronts, of its sizes, with all of its widened list: each list as long as these need, or as the limits allow if they are beyond
abbrev pub fronts : Sheet → Sheet
fronts long =
    let rows = min long.rows most_rows in
    let structurals = min long.structurals most_structurals in
    let entries = min long.entry_count most_entries in
    let count = structurals + rows in
    sheet (sizes_of long) long.feasibility long.checked long.leaving_row long.leaving_up long.outputs
    (take (rows + 1) long.starts) (take entries long.columns) (take entries long.entries) (take rows long.right_sides) (take rows long.scales)
    (take structurals long.integer) (take count long.mins) (take count long.maxs) (take count long.low_tolerances) (take count long.high_tolerances)
    (take count long.basic) (take count long.places) (take count long.values) long.widened (take rows long.rho_hi) (take rows long.rho_lo)
    (take rows long.second)
