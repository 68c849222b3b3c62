-- What is lent to be written: the certificate's lists and its errors; and the sheet lent with them. Assumes nothing.
use Rattle.std.specs.Prelude.{◌≡◌, List, ℕ, length, Float}
use Rattle.questions.specs.declared.widened.Widened.{Widened}
use Rattle.sheet.specs.declared.lent.Sheet.{Sheet as SheetSlices}
use Rattle.sheet.specs.declared.outputs.Outputs.{Outputs}
use Rattle.sheet.specs.declared.outputs.Lists.{Lists as Slices}
use Rattle.sheet.specs.Sheet.{Sheet}
use Rattle.sheet.specs.Lent.{lent_sheet}

-- per variable: its coefficient's two parts, the magnitude that was summed, and how many terms
pub record Lists : Type 0 where
  pub high : List Float
  pub low : List Float
  pub magnitudes : List Float
  pub terms : List ℕ

abbrev pub lists : List Float → List Float → List Float → List ℕ → Lists
lists high low magnitudes terms = record { high = high; low = low; magnitudes = magnitudes; terms = terms }

-- those of the code's `Lists`, each under its own name
abbrev pub lent_lists : Slices → Lists
lent_lists l = lists l.high.now l.low.now l.magnitudes.now l.terms.now

-- each list is lent by the same reference as before
pub record SameSlices (old new : Slices) : Type 0 where
  pub high_is : new.high.ghost_name ≡ old.high.ghost_name
  pub low_is : new.low.ghost_name ≡ old.low.ghost_name
  pub magnitudes_is : new.magnitudes.ghost_name ≡ old.magnitudes.ghost_name
  pub terms_is : new.terms.ghost_name ≡ old.terms.ghost_name

-- all that is lent to be written
pub record Lent : Type 0 where
  pub lists_of : Lists
  pub errors : List Float

abbrev pub lent : Lists → List Float → Lent
lent l e = record { lists_of = l; errors = e }

-- how many places each has
abbrev pub outputs : Lists → List Float → Outputs
outputs l e = record { high = length l.high; low = length l.low; magnitudes = length l.magnitudes; terms = length l.terms; errors = length e }

-- the sheet that the slices say, with a widened list and as many places for outputs as are lent
abbrev pub sheet_lent : SheetSlices → List Widened → Slices → List Float → Sheet
sheet_lent s widened l e = lent_sheet s widened (outputs (lent_lists l) e)
