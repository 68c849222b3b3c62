-- What of the sheet the certificate rests on: the rows, the slacks' bounds, who is in the basis, and the multipliers. Assumes nothing.
use Rattle.std.specs.Prelude.{Bool, List, ℕ, get_or, Float}
use Rattle.std.specs.Float.{nan}
use Rattle.doubles.specs.Compare.{absolute}
use Rattle.cdouble.specs.declared.CDouble.{CDouble}
use Rattle.questions.specs.Flags.{is_set}
use Rattle.questions.specs.Rows.{part, slack_of}
use Rattle.sheet.specs.declared.lent.Sheet.{Sheet as Slices}
use Rattle.sheet.specs.Sheet.{Sheet}
use Rattle.multipliers.specs.declared.weighing.Multiplier.{Multiplier}
use Rattle.multipliers.specs.Refinement.{error_bounds, rho_at}
use Rattle.multipliers.specs.Multipliers.{signed, weighed}

pub record System : Type 0 where
  pub structurals : ℕ
  -- whether there are error bounds, and whether the leaving variable leaves up
  pub estimated : Bool
  pub leaving_up : Bool
  pub starts : List ℕ
  pub columns : List ℕ
  pub entries : List Float
  pub right_sides : List Float
  pub mins : List Float
  pub maxs : List Float
  pub basic : List ℕ
  pub rho_hi : List Float
  pub rho_lo : List Float
  pub second : List Float

-- the one place where a system is made from what is lent
abbrev pub system : ℕ → Bool → Bool → List ℕ → List ℕ → List Float → List Float → List Float → List Float → List ℕ → List Float → List Float → List Float → System
system structurals estimated leaving_up starts columns entries right_sides mins maxs basic rho_hi rho_lo second =
    record {
      structurals = structurals;
      estimated = estimated;
      leaving_up = leaving_up;
      starts = starts;
      columns = columns;
      entries = entries;
      right_sides = right_sides;
      mins = mins;
      maxs = maxs;
      basic = basic;
      rho_hi = rho_hi;
      rho_lo = rho_lo;
      second = second;
    }

-- that of the lent slices
abbrev pub lent_system : Slices → Bool → System
lent_system s estimated =
    system s.structurals estimated (is_set s.leaving_up) s.starts.now s.columns.now s.entries.now s.right_sides.now s.mins.now s.maxs.now
    s.basic.now s.rho_hi.now s.rho_lo.now s.second.now

-- that of a sheet
abbrev pub system_of : Sheet → System
system_of s =
    system s.structurals (error_bounds s.checked s.rho_hi s.rho_lo s.second) (is_set s.leaving_up) s.starts s.columns s.entries
    s.right_sides s.mins s.maxs s.basic s.rho_hi s.rho_lo s.second

-- ---- a row's parts
abbrev pub row_columns : System → ℕ → List ℕ
row_columns m r = part m.starts r m.columns

abbrev pub row_entries : System → ℕ → List Float
row_entries m r = part m.starts r m.entries

abbrev pub right_side_at : System → ℕ → Float
right_side_at m r = get_or m.right_sides r nan

-- the error of its multiplier, where there are error bounds
abbrev pub error_at : System → ℕ → Float
error_at m r = absolute (get_or m.second r nan)

-- its multiplier, and what becomes of it
abbrev pub signed_at : System → ℕ → CDouble
signed_at m r = signed m.leaving_up (rho_at m.rho_hi m.rho_lo r)

abbrev pub multiplier_at : System → ℕ → Multiplier
multiplier_at m r =
    weighed m.estimated (error_at m r) (signed_at m r) (get_or m.mins (slack_of m.structurals r) nan) (get_or m.maxs (slack_of m.structurals r) nan)
