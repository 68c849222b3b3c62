-- `text_verdict` meets its contract. Assumes nothing.
use native.Mathlib.Omega.{arith}
use mathlib.Core.Path.{refl, ap}
use mathlib.Core.Bool.{not}
use Prim.Native.Nat.{ℕ, ◌+◌, ◌≤◌}
use lib.ListN.{length, replicate, length-replicate}
use lib.Ieee.{of_bits}
use Rattle.cdouble.specs.Compensated.{plus_zero}
use Rattle.questions.specs.Limits.{most_rows, most_structurals, most_entries, most_variables}
use Rattle.sheet_text.specs.Lent.{SheetLists}
use Rattle.weigh_text.proofs.Reading.{Room, lists_have_room, lists-verdict, text_full, text_refused}
use Rattle.weigh_text.proofs.text.text_verdict.Goals as goal

-- the lists before anything is read
abbrev room : SheetLists
room =
    record {
      variables = record {
        integer = replicate most_structurals 0;
        mins = replicate most_variables plus_zero;
        maxs = replicate most_variables plus_zero;
        low_tolerances = replicate most_variables plus_zero;
        high_tolerances = replicate most_variables plus_zero;
        basic = replicate most_variables 0;
        places = replicate most_variables 0;
        values = replicate most_variables plus_zero;
      };
      rows = record {
        right_sides = replicate most_rows plus_zero;
        scales = replicate most_rows plus_zero;
        starts = replicate (most_rows + 1) 0;
        columns = replicate most_entries 0;
        entries = replicate most_entries plus_zero;
      };
      rhos = record { rho_hi = replicate most_rows plus_zero; rho_lo = replicate most_rows plus_zero; second = replicate most_rows plus_zero };
    }

filled : {A : Type 0} (n : ℕ) (x : A) → n ≤ length (replicate n x)
filled n x = rw length-replicate (omega arith)

room-for-all : Room room
room-for-all =
    record {
      has_room = λ r.
          record {
            in_starts = filled {A = ℕ} (most_rows + 1) 0;
            in_columns = filled {A = ℕ} most_entries 0;
            in_entries = filled most_entries plus_zero;
            in_right_sides = filled most_rows plus_zero;
            in_scales = filled most_rows plus_zero;
            in_integer = filled {A = ℕ} most_structurals 0;
            in_mins = filled most_variables plus_zero;
            in_maxs = filled most_variables plus_zero;
            in_low_tolerances = filled most_variables plus_zero;
            in_high_tolerances = filled most_variables plus_zero;
            in_basic = filled {A = ℕ} most_variables 0;
            in_places = filled {A = ℕ} most_variables 0;
            in_values = filled most_variables plus_zero;
            in_rho_hi = filled most_rows plus_zero;
            in_rho_lo = filled most_rows plus_zero;
            in_second = filled most_rows plus_zero;
          };
      first_start = refl;
    }

pub returns-then-not-follows_form : goal.returns-then-not-follows_form
returns-then-not-follows_form c =
    text_refused c.args.text.now c.read_sheet-read.ensures.value c.follows_form.ensures (ap not c.if-not-follows_form.true)

pub verdict_in-requires : goal.verdict_in-requires
unfolding of_bits
verdict_in-requires c = lists_have_room c.args.text.now room c.read_sheet-read.ensures.value c.read_sheet-read.ensures.lists room-for-all

pub returns : goal.returns
unfolding of_bits
returns c =
    text_full c.args.text.now c.read_sheet-read.ensures.value c.follows_form.ensures (ap not c.if-not-follows_form.false)
    (lists-verdict c.args.text.now room c.read_sheet-read.ensures.value c.read_sheet-read.ensures.lists room-for-all c.read_sheet-read.ensures.marks_after
    c.verdict_in.ensures)
