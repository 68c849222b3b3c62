-- Whether a text follows the sheet form: document 01, the first question. Assumes nothing.
use Rattle.std.specs.Prelude.{Bool, false, ◌&&◌, List, ℕ, Option, None, Some, leb, eqb, length}
use mir.Val.{bool_byte}
use Rattle.text_items.specs.Words.{most_bytes}
use Rattle.text_lines.specs.Heading.{heading}
use Rattle.sheet_text.specs.declared.Read.{Read}
use Rattle.sheet_text.specs.Parts.{rows_reached_in, multipliers_in, leave_in}

-- what a text says apart from its lists, and where its last line ends
unfoldable pub read_in : List ℕ → Read
read_in text =
    record {
      rows = (heading text).rows;
      structurals = (heading text).structurals;
      entries = (rows_reached_in text).count;
      feasibility = (heading text).feasibility;
      checked = bool_byte (multipliers_in text).value;
      leaving_row = (leave_in text).number;
      leaving_up = bool_byte (leave_in text).up;
      next = (leave_in text).next;
    }

-- the first question's answer from a text's length and the position after its last line, if there is one
abbrev pub form_met : ℕ → Option ℕ → Bool
form_met length None = false
form_met length (Some next) = leb length most_bytes && eqb next length

-- ---- 1. "Does the file follow the sheet form, in at most 65,536 bytes?": its last line ends where the text does
unfoldable pub follows_form : List ℕ → Bool
follows_form text = form_met (length text) (read_in text).next
