-- `leaving_slack_cut`: document 01, "The judgement". Assumes nothing.
use Rattle.std.specs.Prelude.{cond, ◌&&◌, List, ℕ, ◌-◌, leb, get_or, Float}
use Rattle.std.specs.Float.{nan}
use Rattle.std.specs.Float.Ieee.Scale.{finite}
use Rattle.doubles.specs.Compare.{absolute, smaller}
use Rattle.cdouble.specs.Compensated.{◌⊕◌, ◌⊗◌, plus_zero}
use Rattle.tolerances.specs.Tolerances.{implied_slack_error, slack_margin, two, unit_roundoff}
use Rattle.edges.specs.Model.{Model}
use Rattle.edges.specs.Row.{Row}
use Rattle.edges.specs.Rooms.{row_of}
use Rattle.edges.specs.Activity.{row_activity, row_terms}

-- ---- `leaving_slack_cut`
-- of a slack of this value, whose row has this tolerance, magnitude and count of terms
unfoldable pub cut_of : Float → Float → ℕ → Float → Float → Float → Float → Float
cut_of tol magnitude terms slackValue end errorOfSums gap =
    let slack = smaller (absolute slackValue) (absolute end) in
    smaller (implied_slack_error slack magnitude terms ⊕ two ⊗ errorOfSums ⊕ unit_roundoff ⊗ absolute gap) (slack_margin tol magnitude terms)

-- of the slack of this row
unfoldable pub leaving_slack_cut : ℕ → Float → Row → List Float → Float → Float → Float → Float → Float
leaving_slack_cut structurals feasibility row values slackValue end errorOfSums gap =
    cut_of (feasibility ⊗ row.scale) (row_activity structurals row.right_side row.columns row.entries values).magnitude (row_terms row.columns)
    slackValue end errorOfSums gap

-- "cut is 0 unless the leaving variable is a slack and the gap finite; its edge is 0 if its coefficient was 0 or counted as zero"
unfoldable pub cut_at : Model → ℕ → Float → Float → Float → Float
cut_at m leaving end errorOfSums gap =
    cond (leb m.structurals leaving && finite gap)
    (leaving_slack_cut m.structurals m.feasibility (row_of m (leaving - m.structurals)) m.values (get_or m.values leaving nan) end errorOfSums gap)
    plus_zero
