-- The bounds of an accepted sheet lie within its widened ranges, so a point within the bounds lies in these. Assumes nothing.
use mathlib.Core.Bool.{true, false}
use Rattle.sheet.specs.Sheet.{Sheet, Doubles, variables}
use Rattle.sheet.specs.Answers.{Accepted}
use Rattle.edges.specs.Edges.{leaving_variable}
use Rattle.edges.proofs.Laws.{edge-fits, edge_outer}
use Rattle.gaps.specs.Rows.{ranges_of}
use Rattle.gaps.specs.Points.{Point, Lies}
use Rattle.gaps.specs.Sameness.{Within}
use Rattle.gaps.proofs.Wider.{RangesFit, lies_in_wider}
use Rattle.promises.specs.Promises.{book_of}

module _ (s : Sheet) (accepted : Accepted s) (doubles : Doubles s) where
  pub bounds_within : Within (variables s) (book_of s).bounds (ranges_of s)
  bounds_within =
      record {
        low_not_lower = λ v less. edge_outer s accepted doubles (leaving_variable s) v less false;
        high_not_higher = λ v less. edge_outer s accepted doubles (leaving_variable s) v less true;
      }

  bounds_fit : RangesFit (variables s) (book_of s).bounds
  bounds_fit = record { low_fits = λ v less. doubles.mins_fit.fit_at v; high_fits = λ v less. doubles.maxs_fit.fit_at v }

  ranges_fit : RangesFit (variables s) (ranges_of s)
  ranges_fit =
      record {
        low_fits = λ v less. edge-fits s accepted doubles (leaving_variable s) v less false;
        high_fits = λ v less. edge-fits s accepted doubles (leaving_variable s) v less true;
      }

  pub lies_widened : (p : Point) → Lies (book_of s).bounds (variables s) p → Lies (ranges_of s) (variables s) p
  lies_widened = lies_in_wider (variables s) (book_of s).bounds (ranges_of s) bounds_fit ranges_fit bounds_within
