-- `sheet_of_doubles` meets its contract. Assumes nothing.
use Rattle.sheet.proofs.lent_doubles.sheet_of_doubles.Goals as goal

pub returns : goal.returns
returns c =
    λ widened outputs. record {
      entries_fit = c.slice_of_doubles.ensures;
      right_sides_fit = c.slice_of_doubles-2.ensures;
      scales_fit = c.slice_of_doubles-3.ensures;
      mins_fit = c.slice_of_doubles-4.ensures;
      maxs_fit = c.slice_of_doubles-5.ensures;
      low_fit = c.slice_of_doubles-6.ensures;
      high_fit = c.slice_of_doubles-7.ensures;
      values_fit = c.slice_of_doubles-8.ensures;
      rho_hi_fit = c.slice_of_doubles-9.ensures;
      rho_lo_fit = c.slice_of_doubles-10.ensures;
      second_fit = c.slice_of_doubles-11.ensures;
      feasibility_fits = c.slice_of_doubles-12.ensures.fit_at 0;
    }
