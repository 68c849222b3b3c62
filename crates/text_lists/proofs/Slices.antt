-- The same references, over two calls. Assumes nothing.
use mathlib.Core.Path.{◌∙◌}
use Rattle.text_lists.specs.declared.lent.RowLists.{RowLists as RowSlices}
use Rattle.text_lists.specs.declared.lent.RhoLists.{RhoLists as RhoSlices}
use Rattle.text_lists.specs.Lent.{SameRows, SameRhos}

pub rows_then : {l k j : RowSlices} → SameRows l k → SameRows k j → SameRows l j
rows_then a b =
    record {
      right_sides_is = b.right_sides_is ∙ a.right_sides_is;
      scales_is = b.scales_is ∙ a.scales_is;
      starts_is = b.starts_is ∙ a.starts_is;
      columns_is = b.columns_is ∙ a.columns_is;
      entries_is = b.entries_is ∙ a.entries_is;
    }

pub rhos_then : {l k j : RhoSlices} → SameRhos l k → SameRhos k j → SameRhos l j
rhos_then a b = record { rho_hi_is = b.rho_hi_is ∙ a.rho_hi_is; rho_lo_is = b.rho_lo_is ∙ a.rho_lo_is; second_is = b.second_is ∙ a.second_is }
