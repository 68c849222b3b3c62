-- Each list lent by the same reference, over two calls. Assumes nothing.
use mathlib.Core.Path.{◌∙◌}
use Rattle.sheet.specs.declared.outputs.Lists.{Lists as Slices}
use Rattle.sheet.specs.Outputs.{SameSlices}

pub same-then : {l k j : Slices} → SameSlices l k → SameSlices k j → SameSlices l j
same-then a b =
    record {
      high_is = b.high_is ∙ a.high_is;
      low_is = b.low_is ∙ a.low_is;
      magnitudes_is = b.magnitudes_is ∙ a.magnitudes_is;
      terms_is = b.terms_is ∙ a.terms_is;
    }
