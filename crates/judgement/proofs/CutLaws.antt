-- What document 01 promises of the cut: when it is 0. Assumes nothing.
use mathlib.Core.Path.{◌≡◌, refl, ap, sym, ◌∙◌}
use mathlib.Core.Bool.{Bool, false, ◌&&◌, and-false}
use Prim.Native.Nat.{ℕ, ◌<◌}
use borrow.Author.Tests.{lt-leb}
use lib.Dec.{leb}
use lib.Ieee.{Float}
use lib.Ieee.Scale.{finite}
use Rattle.cdouble.specs.Compensated.{plus_zero}
use Rattle.loops.proofs.Branches.{when_false}
use Rattle.edges.specs.Model.{Model}
use Rattle.judgement.specs.Cut.{cut_at}

-- ---- "cut is 0 unless the leaving variable is a slack and the gap finite"
module _ (m : Model) (leaving : ℕ) (end errorOfSums gap : Float) where
  pub cut_zero_structural : leaving < m.structurals → cut_at m leaving end errorOfSums gap ≡ plus_zero
  unfolding cut_at
  cut_zero_structural less = sym (when_false _ refl (ap (λ (b : Bool). b && finite gap) (lt-leb m.structurals leaving less)))

  pub cut_zero_not_finite : finite gap ≡ false → cut_at m leaving end errorOfSums gap ≡ plus_zero
  unfolding cut_at
  cut_zero_not_finite f =
      sym (when_false _ refl (ap (λ (b : Bool). leb m.structurals leaving && b) f ∙ and-false (leb m.structurals leaving)))
