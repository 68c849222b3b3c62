-- What the branches on a flag show. Assumes nothing.
use mathlib.Core.Path.{◌≡◌, refl}
use mathlib.Core.Bool.{Bool, true, false, not, ◌||◌}
use Prim.Native.Nat.{ℕ}
use lib.Dec.{eqb}
use Rattle.questions.specs.Flags.{is_set}

pub or_set : (flag : ℕ) (b : Bool) → (eqb flag 0 || b) ≡ (not (is_set flag) || b)
or_set flag b = go (eqb flag 0)
  where
    go : (t : Bool) → (t || b) ≡ (not (not t) || b)
    go true = refl
    go false = refl
