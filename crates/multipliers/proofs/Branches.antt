-- What the branches of the functions over norms show, from what their calls gave. Assumes nothing.
use mathlib.Core.Path.{◌≡◌, ap, sym, ◌∙◌}
use mathlib.Core.Bool.{Bool, false, ◌&&◌}
use mathlib.Core.List.{List}
use Prim.Native.Nat.{ℕ}
use lib.ListN.{length, get_or}
use lib.Ieee.{Float, nan}
use Rattle.cdouble.specs.Compensated.{value}
use Rattle.questions.proofs.Tests.{flag_set, flag_clear}
use Rattle.std.proofs.Common.{Option}
use Rattle.multipliers.specs.Refinement.{error_bounds, finite_max_norm, converges, rho_at, refined}

-- ---- `error_bounds`
module _ (checked : ℕ) (rho_hi rho_lo second : List Float) where
  pub bounds_unchecked : checked ≡ 0 → false ≡ error_bounds checked rho_hi rho_lo second
  bounds_unchecked e = ap (λ (b : Bool). b && refined rho_hi rho_lo second) (sym (flag_clear checked e))

  pub bounds_checked : {x s : Option Float} {r : Bool} → (checked ≡ 0 → ⊥)
      → x ≡ finite_max_norm (λ k. value (rho_at rho_hi rho_lo k)) (length rho_hi)
      → s ≡ finite_max_norm (λ k. get_or second k nan) (length second)
      → r ≡ converges x s
      → r ≡ error_bounds checked rho_hi rho_lo second
  unfolding refined
  bounds_checked {s = s} differs e f g =
      g
      ∙ ap (λ (n : Option Float). converges n s) e
      ∙ ap (converges (finite_max_norm (λ k. value (rho_at rho_hi rho_lo k)) (length rho_hi))) f
      ∙ ap (λ (b : Bool). b && refined rho_hi rho_lo second) (sym (flag_set checked differs))
