-- `refinement_error`: document 01, "The certificate". Assumes nothing.
use Rattle.std.specs.Prelude.{Bool, false, cond, ◌&&◌, List, ℕ, zero, suc, negsuc, length, get_or, Option, Some, None, Float}
use Rattle.std.specs.Float.{nan, fin}
use Rattle.std.specs.Float.Ieee.{le}
use Rattle.std.specs.Float.Ieee.Scale.{finite}
use Rattle.doubles.specs.Compare.{absolute, larger}
use Rattle.cdouble.specs.declared.CDouble.{CDouble}
use Rattle.cdouble.specs.Compensated.{◌⊗◌, pair, plus_zero, value}
use Rattle.questions.specs.Flags.{is_set}

-- one number more in `finite_max_norm`: "The largest magnitude of `values`; `None` if one is not finite"
abbrev pub norm_with : Option Float → Float → Option Float
norm_with None x = None
norm_with (Some norm) x = cond (finite x) (Some (larger norm (absolute x))) None

-- `finite_max_norm` of the first n numbers
unfoldable pub finite_max_norm : (ℕ → Float) → ℕ → Option Float
finite_max_norm number zero = Some plus_zero
finite_max_norm number (suc n) = norm_with (finite_max_norm number n) (number n)

-- `Multiplier::REFINEMENT_CONVERGED`, 2^-53
abbrev pub refinement_converged : Float
refinement_converged = fin false 1 (negsuc 52)

-- whether the second correction's norm is at most that much of the solution's, both finite
abbrev pub converges : Option Float → Option Float → Bool
converges None second = false
converges (Some x) None = false
converges (Some x) (Some second) = le second (refinement_converged ⊗ x)

-- a row's number in the basis inverse's row
abbrev pub rho_at : List Float → List Float → ℕ → CDouble
rho_at rho_hi rho_lo r = pair (get_or rho_hi r nan) (get_or rho_lo r nan)

-- whether `refinement_error` answers: what it answers for a row is then the magnitude of the row's second correction
unfoldable pub refined : List Float → List Float → List Float → Bool
refined rho_hi rho_lo second =
    converges (finite_max_norm (λ r. value (rho_at rho_hi rho_lo r)) (length rho_hi)) (finite_max_norm (λ r. get_or second r nan) (length second))

-- "When the sheet says checked, the errors are what `refinement_error` answers for rho and second correction; its None, or unchecked, means
-- no error bounds"
abbrev pub error_bounds : ℕ → List Float → List Float → List Float → Bool
error_bounds checked rho_hi rho_lo second = is_set checked && refined rho_hi rho_lo second
