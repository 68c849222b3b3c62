-- The loop over the numbers of a norm. Assumes nothing.
use mathlib.Core.Path.{◌≡◌, refl, ap, ◌∙◌}
use Rattle.std.proofs.Common.{Option}
use Prim.Native.Nat.{ℕ, ◌+◌, ◌<◌}
use lib.Ieee.{Float}
use Rattle.loops.proofs.Turns.{Turn, next}
use Rattle.multipliers.specs.Refinement.{norm_with, finite_max_norm}

module _ (number : ℕ → Float) (n : ℕ) where
  abbrev Numbers : ℕ → Option Float → Type 0
  Numbers k norm = Turn (finite_max_norm number) n k norm

  pub next_number : {norm after : Option Float} {k : ℕ} {x : Float} → Numbers k norm → k < n → after ≡ norm_with norm x → x ≡ number k → Numbers (k + 1) after
  unfolding finite_max_norm
  next_number {norm} {k = k} turn less e f = next (λ (m : Option Float). norm_with m (number k)) turn less refl (e ∙ ap (norm_with norm) f)
