-- An outward gap above 0 rules out every point. Assumes nothing.
use native.Mathlib.Omega.{arith}
use mathlib.Core.Path.{◌≡◌, refl, ap, ◌∙◌, subst}
use mathlib.Core.Bool.{true, false}
use Prim.Native.Nat.{ℕ, ◌^◌, ◌<◌}
use lib.Dec.{T}
use lib.Pow.{pow_pos}
use lib.IntN.{ℤ, pos, ◌*ℤ◌, ◌-ℤ◌, zero-*ℤ}
use lib.Ieee.{Float, nan, inf, fin, lt}
use lib.Ieee.Scale.{finite}
use Rattle.exact.specs.Value.{exact}
use Rattle.exact.specs.Integers.{◌≼◌, ◌≺◌, Σ<}
use Rattle.exact.proofs.Difference.{all, differences}
use Rattle.exact.proofs.Order.{≼_trans, ≺_not_≼}
use Rattle.exact.proofs.Compare.{lt_to}
use Rattle.exact.proofs.Sums.{Σ_ext, Σ-zero}
use Rattle.cdouble.specs.Compensated.{plus_zero}
use Rattle.gaps.specs.Rows.{Rows, Ranges, KeptRows}
use Rattle.gaps.specs.Steps.{outward_gap}
use Rattle.gaps.specs.Points.{Point, in_units, Meets, missed}
use Rattle.gaps.specs.ExactGap.{multiplier}
use Rattle.cdouble.proofs.RoundedUp.{exact-zero, zero-fits}
use Rattle.gaps.proofs.Sides.{scale_cancel}
use Rattle.gaps.proofs.NeverAbove.{Shape}
use Rattle.gaps.specs.ThirdDemand.{NeverAbove, MissesAtLeast, RulesOut}

-- what is not above 0 in parts is not above 0
not_positive : (d : ℕ) (z : ℤ) → 0 < d → z *ℤ pos d ≼ pos 0 → z ≼ pos 0
not_positive d z h o = scale_cancel d z (pos 0) h (rw (zero-*ℤ (pos d)) o)

-- a double above 0 is finite, unless it is +infinity
above_zero : (x : Float) → Shape x → T (lt plus_zero x) → T (finite x) × (pos 0 ≺ exact x)
unfolding lt
above_zero nan h t = absurd t
above_zero (inf true) h t = absurd t
above_zero (inf false) h t = absurd (h.not_top refl)
above_zero (fin s m e) h t = (tt, subst (λ (z : ℤ). z ≺ exact (fin s m e)) exact-zero (lt_to plus_zero (fin s m e) tt tt zero-fits h.fit t))

-- a point that meets a row misses it by nothing
less_itself : (a : ℤ) → a -ℤ a ≡ pos 0
less_itself = all _ λ a a'. simp differences (omega arith)

times_nought : (a : ℤ) → a *ℤ pos 0 ≡ pos 0
times_nought = all _ λ a a'. simp differences (omega arith)

module _ (kept : KeptRows) (m : Rows) (p : Point) (meets : (r : ℕ) → r < m.count → Meets m p r) where
  misses_none : (r : ℕ) → r < m.count → multiplier (kept r) *ℤ missed m p r ≡ pos 0
  unfolding missed
  misses_none r less =
      ap (λ (z : ℤ). multiplier (kept r) *ℤ (exact (m.right_sides r) *ℤ pos p.denominator -ℤ z)) (meets r less)
      ∙ ap (λ (z : ℤ). multiplier (kept r) *ℤ z) (less_itself (exact (m.right_sides r) *ℤ pos p.denominator))
      ∙ times_nought (multiplier (kept r))

  sum_none : in_units (Σ< m.count (λ r. multiplier (kept r) *ℤ missed m p r)) ≡ pos 0
  unfolding in_units
  sum_none = ap (λ (z : ℤ). z *ℤ pos (2 ^ 1074)) (Σ_ext m.count _ _ misses_none ∙ Σ-zero m.count) ∙ zero-*ℤ (pos (2 ^ 1074))

pub rules_out : (kept : KeptRows) (m : Rows) (g : Ranges) → Shape (outward_gap kept m g) → NeverAbove kept m g → MissesAtLeast kept m g
    → RulesOut kept m g
rules_out kept m g shape never_above misses above p lies meets =
    let x = outward_gap kept m g in
    let positive = above_zero x shape above in
    let exact-gap = never_above positive.0 in
    let z = exact-gap.0 in
    let at_most : z *ℤ pos p.denominator ≼ pos 0 = subst (λ (w : ℤ). z *ℤ pos p.denominator ≼ w) (sum_none kept m p meets) (misses z exact-gap.1 p lies) in
    ≺_not_≼ positive.1 (not_positive (2 ^ 2148) (exact x) (pow_pos 2148) (≼_trans exact-gap.2 (not_positive p.denominator z p.positive at_most)))
