-- A product that compares equal to 0 has finite factors, and where one of these is 0 it is exactly 0. Assumes nothing.
use mathlib.Core.Path.{◌≡◌, sym, ap, ◌∙◌}
use mathlib.Core.Logic.{inl, inr}
use mathlib.Core.Bool.{Bool, true, false, cond, ◌&&◌, ◌||◌}
use Prim.Native.Nat.{◌^◌}
use lib.IntN.{ℤ, pos, ◌*ℤ◌, *ℤ-zero, zero-*ℤ}
use lib.Dec.{T, eqb}
use lib.Ieee.{Float, nan, inf, fin, binary64, unlike, fits, mul, eq}
use lib.Ieee.Fits.{and_l, and_r}
use lib.Ieee.Scale.{finite}
use mir.Facts.{or_yes}
use Rattle.exact.specs.Value.{exact, exact_at}
use Rattle.exact.proofs.Compare.{eq_exact}
use Rattle.doubles.proofs.Ends.{product_same}
use Rattle.cdouble.specs.Compensated.{◌⊗◌, plus_zero, mul_up}
use Rattle.cdouble.proofs.RoundedUp.{exact-zero, zero-fits}

no_zero : (q s : Bool) → T (eq (cond q nan (inf s)) plus_zero) → ⊥
unfolding eq
no_zero true s h = absurd h
no_zero false s h = absurd h

finite_factors : (a b : Float) → T (eq (a ⊗ b) plus_zero) → T (finite a) × T (finite b)
unfolding eq mul
finite_factors nan b h = absurd h
finite_factors (inf s) nan h = absurd h
finite_factors (inf s) (inf t) h = absurd h
finite_factors (inf s) (fin t n d) h = absurd (no_zero (eqb n 0) (unlike s t) h)
finite_factors (fin s m e) nan h = absurd h
finite_factors (fin s m e) (inf t) h = absurd (no_zero (eqb m 0) (unlike s t) h)
finite_factors (fin s m e) (fin t n d) h = (tt, tt)

-- the tests of `mul_up`
pub zero_factor : (a b : Float) → T (fits binary64 a) → T (fits binary64 b) → T ((eq a plus_zero || eq b plus_zero) && eq (a ⊗ b) plus_zero) → plus_zero ≡ mul_up a b
unfolding mul_up
zero_factor a b ha hb h = sym (product_same a b f.0 f.1 plus_zero tt zero-fits (none ∙ sym at_zero)).0
  where
    at_zero : exact_at 1074 plus_zero ≡ pos 0
    at_zero = ap (λ (z : ℤ). z *ℤ pos (2 ^ 1074)) exact-zero ∙ zero-*ℤ (pos (2 ^ 1074))

    f : T (finite a) × T (finite b)
    f = finite_factors a b (and_r (eq a plus_zero || eq b plus_zero) (eq (a ⊗ b) plus_zero) h)

    none : exact a *ℤ exact b ≡ pos 0
    none = elim (or_yes (eq a plus_zero) (eq b plus_zero) (and_l (eq a plus_zero || eq b plus_zero) (eq (a ⊗ b) plus_zero) h)) [
      | inl t ↦ ap (λ (z : ℤ). z *ℤ exact b) ((eq_exact a plus_zero f.0 tt ha zero-fits).0 t ∙ exact-zero) ∙ zero-*ℤ (exact b)
      | inr t ↦ ap (λ (z : ℤ). exact a *ℤ z) ((eq_exact b plus_zero f.1 tt hb zero-fits).0 t ∙ exact-zero) ∙ *ℤ-zero (exact a)
    ]
