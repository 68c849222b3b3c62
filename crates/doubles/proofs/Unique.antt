-- Two finite doubles of one value are the same double, but for the sign of a zero. Assumes nothing.
use mathlib.Core.Path.{◌≡◌, refl, sym, ap, ◌∙◌, subst}
use mathlib.Core.Bool.{Bool, true, false}
use Prim.Native.Nat.{ℕ, zero, suc, ◌<◌}
use native.Mathlib.Nat.{zero-lt-suc}
use native.Mathlib.Omega.{arith}
use lib.IntN.{ℤ, nat_abs}
use lib.Dec.{T}
use lib.Ieee.{Float, binary64, fits}
use lib.Ieee.Scale.{finite}
use Rattle.exact.specs.Value.{sign, signed, exact}
use Rattle.exact.specs.Integers.{◌≼◌}
use Rattle.exact.proofs.Order.{≼_refl}
use Rattle.exact.proofs.Signed.{signed_abs, signed_≼}
use Rattle.rank_arithmetic.specs.Rank.{at_rank, double}
use Rattle.doubles.specs.Directed.{with_zero}
use Rattle.rank_arithmetic.proofs.Grid.{at_rank-lt, rank_at_rank}
use Rattle.doubles.proofs.Zero.{zero_plus}
use Rattle.doubles.proofs.Patterns.{rank_of, pattern, ranked, finite_no_nan}

opposite : (s t : Bool) (v : ℕ) → 0 < v → signed s v ≡ signed t v → s ≡ t
opposite true true v h e = refl
opposite false false v h e = refl
opposite true false v h e = let z = (signed_≼ false v true v).0 (subst (λ (x : ℤ). x ≼ signed true v) e (≼_refl (signed true v))) in absurd (omega arith)
opposite false true v h e = let z = (signed_≼ false v true v).0 (subst (λ (x : ℤ). x ≼ signed true v) (sym e) (≼_refl (signed true v))) in absurd (omega arith)

by_rank : (s t : Bool) (p : ℕ) → signed s (at_rank 52 p) ≡ signed t (at_rank 52 p) → with_zero false (double s p) ≡ with_zero false (double t p)
by_rank s t zero e = zero_plus s ∙ sym (zero_plus t)
by_rank s t (suc p) e = ap (λ (r : Bool). with_zero false (double r (suc p))) (opposite s t (at_rank 52 (suc p)) (positive (at_rank 52 0) (at_rank 52 (suc p)) (at_rank-lt 52 0 (suc p) (zero-lt-suc p))) e)
  where
    positive : (a b : ℕ) → a < b → 0 < b
    positive a b h = omega arith

pub exact_unique : (x y : Float) → T (finite x) → T (fits binary64 x) → T (finite y) → T (fits binary64 y) → exact x ≡ exact y → with_zero false x ≡ with_zero false y
exact_unique x y f h g k e =
    let X = ranked x f h in
    let Y = ranked y g k in
    let w : signed (sign x) (at_rank 52 (rank_of x)) ≡ signed (sign y) (at_rank 52 (rank_of y)) = sym X.value ∙ e ∙ Y.value in
    let v : at_rank 52 (rank_of x) ≡ at_rank 52 (rank_of y) = sym (signed_abs (sign x) (at_rank 52 (rank_of x))) ∙ ap nat_abs w ∙ signed_abs (sign y) (at_rank 52 (rank_of y)) in
    let p : rank_of x ≡ rank_of y = sym (rank_at_rank 52 (rank_of x)) ∙ ap (Rattle.rank_arithmetic.specs.Rank.rank 52) v ∙ rank_at_rank 52 (rank_of y) in
    ap (with_zero false) ((pattern x (finite_no_nan x f) h).same ∙ ap (double (sign x)) p)
    ∙ by_rank (sign x) (sign y) (rank_of y) (ap (λ (n : ℕ). signed (sign x) n) (sym v) ∙ w)
    ∙ ap (with_zero false) (sym (pattern y (finite_no_nan y g) k).same)
