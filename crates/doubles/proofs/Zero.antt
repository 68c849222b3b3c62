-- A zero taken with a sign: the value and all else stay. Assumes nothing.
use mathlib.Core.Path.{◌≡◌, refl, sym, ap, ◌∙◌}
use mathlib.Core.Logic.{inl, inr}
use mathlib.Core.Bool.{Bool, true, false, not}
use Prim.Native.Nat.{ℕ, zero, suc, ◌*◌, ◌/◌, ◌^◌, ◌≤◌, ◌<◌}
use native.Mathlib.Nat.{zero-mul, zero-div}
use native.Mathlib.Omega.{arith}
use lib.IntN.{ℤ, pos}
use lib.Ieee.{Float, nan, inf, fin, binary64, up, down, of_bits, fits, is_nan, neg}
use lib.Ieee.Scale.{finite}
use Rattle.exact.specs.Value.{sign, magnitude, signed, exact}
use Rattle.exact.proofs.Naturals.{le_or_lt}
use Rattle.exact.proofs.Values.{exact_is}
use Rattle.exact.proofs.Signed.{signed_zero}
use Rattle.rank_arithmetic.specs.Rank.{infinity, double}
use Rattle.rank_arithmetic.proofs.Grid.{at_rank-lt}
use Rattle.doubles.specs.Directed.{with_zero}
use Rattle.doubles.proofs.Patterns.{infinite_rank, magnitude_double}

-- a zero of either sign, taken as +0
pub zero_plus : (s : Bool) → with_zero false (double s 0) ≡ double false 0
unfolding of_bits
zero_plus true = refl
zero_plus false = refl

-- ---- what does not change
magnitude-zero : (s : Bool) (e : ℤ) → magnitude (fin s zero e) ≡ 0
unfolding magnitude
magnitude-zero s e = ap (λ (x : ℕ). x * 2 ^ 1074 / down e) (zero-mul (up e)) ∙ ap (λ (x : ℕ). x / down e) (zero-mul (2 ^ 1074)) ∙ zero-div (down e)

pub exact-with_zero : (s : Bool) (x : Float) → exact (with_zero s x) ≡ exact x
exact-with_zero s nan = refl
exact-with_zero s (inf t) = refl
exact-with_zero s (fin t zero e) = zero_is s ∙ sym (zero_is t)
  where
    zero_is : (r : Bool) → exact (fin r zero e) ≡ pos 0
    zero_is r = exact_is (fin r zero e) ∙ ap (signed r) (magnitude-zero r e) ∙ signed_zero r
exact-with_zero s (fin t (suc m) e) = refl

pub finite-with_zero : (s : Bool) (x : Float) → finite (with_zero s x) ≡ finite x
finite-with_zero s nan = refl
finite-with_zero s (inf t) = refl
finite-with_zero s (fin t zero e) = refl
finite-with_zero s (fin t (suc m) e) = refl

pub nan-with_zero : (s : Bool) (x : Float) → is_nan (with_zero s x) ≡ is_nan x
unfolding is_nan
nan-with_zero s nan = refl
nan-with_zero s (inf t) = refl
nan-with_zero s (fin t zero e) = refl
nan-with_zero s (fin t (suc m) e) = refl

pub fits-with_zero : (s : Bool) (x : Float) → fits binary64 (with_zero s x) ≡ fits binary64 x
unfolding fits
fits-with_zero s nan = refl
fits-with_zero s (inf t) = refl
fits-with_zero s (fin t zero e) = refl
fits-with_zero s (fin t (suc m) e) = refl

pub neg-with_zero : (s : Bool) (x : Float) → neg (with_zero s x) ≡ with_zero (not s) (neg x)
unfolding neg
neg-with_zero s nan = refl
neg-with_zero s (inf t) = refl
neg-with_zero s (fin t zero e) = refl
neg-with_zero s (fin t (suc m) e) = refl

pub with_zero_twice : (s t : Bool) (x : Float) → with_zero s (with_zero t x) ≡ with_zero s x
with_zero_twice s t nan = refl
with_zero_twice s t (inf u) = refl
with_zero_twice s t (fin u zero e) = refl
with_zero_twice s t (fin u (suc m) e) = refl

-- its own sign, or any where the double is no zero
pub with_zero_own : (s : Bool) (x : Float) → sign x ≡ s → with_zero s x ≡ x
with_zero_own s nan e = refl
with_zero_own s (inf t) e = refl
with_zero_own s (fin t zero d) e = ap (λ (r : Bool). fin r zero d) (sym e)
with_zero_own s (fin t (suc m) d) e = refl

with_zero_nonzero : (s : Bool) (x : Float) → 0 < magnitude x → with_zero s x ≡ x
with_zero_nonzero s nan h = refl
with_zero_nonzero s (inf t) h = refl
with_zero_nonzero s (fin t zero e) h = let z : ⊥ = omega (arith, magnitude-zero t e) in absurd z
with_zero_nonzero s (fin t (suc m) e) h = refl

-- so of a rank above 0
pub with_zero_rank : (s t : Bool) (r : ℕ) → 0 < r → r ≤ infinity → with_zero s (double t r) ≡ double t r
with_zero_rank s t r h k = elim (le_or_lt infinity r) [
  | inl l ↦ ap (with_zero s) (infinite_rank t r k l) ∙ sym (infinite_rank t r k l)
  | inr l ↦ with_zero_nonzero s (double t r) (positive l)
]
  where
    positive : r < infinity → 0 < magnitude (double t r)
    positive l = omega (arith, magnitude_double t r l, at_rank-lt 52 0 r h)

pub infinity-with_zero : (s t : Bool) (d : Float) → with_zero s d ≡ inf t → d ≡ inf t
infinity-with_zero s t nan e = e
infinity-with_zero s t (inf u) e = e
infinity-with_zero s t (fin u zero d) e = let z : ◌≡◌ {A = ℕ} 0 1 = cc in absurd (omega arith)
infinity-with_zero s t (fin u (suc m) d) e = e
