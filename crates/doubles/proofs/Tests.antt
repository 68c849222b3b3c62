-- What the code's tests and bit operations say of a double. Assumes nothing.
use mathlib.Core.Path.{◌≡◌, refl, sym, ap, ◌∙◌, subst}
use mathlib.Core.Bool.{Bool, true, false, not, true≢false}
use Prim.Native.Nat.{ℕ, zero, suc, ◌%◌, ◌^◌, ◌≤◌}
use lib.Dec.{T, ltb, lt→ltb}
use lib.Ieee.{Float, nan, inf, fin, binary64, fits, is_nan, ne, to_bits}
use lib.Ieee.Bits.{is_true}
use lib.Ieee.Compare.{nan_differs, differs_from_itself}
use lib.Ieee.Scale.{finite}
use Rattle.exact.specs.Value.{sign, magnitude}
use Rattle.rank_arithmetic.specs.Rank.{infinity, double}
use Rattle.doubles.specs.Compare.{absolute}
use Rattle.doubles.proofs.Patterns.{rank_of, pattern, rank_of_mod, ranked, double_infinity}

-- a double that differs from itself is the NaN, and any other is none
pub is_nan_lem : (x : Float) → ne x x ≡ true → x ≡ nan
is_nan_lem x e = differs_from_itself x (subst T (sym e) tt)

pub not_nan : (x : Float) → ne x x ≡ false → T (not (is_nan x))
unfolding is_nan
not_nan nan e = absurd (true≢false (sym nan_differs ∙ e))
not_nan (inf s) e = tt
not_nan (fin s m d) e = tt

-- every f64 fits
pub fit : (x : Float) → fits binary64 x ≡ true → T (fits binary64 x)
fit x e = subst T (sym e) tt

-- ---- the rank and the sign
pub rank_bits : (x : Float) → T (not (is_nan x)) → T (fits binary64 x) → to_bits binary64 x % 2 ^ 63 ≡ rank_of x
rank_bits x t h = let w = pattern x t h in rank_of_mod (to_bits binary64 x) (sign x) (rank_of x) w.bits w.most

pub rank_most : (x : Float) → T (not (is_nan x)) → T (fits binary64 x) → to_bits binary64 x % 2 ^ 63 ≤ infinity
rank_most x t h = subst (λ (n : ℕ). n ≤ infinity) (sym (rank_bits x t h)) (pattern x t h).most

-- ---- finiteness
finite_rank_of : (x : Float) → T (not (is_nan x)) → T (fits binary64 x) → ltb (rank_of x) infinity ≡ finite x
unfolding is_nan
finite_rank_of nan t h = absurd t
finite_rank_of (inf s) t h = refl
finite_rank_of (fin s m e) t h = is_true (ltb (rank_of (fin s m e)) infinity) (lt→ltb (rank_of (fin s m e)) infinity (ranked (fin s m e) tt h).small)

pub finite_test : (x : Float) → T (not (is_nan x)) → T (fits binary64 x) → ltb (to_bits binary64 x % 2 ^ 63) infinity ≡ finite x
finite_test x t h = ap (λ (n : ℕ). ltb n infinity) (rank_bits x t h) ∙ finite_rank_of x t h

-- ---- absolute value
pub fits-sign : (s t : Bool) (m : ℕ) (e : _) → T (fits binary64 (fin s m e)) → T (fits binary64 (fin t m e))
unfolding fits
fits-sign s t zero e h = h
fits-sign s t (suc m) e h = h

pub absolute_rank : (x : Float) → T (not (is_nan x)) → T (fits binary64 x) → double false (rank_of x) ≡ absolute x
unfolding absolute is_nan magnitude
absolute_rank nan t h = absurd t
absolute_rank (inf s) t h = double_infinity false
absolute_rank (fin s m e) t h = sym (pattern (fin false m e) tt (fits-sign s false m e h)).same

pub absolute-nan : (x : Float) → x ≡ nan → x ≡ absolute x
unfolding absolute
absolute-nan x e = e ∙ sym (ap absolute e)

-- the answer r of `is_finite`, tested as `!r`
pub not_finite : (a : Float) {r : Bool} → r ≡ finite a → not r ≡ true → finite a ≡ false
not_finite a {r = true} e h = absurd (true≢false (sym h))
not_finite a {r = false} e h = sym e

pub still_finite : (a : Float) {r : Bool} → r ≡ finite a → not r ≡ false → T (finite a)
still_finite a {r = true} e h = subst T e tt
still_finite a {r = false} e h = absurd (true≢false h)
