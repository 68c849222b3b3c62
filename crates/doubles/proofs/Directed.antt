-- `round_up` gives the least double not below its number. Assumes nothing.
use mathlib.Core.Path.{◌≡◌, sym, ap, ◌∙◌, subst}
use mathlib.Core.Logic.{inl, inr}
use mathlib.Core.Bool.{Bool, true, false, not, true≢false}
use Prim.Native.Nat.{ℕ, suc, ◌+◌, ◌*◌, ◌^◌, ◌≤◌, ◌<◌, min}
use native.Mathlib.Nat.{le_of_mul-le-mul_right}
use native.Mathlib.Omega.{arith}
use lib.IntN.{ℤ, pos, negsuc, ◌*ℤ◌}
use lib.Dec.{T}
use lib.Pow.{pow_pos}
use lib.Ieee.{Float, inf, is_nan}
use lib.Ieee.Scale.{finite}
use Rattle.exact.specs.Value.{sign, signed, exact, exact_at}
use Rattle.exact.specs.Integers.{◌≼◌}
use Rattle.exact.proofs.Naturals.{le_or_lt}
use Rattle.exact.proofs.Signed.{SignedLe, signed_scale, signed_≼}
use Rattle.rank_arithmetic.specs.Rank.{at_rank, rank_down, rank_up, largest, infinity, double}
use Rattle.doubles.specs.Directed.{with_zero, round_up, IsUp}
use Rattle.rank_arithmetic.proofs.Grid.{at_rank-zero, at_rank_mono, rank_down_iff, rank_up_iff}
use Rattle.doubles.proofs.Patterns.{rank_of, Ranked, ranked, exact_double, infinite_rank, double_fits, finite_no_nan}
use Rattle.doubles.proofs.Zero.{exact-with_zero, finite-with_zero, fits-with_zero}

-- ---- infinities by rank
pub finite_double : (s : Bool) (r : ℕ) → r ≤ infinity → T (finite (double s r)) → r < infinity
finite_double s r h t = elim (le_or_lt infinity r) [ inl l ↦ absurd (subst (λ (x : Float). T (finite x)) (infinite_rank s r h l) t) | inr l ↦ l ]

number : (s : Bool) → T (not (is_nan (inf s)))
unfolding is_nan
number s = tt

pub no_nan_double : (s : Bool) (r : ℕ) → r ≤ infinity → T (not (is_nan (double s r)))
no_nan_double s r h = elim (le_or_lt infinity r) [
  | inl l ↦ subst (λ (x : Float). T (not (is_nan x))) (sym (infinite_rank s r h l)) (number s)
  | inr l ↦ finite_no_nan (double s r) (exact_double s r l).0
]

inf-sign : (s t : Bool) → inf s ≡ inf t → s ≡ t
inf-sign s t e = cc

not_itself : (s : Bool) → s ≡ not s → ⊥
not_itself true e = true≢false e
not_itself false e = true≢false (sym e)

-- a double of one sign is no infinity of the other, and a finite one is none
no_other_infinity : (s : Bool) (r : ℕ) → r ≤ infinity → double s r ≡ inf (not s) → ⊥
no_other_infinity s r h e = elim (le_or_lt infinity r) [
  | inl l ↦ not_itself s (inf-sign s (not s) (sym (infinite_rank s r h l) ∙ e))
  | inr l ↦ no_infinity (double s r) (not s) (exact_double s r l).0 e
]
  where
    no_infinity : (x : Float) (s : Bool) → T (finite x) → x ≡ inf s → ⊥
    no_infinity x s t e = subst (λ (y : Float). T (finite y)) e t

-- ---- orders of exact values, from orders of magnitudes
scaled : (l : ℕ) (d : Float) (s : Bool) (v : ℕ) → exact d ≡ signed s v → exact_at l d ≡ signed s (v * 2 ^ l)
scaled l d s v e = ap (λ (z : ℤ). z *ℤ pos (2 ^ l)) e ∙ signed_scale s v (2 ^ l)

not_below_by : (l : ℕ) (t : Bool) (n : ℕ) (d : Float) (s : Bool) (v : ℕ) → exact d ≡ signed s v → SignedLe t n s (v * 2 ^ l) → signed t n ≼ exact_at l d
not_below_by l t n d s v e o = subst (λ (z : ℤ). signed t n ≼ z) (sym (scaled l d s v e)) ((signed_≼ t n s (v * 2 ^ l)).1 o)

above_of : (l : ℕ) (t : Bool) (n : ℕ) (x : Float) (X : Ranked x) → signed t n ≼ exact_at l x → SignedLe t n (sign x) (at_rank 52 (rank_of x) * 2 ^ l)
above_of l t n x X o = (signed_≼ t n (sign x) (at_rank 52 (rank_of x) * 2 ^ l)).0 (subst (λ (z : ℤ). signed t n ≼ z) (scaled l x (sign x) (at_rank 52 (rank_of x)) X.value) o)

at_most : (d x : Float) (s : Bool) (v : ℕ) (X : Ranked x) → exact d ≡ signed s v → SignedLe s v (sign x) (at_rank 52 (rank_of x)) → exact d ≼ exact x
at_most d x s v X e o = subst (λ (z : ℤ). z ≼ exact x) (sym e) (subst (λ (z : ℤ). signed s v ≼ z) (sym X.value) ((signed_≼ s v (sign x) (at_rank 52 (rank_of x))).1 o))

-- ---- the least double not below z, for a z not below 0 …
module _ (l n : ℕ) where
  abbrev u : ℕ
  u = min (rank_up 52 l n) infinity

  u_le : u ≤ infinity
  u_le = omega arith

  up_of_pos : IsUp l (pos n) (double false u)
  up_of_pos = record {
    fit = double_fits false u;
    no_nan = no_nan_double false u u_le;
    no_other = no_other_infinity false u u_le;
    not_below = λ t. let q = finite_double false u u_le t in not_below_by l false n (double false u) false (at_rank 52 u) (exact_double false u q).1 (reached q);
    least = λ x f h o.
        let X = ranked x f h in
        let g = go (sign x) (rank_of x) X.small (above_of l false n x X o) in
        let D = exact_double false u g.0 in
        (D.0, at_most (double false u) x false (at_rank 52 u) X D.1 g.1);
  }
    where
      reached : u < infinity → SignedLe false n false (at_rank 52 u * 2 ^ l)
      reached q = omega (arith, (rank_up_iff 52 l n u).1 (omega arith))

      nothing : (p : ℕ) → n + at_rank 52 p * 2 ^ l ≤ 0 → (n ≤ at_rank 52 0 * 2 ^ l) × (at_rank 52 p ≤ 0)
      nothing p o = (omega arith, le_of_mul-le-mul_right (omega arith) (pow_pos l))

      go : (s : Bool) (p : ℕ) → p < infinity → SignedLe false n s (at_rank 52 p * 2 ^ l) → (u < infinity) × SignedLe false (at_rank 52 u) s (at_rank 52 p)
      go false p h o = let k = (rank_up_iff 52 l n p).0 (omega arith) in (omega arith, omega (arith, at_rank_mono 52 u p (omega arith)))
      go true p h o =
          let z = nothing p (omega arith) in
          let k = (rank_up_iff 52 l n 0).0 z.0 in
          let v : at_rank 52 u ≡ 0 = ap (at_rank 52) (omega arith) ∙ at_rank-zero in
          (omega arith, omega arith)

-- … and for one below 0
module _ (l n : ℕ) where
  abbrev r : ℕ
  r = min (rank_down 52 l (suc n)) largest

  abbrev d : Float
  d = with_zero false (double true r)

  below_infinity : r < infinity
  below_infinity = omega arith

  d_finite : T (finite d)
  d_finite = subst T (sym (finite-with_zero false (double true r))) (exact_double true r below_infinity).0

  d_exact : exact d ≡ signed true (at_rank 52 r)
  d_exact = exact-with_zero false (double true r) ∙ (exact_double true r below_infinity).1

  up_of_neg : IsUp l (negsuc n) d
  up_of_neg = record {
    fit = subst T (sym (fits-with_zero false (double true r))) (double_fits true r);
    no_nan = finite_no_nan d d_finite;
    no_other = λ e. subst (λ (y : Float). T (finite y)) e d_finite;
    not_below = λ t. not_below_by l true (suc n) d true (at_rank 52 r) d_exact reached;
    least = λ x f h o. let X = ranked x f h in (d_finite, at_most d x true (at_rank 52 r) X d_exact (go (sign x) (rank_of x) X.small (above_of l true (suc n) x X o)));
  }
    where
      reached : SignedLe true (suc n) true (at_rank 52 r * 2 ^ l)
      reached = omega (arith, (rank_down_iff 52 l (suc n) r).1 (omega arith))

      go : (s : Bool) (p : ℕ) → p < infinity → SignedLe true (suc n) s (at_rank 52 p * 2 ^ l) → SignedLe true (at_rank 52 r) s (at_rank 52 p)
      go false p h o = omega arith
      go true p h o = let k = (rank_down_iff 52 l (suc n) p).0 (omega arith) in omega (arith, at_rank_mono 52 p r (omega arith))

pub round_up_law : (l : ℕ) (z : ℤ) → IsUp l z (round_up l z)
unfolding round_up
round_up_law l (pos n) = up_of_pos l n
round_up_law l (negsuc n) = up_of_neg l n
