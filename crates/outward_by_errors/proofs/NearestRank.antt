-- What is nearer to one double than to both its neighbours rounds to it. Assumes nothing.
use mathlib.Core.Path.{◌≡◌, sym, ap, ◌∙◌, subst}
use mathlib.Core.Logic.{inl, inr}
use mathlib.Core.Bool.{Bool, false}
use Prim.Native.Nat.{ℕ, suc, ◌+◌, ◌^◌, ◌*◌, ◌≤◌, ◌<◌}
use native.Mathlib.Nat.{le_trans, le_of_eq, lt_of_lt_of_le}
use native.Mathlib.Omega.{arith}
use lib.IntN.{nat_abs}
use lib.Dec.{T, lit<}
use lib.Ieee.{Float, binary64, fits}
use lib.Ieee.Scale.{finite, overflow}
use Rattle.exact.specs.Value.{sign, signed, exact}
use Rattle.exact.specs.Nearest.{nearest_units, to_nearest, IsNearest}
use Rattle.exact.specs.Representable.{Representable}
use Rattle.exact.proofs.Naturals.{le_or_lt}
use Rattle.exact.proofs.Nearest.{nearest_ge, nearest_lo, nearest_le, nearest_hi, to_nearest_signed}
use Rattle.exact.proofs.Signed.{signed_abs}
use Rattle.exact.proofs.Values.{whole, exact_abs}
use Rattle.rank_arithmetic.specs.Rank.{at_rank, infinity, double}
use Rattle.rank_arithmetic.proofs.Grid.{at_rank_mono, at_rank_step}
use Rattle.doubles.specs.Directed.{with_zero}
use Rattle.doubles.proofs.Patterns.{rank_of, pattern, ranked, finite_no_nan, double_fits, exact_double, magnitude_double, infinity-value}
use Rattle.doubles.proofs.FirstCase.{magnitude_rank}
use Rattle.doubles.proofs.Zero.{with_zero_rank}
use Rattle.doubles.proofs.Unique.{exact_unique}

-- n is nearer to the double of rank p + 1 than to that of rank p or p + 2
module _ (s : Bool) (p n : ℕ) (room : suc (suc p) ≤ infinity)
    (after : at_rank 52 p + at_rank 52 (suc p) < n + n) (before : n + n < at_rank 52 (suc p) + at_rank 52 (suc (suc p))) where
  below : suc p < infinity
  below = omega (arith, room)

  representable : Representable 53 (at_rank 52 (suc p))
  representable = let v = exact_double false (suc p) below in
      subst (λ (m : ℕ). Representable 53 m) (magnitude_double false (suc p) below) (whole (double false (suc p)) v.0 (double_fits false (suc p))).representable

  abbrev N : ℕ
  N = nearest_units 53 0 n

  -- so it rounds to between those two
  between : (at_rank 52 p < N) × (N < at_rank 52 (suc (suc p)))
  between =
      let B = at_rank 52 (suc p) in
      elim (le_or_lt n B) [
        | inl l ↦
            let e : n ≤ B * 2 ^ 0 = omega (arith, l) in
            (omega (arith, after, nearest_hi 53 (lit< tt) 0 n B representable e), omega (arith, before, l, nearest_le 53 (lit< tt) 0 n B representable e, at_rank_step 52 (suc p)))
        | inr l ↦
            let e : B * 2 ^ 0 ≤ n = omega (arith, l) in
            (omega (arith, at_rank_step 52 p, nearest_ge 53 (lit< tt) 0 n B representable e), omega (arith, before, nearest_lo 53 (lit< tt) 0 n B representable e))
      ]

  only : (q : ℕ) → N ≡ at_rank 52 q → q ≡ suc p
  only q e = elim (le_or_lt q p) [
    | inl l ↦ absurd (none_before (at_rank_mono 52 q p l))
    | inr l ↦ elim (le_or_lt (suc (suc p)) q) [
      | inl k ↦ absurd (none_after (at_rank_mono 52 (suc (suc p)) q k))
      | inr k ↦ omega (arith, l, k)
    ]
  ]
    where
      none_before : at_rank 52 q ≤ at_rank 52 p → ⊥
      none_before h = omega (arith, h, e, between.0)

      none_after : at_rank 52 (suc (suc p)) ≤ at_rank 52 q → ⊥
      none_after h = omega (arith, h, e, between.1)

  module _ (d : Float) (hd : T (fits binary64 d)) (D : IsNearest 0 (signed s n) d) where
    size : nat_abs (to_nearest 0 (signed s n)) ≡ N
    size = ap nat_abs (to_nearest_signed 0 s n) ∙ signed_abs s N

    small : N < overflow binary64
    small = lt_of_lt_of_le between.1 (le_trans (at_rank_mono 52 (suc (suc p)) infinity room) (le_of_eq infinity-value))

    value : T (finite d) × (exact d ≡ to_nearest 0 (signed s n))
    value = D.within (subst (λ (m : ℕ). m < overflow binary64) (sym size) small)

    rank_is : rank_of d ≡ suc p
    rank_is = only (rank_of d) (sym size ∙ ap nat_abs (sym value.1) ∙ exact_abs d ∙ magnitude_rank d value.0 hd)

    exact_is : exact d ≡ exact (double s (suc p))
    exact_is =
        value.1 ∙ to_nearest_signed 0 s n
        ∙ ap (signed s) (sym size ∙ ap nat_abs (sym value.1) ∙ exact_abs d ∙ magnitude_rank d value.0 hd ∙ ap (at_rank 52) rank_is)
        ∙ sym (exact_double s (suc p) below).1

    pub nearest_rank : d ≡ double s (suc p)
    nearest_rank =
        sym own
        ∙ exact_unique d (double s (suc p)) value.0 hd (exact_double s (suc p) below).0 (double_fits s (suc p)) exact_is
        ∙ with_zero_rank false s (suc p) (omega arith) (omega (arith, room))
      where
        own : with_zero false d ≡ d
        own = let e = (pattern d (finite_no_nan d value.0) hd).same in
            ap (with_zero false) e ∙ with_zero_rank false (sign d) (rank_of d) (omega (arith, rank_is)) (omega (arith, (ranked d value.0 hd).small)) ∙ sym e
