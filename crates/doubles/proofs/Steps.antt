-- The next double by sign and rank: one rank up, or for a negative double one down. Assumes nothing.
use mathlib.Core.Path.{◌≡◌, refl, sym, ap, ◌∙◌}
use mathlib.Core.Logic.{inl, inr}
use mathlib.Core.Bool.{Bool, true, false, not}
use Prim.Native.Nat.{ℕ, zero, suc, ◌+◌, ◌-◌, ◌*◌, ◌≤◌, ◌<◌, min}
use native.Mathlib.Omega.{arith}
use lib.IntN.{ℤ, pos, negsuc, neg_ℤ, ◌+ℤ◌, ◌*ℤ◌}
use lib.Dec.{T}
use lib.Ieee.{Float, nan, inf, fin, binary64, fits, is_nan}
use Rattle.exact.specs.Value.{sign, signed, exact_at}
use Rattle.exact.proofs.Difference.{differences}
use Rattle.exact.proofs.Naturals.{le_or_lt}
use Rattle.exact.proofs.Signed.{signed_scale}
use Rattle.rank_arithmetic.specs.Rank.{at_rank, rank_down, rank_up, largest, infinity, double}
use Rattle.doubles.specs.Directed.{with_zero, round_up}
use Rattle.doubles.specs.Neighbours.{next_up}
use Rattle.rank_arithmetic.proofs.Grid.{at_rank-zero, at_rank_step, rank_down_iff, rank_up_iff}
use Rattle.doubles.proofs.Patterns.{rank_of, ranked, double_sign, double_infinity}
use Rattle.doubles.proofs.Zero.{with_zero_twice, with_zero_own, with_zero_rank}

-- half a unit above a rank's value lies below the next rank's, and half a unit below it above the one before
rank_up_half : (p : ℕ) → rank_up 52 1 (at_rank 52 p * 2 + 1) ≡ suc p
rank_up_half p =
    let n = at_rank 52 p * 2 + 1 in
    let a : rank_up 52 1 n ≤ suc p = (rank_up_iff 52 1 n (suc p)).0 (omega (arith, at_rank_step 52 p)) in
    elim (le_or_lt (rank_up 52 1 n) p) [ inl l ↦ absurd (no ((rank_up_iff 52 1 n p).1 l)) | inr l ↦ omega arith ]
  where
    no : at_rank 52 p * 2 + 1 ≤ at_rank 52 p * 2 → ⊥
    no h = omega arith

rank_down_half : (p n : ℕ) → suc n + 1 ≡ at_rank 52 (suc p) * 2 → rank_down 52 1 (suc n) ≡ p
rank_down_half p n e =
    let a : p ≤ rank_down 52 1 (suc n) = (rank_down_iff 52 1 (suc n) p).0 (omega (arith, at_rank_step 52 p)) in
    elim (le_or_lt (suc p) (rank_down 52 1 (suc n))) [ inl l ↦ absurd (no ((rank_down_iff 52 1 (suc n) (suc p)).1 l)) | inr l ↦ omega arith ]
  where
    no : at_rank 52 (suc p) * 2 ≤ suc n → ⊥
    no h = omega arith

abbrev pub step_up : Bool → ℕ → Float
step_up false p = double false (min (suc p) infinity)
step_up true zero = double false 1
step_up true (suc p) = double true p

-- from p units not below 0
up_of_positive : (p : ℕ) → p < infinity → with_zero true (round_up 1 (pos (at_rank 52 p * 2 + 1))) ≡ double false (min (suc p) infinity)
unfolding round_up
up_of_positive p h = ap (λ (n : ℕ). with_zero true (double false (min n infinity))) (rank_up_half p) ∙ with_zero_rank true false (min (suc p) infinity) (omega arith) (omega arith)

up_of_negative : (p n : ℕ) → suc p < infinity → suc n + 1 ≡ at_rank 52 (suc p) * 2 → with_zero true (round_up 1 (negsuc n)) ≡ double true p
unfolding round_up
up_of_negative p n h e =
    with_zero_twice true false (double true (min (rank_down 52 1 (suc n)) largest))
    ∙ ap (λ (r : ℕ). with_zero true (double true r)) (ap (λ (r : ℕ). min r largest) (rank_down_half p n e) ∙ least p h)
    ∙ with_zero_own true (double true p) (double_sign true p (omega arith))
  where
    least : (p : ℕ) → suc p < infinity → min p largest ≡ p
    least p h = omega arith

step_value : (s : Bool) (p : ℕ) → p < infinity → (z : ℤ) → z ≡ signed s (at_rank 52 p * 2) → with_zero true (round_up 1 (z +ℤ pos 1)) ≡ step_up s p
step_value false p h z e = ap (λ (w : ℤ). with_zero true (round_up 1 (w +ℤ pos 1))) e ∙ up_of_positive p h
step_value true zero h z e = ap (λ (w : ℤ). with_zero true (round_up 1 (w +ℤ pos 1))) (e ∙ zero_is) ∙ up_of_positive 0 h
  where
    zero_is : signed true (at_rank 52 0 * 2) ≡ pos (at_rank 52 0 * 2)
    zero_is = ap (λ (n : ℕ). signed true (n * 2)) at_rank-zero ∙ sym (ap (λ (n : ℕ). pos (n * 2)) at_rank-zero)
step_value true (suc p) h z e =
    let n = at_rank 52 (suc p) * 2 - 2 in
    ap (λ (w : ℤ). with_zero true (round_up 1 w)) (ap (λ (w : ℤ). w +ℤ pos 1) e ∙ less (at_rank 52 (suc p)) positive) ∙ up_of_negative p n h (omega (arith, positive))
  where
    positive : 0 < at_rank 52 (suc p)
    positive = omega (arith, at_rank_step 52 p)

    less : (v : ℕ) → 0 < v → neg_ℤ (pos (v * 2)) +ℤ pos 1 ≡ negsuc (v * 2 - 2)
    less v h = simp differences (omega arith)

pub next_step : (x : Float) → T (not (is_nan x)) → T (fits binary64 x) → next_up x ≡ step_up (sign x) (rank_of x)
unfolding next_up is_nan
next_step nan t h = absurd t
next_step (inf false) t h = sym (double_infinity false)
next_step (inf true) t h = refl
next_step (fin s m e) t h =
    let x = fin s m e in
    let X = ranked x tt h in
    step_value s (rank_of x) X.small (exact_at 1 x) (ap (λ (z : ℤ). z *ℤ pos 2) X.value ∙ signed_scale s (at_rank 52 (rank_of x)) 2)
