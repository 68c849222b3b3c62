-- `round_down` is `round_up` in the mirror of negation, a zero answer being +0 on both sides; so it gives the greatest double not above its number. Assumes nothing.
use mathlib.Core.Path.{◌≡◌, refl, sym, ap, ◌∙◌, subst}
use mathlib.Core.Bool.{Bool, true, false, not}
use Prim.Native.Nat.{ℕ, zero, suc, ◌*◌, ◌^◌, ◌≤◌, min, zero-le}
use native.Mathlib.Nat.{le_refl, lt_of_le_of_lt, not-le_of_lt, zero-lt-suc, mul-pos}
use native.Mathlib.Omega.{arith}
use lib.IntN.{ℤ, pos, negsuc, neg_ℤ, ◌*ℤ◌, neg_ℤ-neg_ℤ}
use lib.Dec.{T, lit<}
use lib.Pow.{pow_pos}
use lib.Ieee.{Float, nan, inf, fin, binary64, is_nan, neg}
use lib.Ieee.Fits.{neg-fits}
use Rattle.exact.specs.Value.{exact, exact_at}
use Rattle.exact.specs.Integers.{◌≼◌}
use Rattle.exact.proofs.Order.{neg-≼}
use Rattle.exact.proofs.Values.{exact-neg, exact_at-neg, finite-neg, neg-neg}
use Rattle.rank_arithmetic.specs.Rank.{at_rank, rank_down, rank_up, largest, infinity, double}
use Rattle.doubles.specs.Directed.{with_zero, round_up, round_down, IsUp, IsDown}
use Rattle.rank_arithmetic.proofs.Grid.{at_rank-lt, rank_down_iff}
use Rattle.doubles.proofs.Patterns.{double_sign, neg_double}
use Rattle.doubles.proofs.Zero.{zero_plus, exact-with_zero, finite-with_zero, nan-with_zero, fits-with_zero, neg-with_zero, with_zero_twice, with_zero_own, infinity-with_zero}
use Rattle.doubles.proofs.Directed.{round_up_law}

pub rank_down-zero : (l : ℕ) → rank_down 52 l 0 ≡ 0
rank_down-zero l = none (rank_down 52 l 0) ((rank_down_iff 52 l 0 (rank_down 52 l 0)).1 (le_refl (rank_down 52 l 0)))
  where
    none : (r : ℕ) → at_rank 52 r * 2 ^ l ≤ 0 → r ≡ 0
    none zero h = refl
    none (suc r) h = absurd (not-le_of_lt (mul-pos (lt_of_le_of_lt (zero-le {n = at_rank 52 0}) (at_rank-lt 52 0 (suc r) (zero-lt-suc r))) (pow_pos l)) h)

pub rank_up-zero : (l : ℕ) → rank_up 52 l 0 ≡ 0
unfolding rank_up
rank_up-zero l = refl

own_sign : (r : ℕ) → r ≤ infinity → with_zero false (double false r) ≡ double false r
own_sign r h = with_zero_own false (double false r) (double_sign false r h)

pub mirror : (l : ℕ) (z : ℤ) → round_down l z ≡ with_zero false (neg (round_up l (neg_ℤ z)))
unfolding round_up round_down
mirror l (pos zero) = ap (λ (x : ℕ). double false (min x largest)) (rank_down-zero l) ∙ sym (ap (λ (x : ℕ). with_zero false (neg (double false (min x infinity)))) (rank_up-zero l) ∙ ap (with_zero false) (neg_double false 0 (lit< tt)) ∙ zero_plus true)
mirror l (pos (suc n)) =
    let q = min (rank_down 52 l (suc n)) largest in
    sym
    (ap (with_zero false) (neg-with_zero false (double true q) ∙ ap (with_zero true) (neg_double true q (omega arith)))
    ∙ with_zero_twice false true (double false q)
    ∙ own_sign q (omega arith))
mirror l (negsuc n) = sym (ap (with_zero false) (neg_double false (min (rank_up 52 l (suc n)) infinity) (omega arith)))

-- "A zero answer is +0": to take one as +0 changes nothing
pub up_zero : (l : ℕ) (z : ℤ) → with_zero false (round_up l z) ≡ round_up l z
unfolding round_up
up_zero l (pos n) = own_sign (min (rank_up 52 l n) infinity) (omega arith)
up_zero l (negsuc n) = with_zero_twice false false (double true (min (rank_down 52 l (suc n)) largest))

pub down_zero : (l : ℕ) (z : ℤ) → with_zero false (round_down l z) ≡ round_down l z
down_zero l z = ap (with_zero false) (mirror l z) ∙ with_zero_twice false false (neg (round_up l (neg_ℤ z))) ∙ sym (mirror l z)

-- the mirror the other way round
pub mirror_up : (l : ℕ) (z : ℤ) → round_up l z ≡ with_zero false (neg (round_down l (neg_ℤ z)))
mirror_up l z =
    sym
    (ap (λ (x : Float). with_zero false (neg x)) (mirror l (neg_ℤ z) ∙ ap (λ (w : ℤ). with_zero false (neg (round_up l w))) (neg_ℤ-neg_ℤ z))
    ∙ ap (with_zero false) (neg-with_zero false (neg (round_up l z)) ∙ ap (with_zero true) (neg-neg (round_up l z)))
    ∙ with_zero_twice false true (round_up l z)
    ∙ up_zero l z)

-- ---- the law of `round_down`
pub nan-neg : (d : Float) → is_nan (neg d) ≡ is_nan d
unfolding is_nan neg
nan-neg nan = refl
nan-neg (inf s) = refl
nan-neg (fin s m e) = refl

neg-infinity : (d : Float) → neg d ≡ inf false → d ≡ inf true
unfolding neg
neg-infinity d e = sym (neg-neg d) ∙ ap neg e

-- what is least not below the negative is greatest not above in the mirror
pub down_of_up : (l : ℕ) (z : ℤ) (d : Float) → IsUp l (neg_ℤ z) d → IsDown l z (neg d)
down_of_up l z d U = record {
  fit = neg-fits binary64 d U.fit;
  no_nan = subst (λ (b : Bool). T (not b)) (sym (nan-neg d)) U.no_nan;
  no_other = λ e. U.no_other (neg-infinity d e);
  not_above = λ t. subst (λ (w : ℤ). w ≼ z) (sym (exact_at-neg l d)) ((neg-≼ (neg_ℤ (exact_at l d)) z).1 (subst (λ (w : ℤ). neg_ℤ z ≼ w) (sym (neg_ℤ-neg_ℤ (exact_at l d))) (U.not_below (subst T (finite-neg d) t))));
  greatest = λ x f h o.
      let w = U.least (neg x) (subst T (sym (finite-neg x)) f) (neg-fits binary64 x h) (subst (λ (y : ℤ). neg_ℤ z ≼ y) (sym (exact_at-neg l x)) ((neg-≼ (exact_at l x) z).0 o)) in
      (subst T (sym (finite-neg d)) w.0, subst (λ (y : ℤ). exact x ≼ y) (sym (exact-neg d)) ((neg-≼ (exact x) (neg_ℤ (exact d))).1 (subst (λ (y : ℤ). y ≼ neg_ℤ (exact x)) (sym (neg_ℤ-neg_ℤ (exact d))) (subst (λ (y : ℤ). exact d ≼ y) (exact-neg x) w.1))));
}

-- the sign of a zero does not matter
down_with_zero : (l : ℕ) (z : ℤ) (s : Bool) (d : Float) → IsDown l z d → IsDown l z (with_zero s d)
down_with_zero l z s d D = record {
  fit = subst T (sym (fits-with_zero s d)) D.fit;
  no_nan = subst (λ (b : Bool). T (not b)) (sym (nan-with_zero s d)) D.no_nan;
  no_other = λ e. D.no_other (infinity-with_zero s false d e);
  not_above = λ t. subst (λ (w : ℤ). w *ℤ pos (2 ^ l) ≼ z) (sym (exact-with_zero s d)) (D.not_above (subst T (finite-with_zero s d) t));
  greatest = λ x f h o. let w = D.greatest x f h o in (subst T (sym (finite-with_zero s d)) w.0, subst (λ (y : ℤ). exact x ≼ y) (sym (exact-with_zero s d)) w.1);
}

pub round_down_law : (l : ℕ) (z : ℤ) → IsDown l z (round_down l z)
round_down_law l z = subst (IsDown l z) (sym (mirror l z)) (down_with_zero l z false (neg (round_up l (neg_ℤ z))) (down_of_up l z (round_up l (neg_ℤ z)) (round_up_law l (neg_ℤ z))))
