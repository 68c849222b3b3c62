-- Of a pair that is a number exactly, its high part being that number rounded, the high part or its neighbour by the sign of the low part
-- is the least double not below the number, or the greatest not above. Assumes nothing.
use Rattle.std.proofs.Common.{◌≡◌, ℕ, ◌^◌, ◌<◌, Bool, true, false, cond, not, T, ℤ, pos, ◌+ℤ◌, ◌*ℤ◌, neg_ℤ, sym, refl, ap, ◌∙◌, subst, inl, inr, zero-le, mul-le-mul_right, arith, pow_pos}
use lib.IntN.{neg_ℤ-+ℤ, *ℤ_comm}
use lib.Ieee.{Float, nan, inf, fin, binary64, fits, is_nan, neg, lt}
use lib.Ieee.Fits.{neg-fits}
use lib.Ieee.Scale.{finite}
use Rattle.exact.specs.Value.{magnitude, exact, exact_at}
use Rattle.exact.specs.Integers.{◌≼◌, ◌≺◌}
use Rattle.exact.specs.Nearest.{to_nearest}
use Rattle.exact.proofs.Difference.{all, differences}
use Rattle.exact.proofs.Order.{≼_or_≺, ≼_of_≺, ≺_not_≼, pos_≼, *_mono}
use Rattle.exact.proofs.Values.{exact-neg, exact_at-neg, finite-neg, neg-neg}
use Rattle.exact.proofs.Compare.{lt_to, lt_of, same_bool}
use Rattle.exact.proofs.Nearest.{to_nearest_mono, to_nearest-neg}
use Rattle.exact.proofs.Between.{nearest_own}
use Rattle.doubles.specs.Directed.{IsUp, IsDown}
use Rattle.doubles.specs.Neighbours.{next_up, next_down}
use Rattle.doubles.proofs.Mirror.{down_of_up}
use Rattle.doubles.proofs.Next.{next_up_law, next_mirror}
use Rattle.cdouble.specs.Compensated.{plus_zero, upper, lower, negated}
use Rattle.cdouble.specs.Exactness.{IsExact}
use Rattle.cdouble.specs.declared.CDouble.{CDouble}

finite_no_nan : (d : Float) → T (finite d) → T (not (is_nan d))
unfolding is_nan
finite_no_nan nan f = absurd f
finite_no_nan (inf s) f = absurd f
finite_no_nan (fin s m e) f = tt

finite_no_infinity : (d : Float) (s : Bool) → T (finite d) → d ≡ inf s → ⊥
finite_no_infinity d s f e = subst (λ (x : Float). T (finite x)) e f

-- ---- z / 2 ^ l units rounded to the finite double d
module _ (l : ℕ) (z : ℤ) (d : Float) (f : T (finite d)) (is : exact d ≡ to_nearest l z) where
  -- a double on one side of the number is on that side of d, or d itself
  above_rounded : (x : Float) → T (finite x) → T (fits binary64 x) → z ≼ exact_at l x → exact d ≼ exact x
  above_rounded x fx hx o = rw (is, sym (nearest_own l x fx hx)) (to_nearest_mono l z (exact_at l x) o)

  below_rounded : (x : Float) → T (finite x) → T (fits binary64 x) → exact_at l x ≼ z → exact x ≼ exact d
  below_rounded x fx hx o = rw (is, sym (nearest_own l x fx hx)) (to_nearest_mono l (exact_at l x) z o)

  -- the number is not above d: d is least
  rounded_up : T (fits binary64 d) → z ≼ exact_at l d → IsUp l z d
  rounded_up h o = record {
    fit = h;
    no_nan = finite_no_nan d f;
    no_other = finite_no_infinity d true f;
    not_below = λ t. o;
    least = λ x fx hx k. (f, above_rounded x fx hx k);
  }

  -- it is above d: the next double is least, since no double lies between, and one below the number would have drawn it away from d
  rounded_down : exact_at l d ≺ z → IsUp l z (next_up d)
  rounded_down o =
      let U = next_up_law d f in
      record {
        fit = U.fit;
        no_nan = U.no_nan;
        no_other = U.no_other;
        not_below = λ t. elim (≼_or_≺ z (exact_at l (next_up d))) [ inl k ↦ k | inr k ↦ absurd (≺_not_≼ (U.above t) (below_rounded (next_up d) t U.fit (≼_of_≺ k))) ];
        least = λ x fx hx k. U.least x fx hx (scaled (exact d) (exact x) (2 ^ l) (between (exact_at l d) z (exact_at l x) o k));
      }
    where
      between : (a b c : ℤ) → a ≺ b → b ≼ c → a ≺ c
      between = all _ λ a a'. all _ λ b b'. all _ λ c c'. simp differences (λ h k. omega arith)

      scaled : (a b : ℤ) (n : ℕ) → a *ℤ pos n ≺ b *ℤ pos n → a ≺ b
      scaled a b n h = elim (≼_or_≺ b a) [ inl k ↦ absurd (≺_not_≼ h (rw (*ℤ_comm b (pos n), *ℤ_comm a (pos n)) (*_mono (pos n) b a ((pos_≼ 0 n).1 zero-le) k))) | inr k ↦ k ]

-- ---- pairs
pub exact-zero : exact plus_zero ≡ pos 0
unfolding exact magnitude
exact-zero = refl

pub zero-fits : T (fits binary64 plus_zero)
unfolding fits
zero-fits = tt

-- the sign of the low part says on which side of the high part the number lies
beyond : (n : ℕ) (a b : ℤ) → 0 < n → pos 0 ≺ b → a *ℤ pos n ≺ a *ℤ pos n +ℤ b *ℤ pos n
beyond n = all _ λ a a'. all _ λ b b'. simp differences (λ h k. omega (arith, mul-le-mul_right n k))

within : (n : ℕ) (a b : ℤ) → b ≼ pos 0 → a *ℤ pos n +ℤ b *ℤ pos n ≼ a *ℤ pos n
within n = all _ λ a a'. all _ λ b b'. simp differences (λ k. omega (arith, mul-le-mul_right n k))

pub upper_least : (l : ℕ) (z : ℤ) (c : CDouble) → T (fits binary64 c.hi) → T (fits binary64 c.lo) → IsExact l z c → IsUp l z (upper c)
unfolding upper
upper_least l z c hh hl E = go (lt plus_zero c.lo) (λ t. rw exact-zero at (lt_to plus_zero c.lo tt E.lo_finite zero-fits hl t))
    (λ o. lt_of plus_zero c.lo tt E.lo_finite zero-fits hl (rw exact-zero o))
  where
    go : (b : Bool) → (T b → pos 0 ≺ exact c.lo) → (pos 0 ≺ exact c.lo → T b) → IsUp l z (cond b (next_up c.hi) c.hi)
    go true f g = rounded_down l z c.hi E.hi_finite E.nearest (subst (λ (w : ℤ). exact_at l c.hi ≺ w) E.whole (beyond (2 ^ l) (exact c.hi) (exact c.lo) (pow_pos l) (f tt)))
    go false f g =
        elim (≼_or_≺ (exact c.lo) (pos 0)) [
          | inl o ↦ rounded_up l z c.hi E.hi_finite E.nearest hh (subst (λ (w : ℤ). w ≼ exact_at l c.hi) E.whole (within (2 ^ l) (exact c.hi) (exact c.lo) o))
          | inr o ↦ absurd (g o)
        ]

-- ---- in the mirror
pub exact_mirror : (l : ℕ) (z : ℤ) (c : CDouble) → IsExact l z c → IsExact l (neg_ℤ z) (negated c)
unfolding negated
exact_mirror l z c E = record {
  hi_finite = rw (finite-neg c.hi) E.hi_finite;
  lo_finite = rw (finite-neg c.lo) E.lo_finite;
  whole =
      ap (λ (w : ℤ). w +ℤ exact_at l (neg c.lo)) (exact_at-neg l c.hi)
      ∙ ap (λ (w : ℤ). neg_ℤ (exact_at l c.hi) +ℤ w) (exact_at-neg l c.lo)
      ∙ sym (neg_ℤ-+ℤ (exact_at l c.hi) (exact_at l c.lo))
      ∙ ap neg_ℤ E.whole;
  nearest = exact-neg c.hi ∙ ap neg_ℤ E.nearest ∙ sym (to_nearest-neg l z);
}

-- below 0 is what is above 0 in the mirror
lt_mirror : (x : Float) → T (finite x) → T (fits binary64 x) → lt plus_zero (neg x) ≡ lt x plus_zero
lt_mirror x f h =
    same_bool (lt plus_zero (neg x)) (lt x plus_zero)
    (λ t. lt_of x plus_zero f tt h zero-fits (rw exact-zero ((turn (exact x)).1 (rw (exact-zero, exact-neg x) at (lt_to plus_zero (neg x) tt (rw (finite-neg x) f) zero-fits (neg-fits binary64 x h) t)))))
    (λ t. lt_of plus_zero (neg x) tt (rw (finite-neg x) f) zero-fits (neg-fits binary64 x h) (rw (exact-zero, exact-neg x) ((turn (exact x)).0 (rw exact-zero at (lt_to x plus_zero f tt h zero-fits t)))))
  where
    turn : (z : ℤ) → (z ≺ pos 0 → pos 0 ≺ neg_ℤ z) × (pos 0 ≺ neg_ℤ z → z ≺ pos 0)
    turn z = (to z, from z)
      where
        to : (z : ℤ) → z ≺ pos 0 → pos 0 ≺ neg_ℤ z
        to = all _ λ z z'. simp differences (λ h. omega arith)

        from : (z : ℤ) → pos 0 ≺ neg_ℤ z → z ≺ pos 0
        from = all _ λ z z'. simp differences (λ h. omega arith)

pub lower_greatest : (l : ℕ) (z : ℤ) (c : CDouble) → T (fits binary64 c.hi) → T (fits binary64 c.lo) → IsExact l z c → IsDown l z (lower c)
unfolding upper lower negated
lower_greatest l z c hh hl E =
    subst (IsDown l z) (same (lt c.lo plus_zero) (lt plus_zero (neg c.lo)) (lt_mirror c.lo E.lo_finite hl))
    (down_of_up l z (upper (negated c)) (upper_least l (neg_ℤ z) (negated c) (neg-fits binary64 c.hi hh) (neg-fits binary64 c.lo hl) (exact_mirror l z c E)))
  where
    same : (b b' : Bool) → b' ≡ b → neg (cond b' (next_up (neg c.hi)) (neg c.hi)) ≡ cond b (next_down c.hi) c.hi
    same true b' e = ap (λ (t : Bool). neg (cond t (next_up (neg c.hi)) (neg c.hi))) e ∙ sym (next_mirror c.hi)
    same false b' e = ap (λ (t : Bool). neg (cond t (next_up (neg c.hi)) (neg c.hi))) e ∙ neg-neg c.hi
