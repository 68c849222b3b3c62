-- At a limited variable the edge that the exact coefficient takes is finite, and the term is not below the coefficient times that edge. Assumes nothing.
use mathlib.Core.Path.{◌≡◌, refl, sym, subst}
use mathlib.Core.Logic.{inl, inr}
use mathlib.Core.Bool.{Bool, true, false, cond}
use Prim.Native.Nat.{ℕ, ◌^◌}
use lib.IntN.{ℤ, pos, ◌+ℤ◌, ◌*ℤ◌, +ℤ_idr, zero-*ℤ, *ℤ_comm}
use lib.Dec.{T}
use lib.Pow.{pow_pos}
use lib.Ieee.{Float, binary64, fits, le}
use lib.Ieee.Scale.{finite}
use Rattle.exact.specs.Value.{exact}
use Rattle.exact.specs.Integers.{◌≼◌, ◌≺◌, max_ℤ}
use Rattle.exact.proofs.Ring.{multiply}
use Rattle.exact.proofs.Order.{≼_refl, ≼_trans, ≼_antisym, ≼_or_≺, ≺_not_≼, max_least, interval}
use Rattle.doubles.specs.Directed.{sum_up, product_up}
use Rattle.cdouble.specs.Compensated.{plus_zero}
use Rattle.gaps.specs.Steps.{skipped, limited, term, with_term}
use Rattle.gaps.specs.ExactGap.{taken}
use Rattle.gaps.proofs.Sound.{SoundRange}
use Rattle.gaps.proofs.Sides.{upward, downward, Bounds, scale_mono, scale_cancel, bounds_product, bounds_finer, bounds_sum, bounds_above}
use Rattle.gaps.proofs.TakenEdge.{taken_ind, times_zero}
use Rattle.gaps.proofs.Term.{limited-ends, low_in_term, high_in_term, term_fits, high_finite, low_finite, some_edge, skipped-zero}

-- ---- numbers in other units
apart : (n : ℕ) (a b x y : ℤ) → x ≺ y → a *ℤ pos n ≼ x → y ≼ b *ℤ pos n → a ≺ b
apart n a b x y less h k = elim (≼_or_≺ b a) [ inl o ↦ absurd (≺_not_≼ less (≼_trans k (≼_trans (scale_mono n b a o) h))) | inr o ↦ o ]

zero_scaled : (n : ℕ) → (pos 0 *ℤ pos n ≼ pos 0) × (pos 0 ≼ pos 0 *ℤ pos n)
zero_scaled n = rw (zero-*ℤ (pos n)) (≼_refl (pos 0), ≼_refl (pos 0))

-- the product with an edge, between those of the coefficient's bounds
between : (k l u c e : ℤ) → l *ℤ k ≼ c → c ≼ u *ℤ k → c *ℤ e ≼ max_ℤ (l *ℤ e *ℤ k) (u *ℤ e *ℤ k)
between k l u c e h g = rw (turn l, turn u, *ℤ_comm c e) (interval e (l *ℤ k) (u *ℤ k) c h g)
  where
    turn : (a : ℤ) → a *ℤ e *ℤ k ≡ e *ℤ (a *ℤ k)
    turn a = simp multiply

module _ (l u low high : Float) (c : ℤ) (L : Bounds downward 1074 c l) (U : Bounds upward 1074 c u) (range : SoundRange low high) (ok : limited l u low high ≡ true) where
  l_finite : T (finite l)
  l_finite = (limited-ends l u low high ok).0

  u_finite : T (finite u)
  u_finite = (limited-ends l u low high ok).1

  -- ---- a finite edge: what is at least both products with it bounds the coefficient times it
  at_edge_lem : (edge x : Float) → T (finite edge) → T (fits binary64 x) → T (le (product_up l edge) x) × T (le (product_up u edge) x) → Bounds upward 2148 (c *ℤ exact edge) x
  at_edge_lem edge x t h o =
      let of : (a : Float) → T (finite a) → T (le (product_up a edge) x) → Bounds upward 2148 (exact a *ℤ exact edge *ℤ pos (2 ^ 1074)) x
      = λ a r p. bounds_finer upward 1074 1074 (bounds_above 1074 (exact a *ℤ exact edge) (product_up a edge) x (bounds_product upward a edge r t) p h) in
      let A = of l l_finite o.0 in
      let B = of u u_finite o.1 in
      record {
        fit = h;
        no_nan = A.no_nan;
        no_other = A.no_other;
        bound = λ r. ≼_trans (between (pos (2 ^ 1074)) (exact l) (exact u) c (exact edge) (L.bound l_finite) (U.bound u_finite)) (max_least (A.bound r) (B.bound r));
      }

  at_low : T (finite low) → Bounds upward 2148 (c *ℤ exact low) (term l u low high)
  at_low t = at_edge_lem low (term l u low high) t (term_fits l u low high l_finite u_finite L.fit U.fit range (inl t)) (low_in_term l u low high l_finite u_finite L.fit U.fit range t)

  at_high : T (finite high) → Bounds upward 2148 (c *ℤ exact high) (term l u low high)
  at_high t = at_edge_lem high (term l u low high) t (term_fits l u low high l_finite u_finite L.fit U.fit range (inr t)) (high_in_term l u low high l_finite u_finite L.fit U.fit range t)

  -- ---- the edge taken, of a variable that is not skipped: finite, and in the term
  abbrev Reached : Float → Type 0
  Reached edge = T (finite edge) × Bounds upward 2148 (c *ℤ exact edge) (term l u low high)

  reached : skipped l u ≡ false → Reached (taken c low high)
  reached n =
      let unit = 2 ^ 1074 in
      taken_ind (λ _ edge. Reached edge) c low high plus_zero
      (λ above. let t = high_finite l u low high l_finite u_finite L.fit U.fit range ok n (apart unit (pos 0) (exact u) (pos 0) c above (zero_scaled unit).0 (U.bound u_finite)) in (t, at_high t))
      (λ below. let t = low_finite l u low high l_finite u_finite L.fit U.fit range ok n (apart unit (exact l) (pos 0) c (pos 0) below (L.bound l_finite) (zero_scaled unit).1) in (t, at_low t))
      (λ level.
      let at : (edge : Float) → Bounds upward 2148 (c *ℤ exact edge) (term l u low high) → Reached plus_zero = λ edge E. (tt, subst (λ (z : ℤ). Bounds upward 2148 z (term l u low high)) (times_zero c (exact edge) (exact plus_zero) level) E) in
      elim (some_edge l u low high l_finite u_finite L.fit U.fit range ok n (scale_cancel unit (exact l) (exact u) (pow_pos 1074) (≼_trans (L.bound l_finite) (U.bound u_finite)))) [ inl t ↦ at low (at_low t) | inr t ↦ at high (at_high t) ])

  -- a variable that is skipped has the coefficient 0
  none : skipped l u ≡ true → c ≡ pos 0
  none e =
      let unit = 2 ^ 1074 in
      let z = skipped-zero l u low high l_finite u_finite L.fit U.fit range e in
      ≼_antisym (≼_trans (rw z.1 at (U.bound u_finite)) (zero_scaled unit).0) (≼_trans (zero_scaled unit).1 (rw z.0 at (L.bound l_finite)))

  -- what a step of M adds
  pub with_term_lem : T (finite (taken c low high)) × ((sum : Float) (z : ℤ) → Bounds upward 2148 z sum → Bounds upward 2148 (z +ℤ c *ℤ exact (taken c low high)) (with_term l u low high sum))
  unfolding taken with_term
  with_term_lem = go (skipped l u) refl
    where
      go : (q : Bool) → skipped l u ≡ q
          → T (finite (taken c low high)) × ((sum : Float) (z : ℤ) → Bounds upward 2148 z sum → Bounds upward 2148 (z +ℤ c *ℤ exact (taken c low high)) (cond q sum (sum_up sum (term l u low high))))
      go true e = let level = none e in (subst (λ (x : ℤ). T (finite (taken x low high))) (sym level) tt, λ sum z Z. rw (level, zero-*ℤ (exact plus_zero), +ℤ_idr z) Z)
      go false e = let R = reached e in (R.0, λ sum z Z. bounds_sum upward 2148 z (c *ℤ exact (taken c low high)) sum (term l u low high) Z R.1)
