-- Parts of a double: finite, not below 0 and not above it. Assumes nothing.
use Rattle.std.proofs.Common.{◌≡◌, ◌^◌, true, false, not, T, ℤ, pos, ◌-ℤ◌, neg_ℤ, sym, subst, true≢false, arith}
use lib.IntN.{*ℤ_comm}
use lib.Ieee.{Float, nan, inf, fin, binary64, fits, is_nan, neg, lt, le, eq}
use lib.Ieee.Fits.{neg-fits, sub-fits, mul-fits}
use lib.Ieee.Scale.{finite}
use Rattle.exact.specs.Value.{sign, exact}
use Rattle.exact.specs.Integers.{◌≼◌}
use Rattle.exact.proofs.Difference.{all, differences}
use Rattle.exact.proofs.Order.{≼_trans, *_mono, *_nonneg}
use Rattle.exact.proofs.Values.{exact-neg, finite-neg}
use Rattle.exact.proofs.Compare.{le-exact}
use Rattle.exact.proofs.Operations.{sub_nearest, mul_nearest}
use Rattle.exact.proofs.Between.{nearest_between, units_between}
use Rattle.exact.proofs.Signs.{exact_clear}
use Rattle.doubles.specs.Compare.{smaller}
use Rattle.doubles.proofs.Patterns.{finite_no_nan}
use Rattle.doubles.proofs.Choice.{smaller-nan_l, smaller_least}
use Rattle.doubles.proofs.Clear.{smaller-fits, smaller_clear}
use Rattle.cdouble.specs.Compensated.{◌⊖◌, ◌⊗◌, plus_zero}
use Rattle.cdouble.proofs.RoundedUp.{exact-zero, zero-fits}

-- y is a part of x
pub record Part (x y : Float) : Type 0 where
  pub is_finite : T (finite y)
  pub fit : T (fits binary64 y)
  pub low : pos 0 ≼ exact y
  pub high : exact y ≼ exact x

-- to take away what is not below 0 makes no more
less : (a b : ℤ) → pos 0 ≼ b → a -ℤ b ≼ a
less = all _ λ a a'. all _ λ b b'. simp differences (λ h. omega arith)

module _ (x : Float) (fx : T (finite x)) (hx : T (fits binary64 x)) where
  -- a multiple of it, by a number from 0 to 1
  pub multiple : (c : Float) → T (finite c) → T (fits binary64 c) → pos 0 ≼ exact c → exact c ≼ pos (2 ^ 1074) → pos 0 ≼ exact x → Part x (c ⊗ x)
  multiple c fc hc l h o =
      let v = nearest_between (mul_nearest c x fc fx hc hx) plus_zero x tt zero-fits fx hx (rw exact-zero (*_nonneg (exact c) (exact x) l o)) (rw (*ℤ_comm (exact c) (exact x)) (*_mono (exact x) (exact c) (pos (2 ^ 1074)) o h)) in
      record { is_finite = v.0; fit = mul-fits binary64 c x; low = rw exact-zero at v.1; high = v.2 }

  -- what is left of it without a part
  pub rest : (y : Float) → Part x y → Part x (x ⊖ y)
  rest y P =
      let v = units_between (sub_nearest x y fx P.is_finite hx P.fit) plus_zero x tt zero-fits fx hx (rw exact-zero (some (exact x) (exact y) P.high)) (less (exact x) (exact y) P.low) in
      record { is_finite = v.0; fit = sub-fits binary64 x y; low = rw exact-zero at v.1; high = v.2 }
    where
      some : (a b : ℤ) → b ≼ a → pos 0 ≼ a -ℤ b
      some = all _ λ a a'. all _ λ b b'. simp differences (λ h. omega arith)

  -- the difference of two parts
  pub apart : (y z : Float) → Part x y → Part x z → T (finite (y ⊖ z))
  apart y z P Q = (units_between (sub_nearest y z P.is_finite Q.is_finite P.fit Q.fit) (neg z) y (rw (finite-neg z) Q.is_finite) (neg-fits binary64 z Q.fit) P.is_finite P.fit (rw (exact-neg z) (more (exact y) (exact z) P.low)) (less (exact y) (exact z) Q.low)).0
    where
      more : (a b : ℤ) → pos 0 ≼ a → neg_ℤ b ≼ a -ℤ b
      more = all _ λ a a'. all _ λ b b'. simp differences (λ h. omega arith)

-- ---- the smaller of a part and any double with a clear sign
-- which is finite, for it lies between 0 and a finite one
finite_below : (x y : Float) → sign x ≡ false → T (le x y) → T (finite y) → T (finite x)
unfolding le lt eq
finite_below nan y c o f = absurd o
finite_below (inf true) y c o f = absurd (true≢false c)
finite_below (inf false) nan c o f = absurd f
finite_below (inf false) (inf t) c o f = absurd f
finite_below (inf false) (fin t n d) c o f = absurd o
finite_below (fin s m e) y c o f = tt

module _ (x y : Float) (P : Part x y) (cy : sign y ≡ false) where
  smaller-number : (a : Float) → T (not (is_nan a)) → T (fits binary64 a) → sign a ≡ false → Part x (smaller a y)
  smaller-number a t ha ca =
      let o : T (le (smaller a y) y) = (smaller_least a y t (finite_no_nan y P.is_finite) ha P.fit).1 in
      let c : sign (smaller a y) ≡ false = smaller_clear a y ca cy in
      let h : T (fits binary64 (smaller a y)) = smaller-fits a y ha P.fit in
      let f : T (finite (smaller a y)) = finite_below (smaller a y) y c o P.is_finite in
      record { is_finite = f; fit = h; low = exact_clear (smaller a y) c; high = ≼_trans ((le-exact (smaller a y) y f P.is_finite h P.fit).0 o) P.high }

  pub smaller-part : (a : Float) → T (fits binary64 a) → sign a ≡ false → Part x (smaller a y)
  unfolding is_nan
  smaller-part nan h c = subst (Part x) (sym (smaller-nan_l y)) P
  smaller-part (inf s) h c = smaller-number (inf s) tt h c
  smaller-part (fin s m e) h c = smaller-number (fin s m e) tt h c
