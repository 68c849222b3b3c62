-- `lib.Ieee`'s comparisons of finite doubles are those of their exact values, and the infinities stand at the ends. Assumes nothing.
use mathlib.Core.Path.{◌≡◌, refl, sym, ap, ◌∙◌, subst}
use mathlib.Core.Logic.{◌↔◌, ⊎_elim}
use mathlib.Core.Bool.{Bool, true, false, not, ◌&&◌, ◌||◌}
use Prim.Native.Nat.{ℕ, ◌+◌, ◌*◌, ◌^◌, ◌<◌}
use native.Mathlib.Nat.{le_of_eq, lt_of_lt_of_le, lt_of_le_of_lt, mul-pos, mul-lt-mul_of_pos_right, lt_of_mul-lt-mul_right, eq_of_mul-eq-mul_right}
use native.Mathlib.Omega.{arith}
use lib.IntN.{ℤ}
use lib.Signed.{lt_z, lt_z_yes}
use lib.Dec.{T, eqb, ltb→lt, lt→ltb, eqb→eq}
use lib.Pow.{pow_pos}
use lib.Ieee.{Float, nan, inf, fin, binary64, up, down, lt, le, eq, fits, is_nan, level}
use lib.Ieee.{below as is_below}
use lib.Ieee.Fits.{down_pos, and_i, and_l, and_r, eq→eqb}
use lib.Ieee.Scale.{finite}
use mir.Facts.{or_yes}
use Rattle.exact.specs.Value.{sign, magnitude, signed, exact}
use Rattle.exact.specs.Integers.{◌≼◌, ◌≺◌}
use Rattle.exact.proofs.Difference.{differences}
use Rattle.exact.proofs.Order.{≼_of_≺, ≼_or_≺, ≼_antisym, ≼_refl, ≼_trans}
use Rattle.exact.proofs.Signed.{above, below, SignedLt, signed_≺}
use Rattle.exact.proofs.Values.{Whole, whole, exact_is, common}

-- ---- the tests of signs and magnitudes, as facts of naturals
below_is : (s : Bool) (a : ℕ) (t : Bool) (b : ℕ) → T (is_below s a t b) ↔ SignedLt s a t b
below_is false a false b = (λ h. omega (arith, ltb→lt a b h), λ h. lt→ltb a b (omega arith))
below_is false a true b = (λ h. absurd h, λ h. omega arith)
below_is true a false b = (λ h. omega (arith, ltb→lt 0 (a + b) h), λ h. lt→ltb 0 (a + b) (omega arith))
below_is true a true b = (λ h. omega (arith, ltb→lt b a h), λ h. lt→ltb b a (omega arith))

abbrev SignedEq : Bool → ℕ → Bool → ℕ → Type 0
SignedEq s a t b = above s a + below t b ≡ above t b + below s a

level_is : (s : Bool) (a : ℕ) (t : Bool) (b : ℕ) → T (level s a t b) ↔ SignedEq s a t b
level_is s a t b = go s t
  where
    same : T (eqb a b && true) ↔ (a ≡ b)
    same = (λ h. eqb→eq a b (and_l (eqb a b) true h), λ h. and_i (eqb a b) true (eq→eqb h) tt)

    zeros : T (eqb a b && eqb a 0) ↔ ((a ≡ b) × (a ≡ 0))
    zeros = (λ h. (eqb→eq a b (and_l (eqb a b) (eqb a 0) h), eqb→eq a 0 (and_r (eqb a b) (eqb a 0) h)), λ h. and_i (eqb a b) (eqb a 0) (eq→eqb h.0) (eq→eqb h.1))

    go : (s t : Bool) → T (level s a t b) ↔ SignedEq s a t b
    go false false = (λ h. omega (arith, same.0 h), λ h. same.1 (omega arith))
    go true true = (λ h. omega (arith, same.0 h), λ h. same.1 (omega arith))
    go false true = (λ h. omega (arith, zeros.0 h), λ h. zeros.1 (omega arith))
    go true false = (λ h. omega (arith, zeros.0 h), λ h. zeros.1 (omega arith))

signed_≡ : (s : Bool) (a : ℕ) (t : Bool) (b : ℕ) → (signed s a ≡ signed t b) ↔ SignedEq s a t b
signed_≡ false a false b = simp differences (λ h. omega arith, λ h. omega arith)
signed_≡ false a true b = simp differences (λ h. omega arith, λ h. omega arith)
signed_≡ true a false b = simp differences (λ h. omega arith, λ h. omega arith)
signed_≡ true a true b = simp differences (λ h. omega arith, λ h. omega arith)

-- ---- they do not change where both magnitudes change in the same ratio
lt_ratio : (L C x y p q : ℕ) → 0 < L → x * L ≡ p * C → y * L ≡ q * C → x < y → p < q
lt_ratio L C x y p q 0<L h k l = lt_of_mul-lt-mul_right C (lt_of_le_of_lt (le_of_eq (sym h)) (lt_of_lt_of_le (mul-lt-mul_of_pos_right l 0<L) (le_of_eq k)))

eq_ratio : (L C x y p q : ℕ) → 0 < C → x * L ≡ p * C → y * L ≡ q * C → x ≡ y → p ≡ q
eq_ratio L C x y p q 0<C h k e = eq_of_mul-eq-mul_right C 0<C p q (sym h ∙ ap (λ (z : ℕ). z * L) e ∙ k)

-- the two sides of SignedLt and SignedEq change in that ratio
side : (L C : ℕ) (s : Bool) (a m : ℕ) (t : Bool) (b n : ℕ) → a * L ≡ m * C → b * L ≡ n * C → (above s a + below t b) * L ≡ (above s m + below t n) * C
side L C false a m false b n h k = omega arith
side L C false a m true b n h k = omega arith
side L C true a m false b n h k = omega arith
side L C true a m true b n h k = omega arith

module _ (L C : ℕ) (0<L : 0 < L) (0<C : 0 < C) (s : Bool) (a m : ℕ) (t : Bool) (b n : ℕ) (h : a * L ≡ m * C) (k : b * L ≡ n * C) where
  left : (above s a + below t b) * L ≡ (above s m + below t n) * C
  left = side L C s a m t b n h k

  right : (above t b + below s a) * L ≡ (above t n + below s m) * C
  right = side L C t b n s a m k h

  signed_lt_ratio : SignedLt s a t b ↔ SignedLt s m t n
  signed_lt_ratio = (lt_ratio L C _ _ _ _ 0<L left right, lt_ratio C L _ _ _ _ 0<C (sym left) (sym right))

  signed_eq_ratio : SignedEq s a t b ↔ SignedEq s m t n
  signed_eq_ratio = (eq_ratio L C _ _ _ _ 0<C left right, eq_ratio C L _ _ _ _ 0<L (sym left) (sym right))

-- ---- the comparisons, from the values' signs and magnitudes
lt_is : (x y : Float) → Whole x → Whole y → T (lt x y) ↔ SignedLt (sign x) (magnitude x) (sign y) (magnitude y)
unfolding lt
lt_is nan y u v = absurd u.has
lt_is (inf s) y u v = absurd u.has
lt_is (fin s m e) nan u v = absurd v.has
lt_is (fin s m e) (inf t) u v = absurd v.has
lt_is (fin s m e) (fin t n d) u v =
    let c = common s m e t n d u v in
    let b = below_is s (m * up e * down d) t (n * up d * down e) in
    let r = signed_lt_ratio (2 ^ 1074) (down e * down d) (pow_pos 1074) (mul-pos (down_pos e) (down_pos d))
    s (m * up e * down d) (magnitude (fin s m e)) t (n * up d * down e) (magnitude (fin t n d)) c.0 c.1 in
    (λ h. r.0 (b.0 h), λ h. b.1 (r.1 h))

eq_is : (x y : Float) → Whole x → Whole y → T (eq x y) ↔ SignedEq (sign x) (magnitude x) (sign y) (magnitude y)
unfolding eq
eq_is nan y u v = absurd u.has
eq_is (inf s) y u v = absurd u.has
eq_is (fin s m e) nan u v = absurd v.has
eq_is (fin s m e) (inf t) u v = absurd v.has
eq_is (fin s m e) (fin t n d) u v =
    let c = common s m e t n d u v in
    let b = level_is s (m * up e * down d) t (n * up d * down e) in
    let r = signed_eq_ratio (2 ^ 1074) (down e * down d) (pow_pos 1074) (mul-pos (down_pos e) (down_pos d))
    s (m * up e * down d) (magnitude (fin s m e)) t (n * up d * down e) (magnitude (fin t n d)) c.0 c.1 in
    (λ h. r.0 (b.0 h), λ h. b.1 (r.1 h))

pub same_bool : (a b : Bool) → (T a → T b) → (T b → T a) → a ≡ b
same_bool true true f g = refl
same_bool false false f g = refl
same_bool true false f g = absurd (f tt)
same_bool false true f g = absurd (g tt)

or_l : (a b : Bool) → T a → T (a || b)
or_l true b t = tt
or_l false b t = absurd t

or_r : (a b : Bool) → T b → T (a || b)
or_r true b t = tt
or_r false b t = t

module _ (x y : Float) (fx : T (finite x)) (fy : T (finite y)) (hx : T (fits binary64 x)) (hy : T (fits binary64 y)) where
  pub lt_to : T (lt x y) → exact x ≺ exact y
  lt_to h = rw (exact_is x, exact_is y) ((signed_≺ (sign x) (magnitude x) (sign y) (magnitude y)).1 ((lt_is x y (whole x fx hx) (whole y fy hy)).0 h))

  pub lt_of : exact x ≺ exact y → T (lt x y)
  lt_of h = (lt_is x y (whole x fx hx) (whole y fy hy)).1 ((signed_≺ (sign x) (magnitude x) (sign y) (magnitude y)).0 (rw (exact_is x, exact_is y) at h))

  pub lt-exact : lt x y ≡ lt_z (exact x) (exact y)
  lt-exact = same_bool (lt x y) (lt_z (exact x) (exact y)) (λ h. (lt_to h).lt) (λ h. lt_of (lt_z_yes h))

  pub eq_exact : T (eq x y) ↔ (exact x ≡ exact y)
  eq_exact =
      let e = eq_is x y (whole x fx hx) (whole y fy hy) in
      let f = signed_≡ (sign x) (magnitude x) (sign y) (magnitude y) in
      (λ h. exact_is x ∙ f.1 (e.0 h) ∙ sym (exact_is y), λ h. e.1 (f.0 (sym (exact_is x) ∙ h ∙ exact_is y)))

  pub le-exact : T (le x y) ↔ (exact x ≼ exact y)
  unfolding le
  le-exact = (
    λ h. ⊎_elim (λ l. ≼_of_≺ (lt_to l)) (λ e. subst (λ (z : ℤ). exact x ≼ z) (eq_exact.0 e) (≼_refl (exact x))) (or_yes (lt x y) (eq x y) h),
    λ h. ⊎_elim (λ k. or_r (lt x y) (eq x y) (eq_exact.1 (≼_antisym h k))) (λ l. or_l (lt x y) (eq x y) (lt_of l)) (≼_or_≺ (exact y) (exact x)),
  )

-- ---- infinities stand at the ends of the order
pub le_top : (x : Float) → T (not (is_nan x)) → T (le x (inf false))
unfolding le lt eq is_nan
le_top nan h = absurd h
le_top (inf true) h = tt
le_top (inf false) h = tt
le_top (fin s m e) h = tt

pub le_bottom : (x : Float) → T (not (is_nan x)) → T (le (inf true) x)
unfolding le lt eq is_nan
le_bottom nan h = absurd h
le_bottom (inf true) h = tt
le_bottom (inf false) h = tt
le_bottom (fin s m e) h = tt

-- ---- the order of all doubles: numbers in order are no NaN
pub le_no_nan : (x y : Float) → T (le x y) → T (not (is_nan x)) × T (not (is_nan y))
unfolding le lt eq is_nan
le_no_nan nan y h = absurd h
le_no_nan (inf s) nan h = absurd h
le_no_nan (inf s) (inf t) h = (tt, tt)
le_no_nan (inf s) (fin t n d) h = (tt, tt)
le_no_nan (fin s m e) nan h = absurd h
le_no_nan (fin s m e) (inf t) h = (tt, tt)
le_no_nan (fin s m e) (fin t n d) h = (tt, tt)

-- no number but a NaN is out of order with itself
pub le_same : (x : Float) → T (not (is_nan x)) → T (fits binary64 x) → T (le x x)
unfolding is_nan
le_same nan t h = absurd t
le_same (inf true) t h = le_bottom (inf true) tt
le_same (inf false) t h = le_top (inf false) tt
le_same (fin s m e) t h = let x = fin s m e in (le-exact x x tt tt h h).1 (≼_refl (exact x))

-- it can be followed
pub le_trans : (x y z : Float) → T (fits binary64 x) → T (fits binary64 y) → T (fits binary64 z) → T (le x y) → T (le y z) → T (le x z)
unfolding le lt eq
le_trans nan y z hx hy hz o p = absurd o
le_trans (inf true) y z hx hy hz o p = le_bottom z (le_no_nan y z p).1
le_trans (inf false) nan z hx hy hz o p = absurd o
le_trans (inf false) (inf true) z hx hy hz o p = absurd o
le_trans (inf false) (inf false) z hx hy hz o p = p
le_trans (inf false) (fin t n d) z hx hy hz o p = absurd o
le_trans (fin s m e) nan z hx hy hz o p = absurd o
le_trans (fin s m e) (inf true) z hx hy hz o p = absurd o
le_trans (fin s m e) (inf false) nan hx hy hz o p = absurd p
le_trans (fin s m e) (inf false) (inf true) hx hy hz o p = absurd p
le_trans (fin s m e) (inf false) (inf false) hx hy hz o p = tt
le_trans (fin s m e) (inf false) (fin r k c) hx hy hz o p = absurd p
le_trans (fin s m e) (fin t n d) nan hx hy hz o p = absurd p
le_trans (fin s m e) (fin t n d) (inf true) hx hy hz o p = absurd p
le_trans (fin s m e) (fin t n d) (inf false) hx hy hz o p = tt
le_trans (fin s m e) (fin t n d) (fin r k c) hx hy hz o p =
    (le-exact (fin s m e) (fin r k c) tt tt hx hz).1 (≼_trans ((le-exact (fin s m e) (fin t n d) tt tt hx hy).0 o) ((le-exact (fin t n d) (fin r k c) tt tt hy hz).0 p))
