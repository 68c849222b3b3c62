-- The larger and the smaller of two doubles, and the absolute value: what they are among the values. Assumes nothing.
use mathlib.Core.Path.{◌≡◌, refl, sym, ap, ◌∙◌, subst}
use mathlib.Core.Logic.{inl, inr}
use mathlib.Core.Bool.{Bool, true, false, not, cond, true≢false}
use Prim.Native.Nat.{◌<◌}
use native.Mathlib.Nat.{le_refl, le_of_lt, not-le_of_lt}
use lib.Dec.{T, not_T, ltb, ltb→lt}
use lib.Signed.{lt_z}
use lib.Ieee.{Float, nan, inf, fin, binary64, fits, is_nan, lt, le}
use lib.Ieee.Bits.{is_false}
use lib.Ieee.Scale.{finite}
use Rattle.exact.specs.Value.{sign, magnitude, signed, exact}
use Rattle.exact.specs.Integers.{max_ℤ}
use Rattle.exact.proofs.Order.{≼_or_≺}
use Rattle.exact.proofs.Compare.{lt_of, lt-exact, le-exact, le_top, le_bottom}
use Rattle.doubles.specs.Compare.{absolute, larger, smaller}
use Rattle.doubles.proofs.Patterns.{rank_of, finite_no_nan}
use Rattle.doubles.proofs.Keys.{key, lt_key}

-- ---- b where a is a NaN or the test passes, otherwise a: `larger` and `smaller` differ in the test
abbrev chosen : Bool → Float → Float → Float
chosen q a b = cond (is_nan a) b (cond q b a)

chosen_is : {q r : Bool} (a b : Float) → T (not (is_nan a)) → q ≡ r → cond r b a ≡ chosen q a b
chosen_is {q} {r} a b t e = sym (ap (λ (n : Bool). cond n b (cond q b a)) (is_false (is_nan a) t) ∙ ap (λ (n : Bool). cond n b a) e)

pub larger-nan : (a b : Float) → a ≡ nan → b ≡ larger a b
unfolding larger is_nan
larger-nan a b e = sym (ap (λ (x : Float). larger x b) e)

pub larger_by : {r : Bool} (a b : Float) → T (not (is_nan a)) → lt a b ≡ r → cond r b a ≡ larger a b
unfolding larger
larger_by a b = chosen_is a b

pub smaller-nan : (a b : Float) → a ≡ nan → b ≡ smaller a b
unfolding smaller is_nan
smaller-nan a b e = sym (ap (λ (x : Float). smaller x b) e)

pub smaller_by : {r : Bool} (a b : Float) → T (not (is_nan a)) → lt b a ≡ r → cond r b a ≡ smaller a b
unfolding smaller
smaller_by a b = chosen_is a b

-- no comparison with a NaN is true
pub lt-nan_r : (a b : Float) → b ≡ nan → lt a b ≡ false
unfolding lt
lt-nan_r a b e = ap (lt a) e ∙ go a
  where
    go : (a : Float) → lt a nan ≡ false
    go nan = refl
    go (inf s) = refl
    go (fin s m d) = refl

pub lt-nan_l : (a b : Float) → a ≡ nan → lt a b ≡ false
unfolding lt
lt-nan_l a b e = ap (λ (x : Float). lt x b) e

-- with one NaN the other
pub larger-nan_l : (b : Float) → larger nan b ≡ b
larger-nan_l b = sym (larger-nan nan b refl)

pub larger-nan_r : (a : Float) → T (not (is_nan a)) → larger a nan ≡ a
larger-nan_r a t = sym (larger_by a nan t (lt-nan_r a nan refl))

pub smaller-nan_l : (b : Float) → smaller nan b ≡ b
smaller-nan_l b = sym (smaller-nan nan b refl)

pub smaller-nan_r : (a : Float) → T (not (is_nan a)) → smaller a nan ≡ a
smaller-nan_r a t = sym (smaller_by a nan t (lt-nan_l nan a refl))

-- ---- the order
-- what is not less is not below
pub le_of_not_lt : (a b : Float) → T (not (is_nan a)) → T (not (is_nan b)) → T (fits binary64 a) → T (fits binary64 b) → lt b a ≡ false → T (le a b)
unfolding is_nan lt
le_of_not_lt nan b t u h k e = absurd t
le_of_not_lt (inf true) b t u h k e = le_bottom b u
le_of_not_lt (inf false) nan t u h k e = absurd u
le_of_not_lt (inf false) (inf true) t u h k e = absurd (true≢false e)
le_of_not_lt (inf false) (inf false) t u h k e = le_top (inf false) tt
le_of_not_lt (inf false) (fin r n d) t u h k e = absurd (true≢false e)
le_of_not_lt (fin s m c) nan t u h k e = absurd u
le_of_not_lt (fin s m c) (inf true) t u h k e = absurd (true≢false e)
le_of_not_lt (fin s m c) (inf false) t u h k e = le_top (fin s m c) tt
le_of_not_lt (fin s m c) (fin r n d) t u h k e =
    let a = fin s m c in
    let b = fin r n d in
    elim (≼_or_≺ (exact a) (exact b)) [
      | inl o ↦ (le-exact a b tt tt h k).1 o
      | inr o ↦ absurd (subst T e (lt_of b a tt tt k h o))
    ]

lt_asym : (a b : Float) → T (not (is_nan a)) → T (not (is_nan b)) → T (fits binary64 a) → T (fits binary64 b) → lt a b ≡ true → lt b a ≡ false
lt_asym a b t u h k e =
    let x = key (sign a) (rank_of a) in
    let y = key (sign b) (rank_of b) in
    let l : x < y = ltb→lt x y (subst T (sym (lt_key a b t u h k ∙ e)) tt) in
    sym (lt_key b a u t k h) ∙ is_false (ltb y x) (not_T (ltb y x) (λ q. not-le_of_lt l (le_of_lt (ltb→lt y x q))))

lt_irrefl : (a : Float) → T (not (is_nan a)) → T (fits binary64 a) → lt a a ≡ false
lt_irrefl a t h = let x = key (sign a) (rank_of a) in sym (lt_key a a t t h h) ∙ is_false (ltb x x) (not_T (ltb x x) (λ q. not-le_of_lt (ltb→lt x x q) (le_refl x)))

module _ (a b : Float) (t : T (not (is_nan a))) (u : T (not (is_nan b))) (h : T (fits binary64 a)) (k : T (fits binary64 b)) where
  -- ---- `larger` is one of the two, and neither is above it
  pub larger_most : T (le a (larger a b)) × T (le b (larger a b))
  larger_most = go (lt a b) refl
    where
      go : (q : Bool) → lt a b ≡ q → T (le a (larger a b)) × T (le b (larger a b))
      go true e =
          let is = larger_by a b t e in
          (subst (λ (x : Float). T (le a x)) is (le_of_not_lt a b t u h k (lt_asym a b t u h k e)), subst (λ (x : Float). T (le b x)) is (le_of_not_lt b b u u k k (lt_irrefl b u k)))
      go false e =
          let is = larger_by a b t e in
          (subst (λ (x : Float). T (le a x)) is (le_of_not_lt a a t t h h (lt_irrefl a t h)), subst (λ (x : Float). T (le b x)) is (le_of_not_lt b a u t k h e))

  -- ---- `smaller` is one of the two, and neither is below it
  pub smaller_least : T (le (smaller a b) a) × T (le (smaller a b) b)
  smaller_least = go (lt b a) refl
    where
      go : (q : Bool) → lt b a ≡ q → T (le (smaller a b) a) × T (le (smaller a b) b)
      go true e =
          let is = smaller_by a b t e in
          (subst (λ (x : Float). T (le x a)) is (le_of_not_lt b a u t k h (lt_asym b a u t k h e)), subst (λ (x : Float). T (le x b)) is (le_of_not_lt b b u u k k (lt_irrefl b u k)))
      go false e =
          let is = smaller_by a b t e in
          (subst (λ (x : Float). T (le x a)) is (le_of_not_lt a a t t h h (lt_irrefl a t h)), subst (λ (x : Float). T (le x b)) is (le_of_not_lt a b t u h k e))

-- ---- among finite values
pub larger-exact : (a b : Float) → T (finite a) → T (finite b) → T (fits binary64 a) → T (fits binary64 b) → exact (larger a b) ≡ max_ℤ (exact a) (exact b)
unfolding max_ℤ
larger-exact a b f g h k = sym (ap exact (larger_by a b (finite_no_nan a f) (lt-exact a b f g h k))) ∙ through (lt_z (exact a) (exact b))
  where
    through : (q : Bool) → exact (cond q b a) ≡ cond q (exact b) (exact a)
    through true = refl
    through false = refl

pub absolute-exact : (x : Float) → exact (absolute x) ≡ signed false (magnitude x)
unfolding absolute magnitude exact
absolute-exact nan = refl
absolute-exact (inf true) = refl
absolute-exact (inf false) = refl
absolute-exact (fin s m e) = refl
