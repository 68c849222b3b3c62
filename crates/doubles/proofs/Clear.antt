-- What `larger`, `smaller` and `absolute` keep: they give doubles, `larger` finite ones of finite ones, and of clear signs a clear sign. Assumes nothing.
use mathlib.Core.Path.{◌≡◌, refl}
use mathlib.Core.Bool.{Bool, true, false, cond}
use lib.Dec.{T}
use lib.Ieee.{Float, nan, inf, fin, binary64, fits, is_nan, lt}
use lib.Ieee.Fits.{cond-fits}
use lib.Ieee.Scale.{finite}
use Rattle.exact.specs.Value.{sign}
use Rattle.exact.proofs.Signs.{cond_clear}
use Rattle.doubles.specs.Compare.{absolute, larger, smaller}
use Rattle.doubles.proofs.Tests.{fits-sign}

-- ---- the absolute value
pub finite-absolute : (x : Float) → finite (absolute x) ≡ finite x
unfolding absolute
finite-absolute nan = refl
finite-absolute (inf s) = refl
finite-absolute (fin s m e) = refl

pub absolute-fits : (x : Float) → T (fits binary64 x) → T (fits binary64 (absolute x))
unfolding absolute fits
absolute-fits nan h = tt
absolute-fits (inf s) h = tt
absolute-fits (fin s m e) h = fits-sign s false m e h

pub absolute_clear : (x : Float) → sign (absolute x) ≡ false
unfolding absolute
absolute_clear nan = refl
absolute_clear (inf s) = refl
absolute_clear (fin s m e) = refl

-- ---- the larger and the smaller: one of the two
module _ (a b : Float) where
  pub larger-fits : T (fits binary64 a) → T (fits binary64 b) → T (fits binary64 (larger a b))
  unfolding larger
  larger-fits h k = cond-fits binary64 (is_nan a) b (cond (lt a b) b a) k (cond-fits binary64 (lt a b) b a k h)

  pub smaller-fits : T (fits binary64 a) → T (fits binary64 b) → T (fits binary64 (smaller a b))
  unfolding smaller
  smaller-fits h k = cond-fits binary64 (is_nan a) b (cond (lt b a) b a) k (cond-fits binary64 (lt b a) b a k h)

  pub larger_clear : sign a ≡ false → sign b ≡ false → sign (larger a b) ≡ false
  unfolding larger
  larger_clear h k = cond_clear (is_nan a) b (cond (lt a b) b a) k (cond_clear (lt a b) b a k h)

  pub smaller_clear : sign a ≡ false → sign b ≡ false → sign (smaller a b) ≡ false
  unfolding smaller
  smaller_clear h k = cond_clear (is_nan a) b (cond (lt b a) b a) k (cond_clear (lt b a) b a k h)

  pub larger-finite : T (finite a) → T (finite b) → T (finite (larger a b))
  unfolding larger
  larger-finite f g = either (is_nan a) b (cond (lt a b) b a) g (either (lt a b) b a g f)
    where
      either : (q : Bool) (x y : Float) → T (finite x) → T (finite y) → T (finite (cond q x y))
      either true x y f g = f
      either false x y f g = g
