-- What the code's test for a NaN says. Assumes nothing.
use mathlib.Core.Path.{◌≡◌, refl, sym}
use mathlib.Core.Bool.{true, true≢false}
use lib.Ieee.{Float, nan, inf, fin, is_nan}

pub nan_is : (x : Float) → is_nan x ≡ true → x ≡ nan
unfolding is_nan
nan_is nan e = refl
nan_is (inf s) e = absurd (true≢false (sym e))
nan_is (fin s m d) e = absurd (true≢false (sym e))
