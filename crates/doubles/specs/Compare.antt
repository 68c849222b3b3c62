-- Absolute value, and the larger and the smaller of two doubles. Assumes nothing.
use Rattle.std.specs.Prelude.{false, cond, Float}
use Rattle.std.specs.Float.{nan, inf, fin}
use Rattle.std.specs.Float.Ieee.{lt, is_nan}

-- the sign cleared
unfoldable pub absolute : Float → Float
absolute nan = nan
absolute (inf s) = inf false
absolute (fin s m e) = fin false m e

-- 01: "max and min with one NaN return the other". Of two equal ones, as +0 and −0 are, the first: Rust leaves that open
unfoldable pub larger : Float → Float → Float
larger a b = cond (is_nan a) b (cond (lt a b) b a)

-- the same with the test turned
unfoldable pub smaller : Float → Float → Float
smaller a b = cond (is_nan a) b (cond (lt b a) b a)
