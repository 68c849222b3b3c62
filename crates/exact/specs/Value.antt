-- The exact value of a finite double: a whole number of units of 2 ^ -1074, the smallest double above 0. Every finite double is one.
-- Document 01, "Doubles and their neighbours": "Exact" means whole numbers times a power of two. Assumes nothing.
use Rattle.std.specs.Prelude.{Bool, true, false, ℕ, ◌*◌, ◌/◌, ◌^◌, ℤ, pos, neg_ℤ, ◌*ℤ◌, Float}
use Rattle.std.specs.Float.{nan, inf, fin}
use Rattle.std.specs.Float.Ieee.{up, down}

-- whether the sign bit is set; of a NaN it says nothing
abbrev pub sign : Float → Bool
sign nan = false
sign (inf s) = s
sign (fin s m e) = s

-- how many units a finite double is, without its sign; 0 where there is no such number
unfoldable pub magnitude : Float → ℕ
magnitude nan = 0
magnitude (inf s) = 0
magnitude (fin s m e) = m * up e * 2 ^ 1074 / down e

-- the integer of a sign and a magnitude
abbrev pub signed : Bool → ℕ → ℤ
signed false n = pos n
signed true n = neg_ℤ (pos n)

-- the exact value of a finite double, in units of 2 ^ -1074; of any other it is 0 and means nothing
unfoldable pub exact : Float → ℤ
exact x = signed (sign x) (magnitude x)

-- the exact value in units of 2 ^ -(1074 + l): a sum of two doubles is a whole number of these at l = 0, a product at l = 1074
abbrev pub exact_at : ℕ → Float → ℤ
exact_at l x = exact x *ℤ pos (2 ^ l)
