-- Document 01, "Sums checked by hand", the starred ones: what the definitions give, and the bits that 01 says. Assumes nothing.
use Rattle.std.specs.Prelude.{List, [], ◌∷◌, true, false, ℕ, ◌+◌, ◌^◌, pos, negsuc, Float}
use Rattle.std.specs.Float.{fin, binary64}
use Rattle.std.specs.Float.Ieee.{of_bits}
use Rattle.doubles.specs.Directed.{product_up, product_down}
use Rattle.cdouble.specs.Compensated.{two_sum, two_product, add_up, mul_up, compensated_error}
use Rattle.tolerances.specs.BandEdge.{band_edge}

pub record Example : Type 0 where
  pub given : Float
  pub bits : ℕ

-- 1, 2 and 4, 2 ^ -53, 1.5 times that, and -(2 ^ -54), 1 + 2 ^ -52, 2 ^ -600, and the largest double
abbrev one : Float
one = fin false 1 (pos 0)

abbrev two : Float
two = fin false 1 (pos 1)

abbrev four : Float
four = fin false 1 (pos 2)

abbrev half_ulp : Float
half_ulp = fin false 1 (negsuc 52)

abbrev more_than_half_ulp : Float
more_than_half_ulp = fin false 3 (negsuc 53)

abbrev minus_quarter_ulp : Float
minus_quarter_ulp = fin true 1 (negsuc 53)

abbrev one_ulp_more : Float
one_ulp_more = fin false (2 ^ 52 + 1) (negsuc 51)

abbrev tiny : Float
tiny = fin false 1 (negsuc 599)

abbrev MAX : Float
MAX = of_bits binary64 0x7FEF_FFFF_FFFF_FFFF

unfoldable pub starred : List Example
starred =
    -- "two_sum(1, 2^-53) = (1, 2^-53); add_up of them 3FF0000000000001"
    record { given = (two_sum one half_ulp).hi; bits = 0x3FF0_0000_0000_0000 }
    ∷ record { given = (two_sum one half_ulp).lo; bits = 0x3CA0_0000_0000_0000 }
    ∷ record { given = add_up one half_ulp; bits = 0x3FF0_0000_0000_0001 }
    -- "add_up(1, −2^-54) = 1; add_up(MAX, MAX) = +infinity"
    ∷ record { given = add_up one minus_quarter_ulp; bits = 0x3FF0_0000_0000_0000 }
    ∷ record { given = add_up MAX MAX; bits = 0x7FF0_0000_0000_0000 }
    -- "two_product(1 + 2^-52, itself) = (1 + 2^-51, 2^-104)"
    ∷ record { given = (two_product one_ulp_more one_ulp_more).hi; bits = 0x3FF0_0000_0000_0002 }
    ∷ record { given = (two_product one_ulp_more one_ulp_more).lo; bits = 0x3970_0000_0000_0000 }
    -- "mul_up(2^-600, 2^-600)", which request 5 of document 02 makes 0000000000000001; "rounded up 0000000000000001"
    ∷ record { given = mul_up tiny tiny; bits = 0x0000_0000_0000_0001 }
    ∷ record { given = product_up tiny tiny; bits = 0x0000_0000_0000_0001 }
    -- "MAX times 2: up +infinity, down MAX"
    ∷ record { given = product_up MAX two; bits = 0x7FF0_0000_0000_0000 }
    ∷ record { given = product_down MAX two; bits = 0x7FEF_FFFF_FFFF_FFFF }
    -- "band_edge(1, 1.5 times 2^-53, up) = 1; (MAX, MAX, up) = MAX"
    ∷ record { given = band_edge one more_than_half_ulp true; bits = 0x3FF0_0000_0000_0000 }
    ∷ record { given = band_edge MAX MAX true; bits = 0x7FEF_FFFF_FFFF_FFFF }
    -- "compensated_error(5, 2, 4) = 39F8000000000000"
    ∷ record { given = compensated_error 5 2 four; bits = 0x39F8_0000_0000_0000 }
    ∷ []
