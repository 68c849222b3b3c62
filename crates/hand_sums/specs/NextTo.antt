-- Doubles of each case, by their bits: the first case that fits, and what next up and next down answer. Assumes nothing.
use Rattle.std.specs.Prelude.{List, [], ◌∷◌, ℕ}
use Rattle.doubles.specs.declared.Case.{Case}
use Rattle.doubles.specs.declared.Case.TheVariants.{Nan, Infinity, Zero, SmallestSubnormal, LargestSubnormal, PowerOfTwo, Max, Rest}

pub record Example : Type 0 where
  pub given : ℕ
  pub case : Case
  pub up : ℕ
  pub down : ℕ

unfoldable pub examples : List Example
examples =
    -- NaN, which has one pattern as an answer, and infinities
    record { given = 0x7FF8_0000_0000_0000; case = Nan; up = 0x7FF8_0000_0000_0000; down = 0x7FF8_0000_0000_0000 }
    ∷ record { given = 0xFFF0_0000_0000_0001; case = Nan; up = 0x7FF8_0000_0000_0000; down = 0x7FF8_0000_0000_0000 }
    ∷ record { given = 0x7FF0_0000_0000_0000; case = Infinity; up = 0x7FF0_0000_0000_0000; down = 0x7FEF_FFFF_FFFF_FFFF }
    ∷ record { given = 0xFFF0_0000_0000_0000; case = Infinity; up = 0xFFEF_FFFF_FFFF_FFFF; down = 0xFFF0_0000_0000_0000 }
    -- zeros and subnormals
    ∷ record { given = 0x0000_0000_0000_0000; case = Zero; up = 0x0000_0000_0000_0001; down = 0x8000_0000_0000_0001 }
    ∷ record { given = 0x8000_0000_0000_0000; case = Zero; up = 0x0000_0000_0000_0001; down = 0x8000_0000_0000_0001 }
    ∷ record { given = 0x0000_0000_0000_0001; case = SmallestSubnormal; up = 0x0000_0000_0000_0002; down = 0x0000_0000_0000_0000 }
    ∷ record { given = 0x8000_0000_0000_0001; case = SmallestSubnormal; up = 0x8000_0000_0000_0000; down = 0x8000_0000_0000_0002 }
    ∷ record { given = 0x000F_FFFF_FFFF_FFFF; case = LargestSubnormal; up = 0x0010_0000_0000_0000; down = 0x000F_FFFF_FFFF_FFFE }
    ∷ record { given = 0x800F_FFFF_FFFF_FFFF; case = LargestSubnormal; up = 0x800F_FFFF_FFFF_FFFE; down = 0x8010_0000_0000_0000 }
    ∷ record { given = 0x0000_0000_0000_0003; case = Rest; up = 0x0000_0000_0000_0004; down = 0x0000_0000_0000_0002 }
    -- powers of two: 2^-1073, 2^-1022, 2^-1021, -1, 2^1023
    ∷ record { given = 0x0000_0000_0000_0002; case = PowerOfTwo; up = 0x0000_0000_0000_0003; down = 0x0000_0000_0000_0001 }
    ∷ record { given = 0x0010_0000_0000_0000; case = PowerOfTwo; up = 0x0010_0000_0000_0001; down = 0x000F_FFFF_FFFF_FFFF }
    ∷ record { given = 0x0020_0000_0000_0000; case = PowerOfTwo; up = 0x0020_0000_0000_0001; down = 0x001F_FFFF_FFFF_FFFF }
    ∷ record { given = 0xBFF0_0000_0000_0000; case = PowerOfTwo; up = 0xBFEF_FFFF_FFFF_FFFF; down = 0xBFF0_0000_0000_0001 }
    ∷ record { given = 0x7FE0_0000_0000_0000; case = PowerOfTwo; up = 0x7FE0_0000_0000_0001; down = 0x7FDF_FFFF_FFFF_FFFF }
    -- MAX, and the rest
    ∷ record { given = 0x7FEF_FFFF_FFFF_FFFF; case = Max; up = 0x7FF0_0000_0000_0000; down = 0x7FEF_FFFF_FFFF_FFFE }
    ∷ record { given = 0xFFEF_FFFF_FFFF_FFFF; case = Max; up = 0xFFEF_FFFF_FFFF_FFFE; down = 0xFFF0_0000_0000_0000 }
    ∷ record { given = 0x3FFF_FFFF_FFFF_FFFF; case = Rest; up = 0x4000_0000_0000_0000; down = 0x3FFF_FFFF_FFFF_FFFE }
    ∷ record { given = 0xBFF0_0000_0000_0001; case = Rest; up = 0xBFF0_0000_0000_0000; down = 0xBFF0_0000_0000_0002 }
    ∷ []
