-- The literals, as the compiler works them out. Assumes nothing.
use mathlib.Core.Path.{◌≡◌, refl}
use lib.Ieee.{binary64, of_bits}
use Rattle.tolerances.specs.Tolerances.{roundoff_floor, unit_roundoff, half, four}

pub floor_is : of_bits binary64 0x3D06_849B_86A1_2B9B ≡ roundoff_floor
unfolding of_bits
floor_is = refl

pub unit_is : of_bits binary64 0x3CA0_0000_0000_0000 ≡ unit_roundoff
unfolding of_bits
unit_is = refl

pub half_is : of_bits binary64 0x3FE0_0000_0000_0000 ≡ half
unfolding of_bits
half_is = refl

pub four_is : of_bits binary64 0x4010_0000_0000_0000 ≡ four
unfolding of_bits
four_is = refl
