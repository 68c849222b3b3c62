-- The examples hold, and what the cases say of magnitudes and of neighbours comes to the examples' numbers: each by computing. Assumes nothing.
use mathlib.Core.Path.{◌≡◌, refl}
use mathlib.Core.Bool.{true, false}
use mathlib.Core.List.{map}
use Prim.Native.Nat.{ℕ, ◌-◌, ◌*◌, ◌^◌, ◌<◌}
use native.Mathlib.Omega.{arith}
use lib.Dec.{lit<}
use lib.IntN.{pos, negsuc}
use lib.Ieee.{Float, nan, inf, fin, binary64, to_bits, of_bits, neg, size}
use Rattle.exact.specs.Value.{exact, magnitude}
use Rattle.doubles.specs.declared.Case.{Case}
use Rattle.doubles.specs.declared.Case.TheVariants.{Nan, Infinity, Zero, SmallestSubnormal, LargestSubnormal, PowerOfTwo, Max, Rest}
use Rattle.doubles.specs.Neighbours.{next_up, next_down}
use Rattle.doubles.specs.Cases.{Size, Steps, InCase, first_case, max, Up, Down}
use Rattle.doubles.proofs.PowersOfTwo.{power_of_two}
use Rattle.hand_sums.specs.NextTo.{Example, examples}
use Rattle.hand_sums.proofs.Starred.{arithmetic_computes, rounding_computes}

abbrev double : Example → Float
double e = of_bits binary64 e.given

pub cases_hold : map (λ (e : Example). first_case (double e)) examples ≡ map (λ (e : Example). e.case) examples
unfolding examples first_case arithmetic_computes rounding_computes
cases_hold = refl

pub ups_hold : map (λ (e : Example). to_bits binary64 (next_up (double e))) examples ≡ map (λ (e : Example). e.up) examples
unfolding examples arithmetic_computes rounding_computes
ups_hold = refl

pub downs_hold : map (λ (e : Example). to_bits binary64 (next_down (double e))) examples ≡ map (λ (e : Example). e.down) examples
unfolding examples arithmetic_computes rounding_computes
downs_hold = refl

-- ---- the cases' magnitudes
module _ (x : Float) where
  zero_units : InCase Zero x → magnitude x ≡ 0
  zero_units i = i.units

  smallest_units : InCase SmallestSubnormal x → magnitude x ≡ 1
  smallest_units i = i.units

  largest_units : InCase LargestSubnormal x → magnitude x ≡ 0xf_ffff_ffff_ffff
  largest_units i = i.units

  three_is_none : InCase PowerOfTwo x → magnitude x ≡ 3 → ⊥
  unfolding size
  three_is_none i e = (power_of_two 3).1 (rw (e) at i.1)

  max_units : InCase Max x → magnitude x ≡ 0x1f_ffff_ffff_ffff * 2 ^ 2045
  max_units i = i.units

-- the digits of the rest have no leading 0 but for the least exponent, and no exponent is past MAX's
no_leading : Steps 1 1 → ⊥
no_leading s = omega (arith, s.leading (omega arith))

no_exponent : Steps 1 2046 → ⊥
no_exponent s = omega (arith, s.most)

no_digits : Steps (2 ^ 53) 0 → ⊥
no_digits s = omega (arith, s.digits)

-- ---- the neighbours that a case leaves: at 2 ^ 53 units the step below is half the step above
module _ (y : Float) where
  nan_next : Up false Nan 0 y → y ≡ nan
  nan_next v = v

  infinity_next : Up false Infinity 0 y → y ≡ inf false
  infinity_next v = v

  minus_infinity_next : Up true Infinity 0 y → exact (neg y) ≡ pos max
  minus_infinity_next v = v.1

  zero_next : Up false Zero 0 y → exact y ≡ pos 1
  zero_next v = v.1

  zero_before : Down false Zero 0 y → exact y ≡ negsuc 0
  zero_before v = v.1

  smallest_next : Up false SmallestSubnormal 1 y → exact y ≡ pos 2
  smallest_next v = v.1

  below_zero_next : Up true SmallestSubnormal 1 y → neg y ≡ fin false 0 (pos 0)
  below_zero_next v = v

  largest_next : Up false LargestSubnormal (2 ^ 52 - 1) y → exact y ≡ pos 0x10_0000_0000_0000
  largest_next v = v.1

  largest_before : Down false LargestSubnormal (2 ^ 52 - 1) y → exact y ≡ pos 0xf_ffff_ffff_fffe
  largest_before v = v.1

  two_next : Up false PowerOfTwo 2 y → exact y ≡ pos 3
  two_next v = (v 1 refl).1

  two_before : Down false PowerOfTwo 2 y → exact y ≡ pos 1
  two_before v = (v 1 refl).1

  power_next : Up false PowerOfTwo (2 ^ 53) y → exact y ≡ pos 0x20_0000_0000_0002
  power_next v = (v 53 refl).1

  power_before : Down false PowerOfTwo (2 ^ 53) y → exact y ≡ pos 0x1f_ffff_ffff_ffff
  power_before v = (v 53 refl).1

  minus_power_next : Up true PowerOfTwo (2 ^ 53) y → exact (neg y) ≡ pos 0x1f_ffff_ffff_ffff
  minus_power_next v = (v 53 refl).1

  max_next : Up false Max max y → y ≡ inf false
  max_next v = v

  max_before : Down false Max max y → exact y ≡ pos (0x1f_ffff_ffff_fffe * 2 ^ 2045)
  max_before v = v.1

  three : Steps 3 0
  three = record { digits = lit< tt; most = omega arith; leading = λ p. absurd (omega arith) }

  three_next : Up false Rest 3 y → exact y ≡ pos 4
  three_next v = (v 3 0 three refl).1

  three_before : Down false Rest 3 y → exact y ≡ pos 2
  three_before v = (v 3 0 three refl).1
