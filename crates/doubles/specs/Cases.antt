-- The cases of a double, and its neighbours in each: document 02, ticket 3. Magnitudes are in units of 2 ^ -1074. Assumes nothing.
use Rattle.std.specs.Prelude.{◌≡◌, Bool, true, false, cond, ℕ, ◌+◌, ◌-◌, ◌*◌, ◌^◌, ◌≤◌, ◌<◌, ℤ, pos, negsuc, T, eqb, Float}
use Rattle.std.specs.Int.{IsPowerOfTwo}
use Rattle.std.specs.Float.{nan, inf, fin, binary64}
use Rattle.std.specs.Float.Ieee.{fits, neg, size}
use Rattle.std.specs.Float.Ieee.Scale.{finite}
use Rattle.exact.specs.Value.{sign, magnitude, exact}
use Rattle.doubles.specs.Neighbours.{next_up, next_down}
use Rattle.doubles.specs.declared.Case.{Case}
use Rattle.doubles.specs.declared.Case.TheVariants.{Nan, Infinity, Zero, SmallestSubnormal, LargestSubnormal, PowerOfTwo, Max, Rest}

-- the largest subnormal, and MAX
abbrev pub largest_subnormal : ℕ
largest_subnormal = 2 ^ 52 - 1

abbrev pub max : ℕ
max = (2 ^ 53 - 1) * 2 ^ 2045

-- finite, and of n units
pub record Size (n : ℕ) (x : Float) : Type 0 where
  pub is_finite : T (finite x)
  pub units : magnitude x ≡ n

-- m 2 ^ k units, as every finite double is: the digits m have their leading one, but for the least exponent
pub record Steps (m k : ℕ) : Type 0 where
  pub digits : m < 2 ^ 53
  pub most : k ≤ 2045
  pub leading : 0 < k → 2 ^ 52 ≤ m

-- what it is to be in a case: "NaN, each infinity, each zero, smallest subnormals, largest subnormals, powers of two, MAX, the rest", "either sign"
abbrev pub InCase : Case → Float → Type 0
InCase Nan x = x ≡ nan
InCase Infinity x = (s : Bool) × (x ≡ inf s)
InCase Zero x = Size 0 x
InCase SmallestSubnormal x = Size 1 x
InCase LargestSubnormal x = Size largest_subnormal x
InCase PowerOfTwo x = T (finite x) × IsPowerOfTwo (magnitude x)
InCase Max x = Size max x
InCase Rest x = (m : ℕ) × (k : ℕ) × Steps m k × Size (m * 2 ^ k) x

-- their order
abbrev pub place : Case → ℕ
place Nan = 0
place Infinity = 1
place Zero = 2
place SmallestSubnormal = 3
place LargestSubnormal = 4
place PowerOfTwo = 5
place Max = 6
place Rest = 7

-- "the first that fits"
pub record First (c : Case) (x : Float) : Type 0 where
  pub here : InCase c x
  pub not_before : (d : Case) → place d < place c → InCase d x → ⊥

-- the same, worked out: a finite double's by its magnitude
abbrev pub of_magnitude : ℕ → Case
of_magnitude n =
    cond (eqb n 0) Zero
    (cond (eqb n 1) SmallestSubnormal
    (cond (eqb n largest_subnormal) LargestSubnormal
    (cond (eqb n (2 ^ (size n - 1))) PowerOfTwo
    (cond (eqb n max) Max Rest))))

unfoldable pub first_case : Float → Case
first_case nan = Nan
first_case (inf s) = Infinity
first_case (fin s m e) = of_magnitude (magnitude (fin s m e))

-- finite, and exactly z units
abbrev pub Value : ℤ → Float → Type 0
Value z y = T (finite y) × (exact y ≡ z)

-- "what value next up and next down answer": of a double of sign +, in its case, with n units, y is next up …
abbrev pub Above : Case → ℕ → Float → Type 0
Above Nan n y = y ≡ nan
Above Infinity n y = y ≡ inf false
Above Zero n y = Value (pos 1) y
Above SmallestSubnormal n y = Value (pos 2) y
Above LargestSubnormal n y = Value (pos (2 ^ 52)) y
Above PowerOfTwo n y = (j : ℕ) → n ≡ 2 ^ j → Value (pos (2 ^ j + 2 ^ (j - 52))) y
Above Max n y = y ≡ inf false
Above Rest n y = (m k : ℕ) → Steps m k → n ≡ m * 2 ^ k → Value (pos ((m + 1) * 2 ^ k)) y

-- … and y is next down; below the smallest subnormal it is +0
abbrev pub Below : Case → ℕ → Float → Type 0
Below Nan n y = y ≡ nan
Below Infinity n y = Value (pos max) y
Below Zero n y = Value (negsuc 0) y
Below SmallestSubnormal n y = y ≡ fin false 0 (pos 0)
Below LargestSubnormal n y = Value (pos (2 ^ 52 - 2)) y
Below PowerOfTwo n y = (j : ℕ) → n ≡ 2 ^ j → Value (pos (2 ^ j - 2 ^ (j - 53))) y
Below Max n y = Value (pos ((2 ^ 53 - 2) * 2 ^ 2045)) y
Below Rest n y = (m k : ℕ) → Steps m k → n ≡ m * 2 ^ k → Value (pos ((m - 1) * 2 ^ k)) y

-- of a double of sign s: for − next up is minus what next down is for +, and next down minus what next up is
abbrev pub Up : Bool → Case → ℕ → Float → Type 0
Up false c n y = Above c n y
Up true c n y = Below c n (neg y)

abbrev pub Down : Bool → Case → ℕ → Float → Type 0
Down false c n y = Below c n y
Down true c n y = Above c n (neg y)

-- "for each case by itself": of every double that has it for its first
abbrev pub UpIn : Case → Type 0
UpIn c = (x : Float) → T (fits binary64 x) → First c x → Up (sign x) c (magnitude x) (next_up x)

abbrev pub DownIn : Case → Type 0
DownIn c = (x : Float) → T (fits binary64 x) → First c x → Down (sign x) c (magnitude x) (next_down x)
