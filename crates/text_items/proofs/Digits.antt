-- Reading digits: how they go on and end, and that what they spell fits 64 bits. Assumes nothing.
use mathlib.Core.Path.{◌≡◌, refl}
use mathlib.Core.List.{List}
use mathlib.Core.Bool.{cond}
use mathlib.Core.Logic.{◌⊎◌, inl, inr}
use Prim.Native.Nat.{ℕ, zero, suc, ◌+◌, ◌-◌, ◌*◌, ◌^◌, ◌<◌, ◌≤◌}
use native.Mathlib.Nat.{pow-suc, pow-le-pow_right, mul-le-mul_left}
use native.Mathlib.Numerals.{add-one}
use native.Mathlib.Omega.{arith}
use lib.ListN.{length}
use Rattle.std.specs.Prelude.{Option, None, Some, option_and_then, slice_get}
use Rattle.std.proofs.lemmas.Option.{slice_get_within, cond_some}
use borrow.Author.Tests.{ltb-true}
use lib.Dec.{ltb, eqb}
use Rattle.hex_digits.specs.Digit.{digit_of}
use Rattle.text_items.specs.Numbers.{below, digit_at, digits, at_least_one, number}

-- a digit stands below the end, and is below the radix
below_within : (text : List ℕ) (radix p d : ℕ) (o : Option ℕ) → slice_get text p ≡ o → below radix (option_and_then digit_of o) ≡ Some d → (p < length text) × (d < radix)
below_within text radix p d None g e = let z : ◌≡◌ {A = ℕ} 0 1 = cc in absurd (omega arith)
below_within text radix p d (Some c) g e = (slice_get_within text p c g, below_is (digit_of c) e)
  where
    below_is : (o : Option ℕ) → below radix o ≡ Some d → d < radix
    below_is None e = let z : ◌≡◌ {A = ℕ} 0 1 = cc in absurd (omega arith)
    below_is (Some x) e = let k = cond_some (ltb x radix) x d e in rw (← k.1) (ltb-true x radix k.0)

pub digit_within : (text : List ℕ) (radix p d : ℕ) → digit_at text radix p ≡ Some d → (p < length text) × (d < radix)
unfolding digit_at
digit_within text radix p d e = below_within text radix p d (slice_get text p) refl e

-- the digits go on, and end
pub digits_more : (text : List ℕ) (radix left v p d : ℕ) → 0 < left → digit_at text radix p ≡ Some d
    → digits text radix left v p ≡ digits text radix (left - 1) (v * radix + d) (p + 1)
unfolding digits
digits_more text radix zero v p d h e = absurd (omega arith)
digits_more text radix (suc left) v p d h e = let k : suc left - 1 ≡ left = omega arith in rw (k, e, digits)

digits_end : (text : List ℕ) (radix left v p : ℕ) → (left ≡ 0) ⊎ (digit_at text radix p ≡ None) → digits text radix left v p ≡ (v, p)
unfolding digits
digits_end text radix zero v p w = refl
digits_end text radix (suc left) v p (inl e) = absurd (omega arith)
digits_end text radix (suc left) v p (inr e) = rw (e, digits)

-- the number at a position, from digits that were read up to their end
pub number_is : (text : List ℕ) (radix most left v p : ℕ) {position : Option ℕ} {start : ℕ} → position ≡ Some start → digits text radix most 0 start ≡ digits text radix left v p
    → (left ≡ 0) ⊎ (digit_at text radix p ≡ None) → number text position radix most ≡ record { value = v; next = cond (eqb p start) None (Some p) }
unfolding number at_least_one
number_is text radix most left v p s e w = rw (s, e, digits_end text radix left v p w)

-- what k digits spell is below 16^k, and at most 16 of them fit 64 bits
digit_more : (v radix d k : ℕ) → v < 16 ^ k → radix ≤ 16 → d < radix → v * radix + d < 16 ^ suc k
digit_more v radix d k hv small hd =
    let a : v * radix ≤ v * 16 = mul-le-mul_left v small in
    let b : 16 ^ suc k ≡ 16 ^ k * 16 = pow-suc 16 k in
    omega arith

pow_fits : (k : ℕ) → k ≤ 16 → 16 ^ k ≤ 2 ^ 64
pow_fits k h = pow-le-pow_right {n = 16} (omega arith) h

-- a digit more of at most 16
pub turn : (text : List ℕ) (radix p d : ℕ) {v k : ℕ} → digit_at text radix p ≡ Some d → v < 16 ^ k → radix ≤ 16 → k < 16
    → (v * radix + d < 16 ^ (k + 1)) × (v * radix + d < 2 ^ 64)
turn text radix p d {v} {k} e h small more =
    let w = digit_within text radix p d e in
    let m : v * radix + d < 16 ^ suc k = digit_more v radix d k h small w.1 in
    (rw (add-one k) m, omega (arith, pow_fits (suc k) (omega arith)))
