-- Laws of digits that the proof of `number` cites. Assumes nothing.
use Rattle.std.proofs.Common.{◌≡◌, refl, ◌∙◌, List, ℕ, zero, suc, ◌+◌, ◌-◌, ◌*◌, ◌^◌, ◌<◌, ◌≤◌, length, get_or, Option, None, Some, arith, add-one, drop}
use Rattle.std.proofs.Math.Nat.{pow-suc, pow-le-pow_right}
use Rattle.std.proofs.Math.ListN.{get_or-eq_default}
use Rattle.std.proofs.lemmas.List.{get_or-take, get_or-drop}
use Rattle.std.specs.List.{slice_range}
use Rattle.std.specs.Option.{option_and_then}
use Rattle.std.proofs.lemmas.Bool.Decides.{nat_tests}
use Rattle.hex_digits.specs.Digit.{digit_of}
use Rattle.tables.specs.Table.{digits}

-- a digit is below 16
pub digit_small : (c d : ℕ) → digit_of c ≡ Some d → d < 16
digit_small c d e = grind (arith, nat_tests)

-- a digit more, and a byte that is none
pub digits_more : (s : List ℕ) (left v at d : ℕ) → 0 < left → digit_of (get_or s at 0) ≡ Some d
    → digits s left v at ≡ digits s (left - 1) (v * 16 + d) (at + 1)
unfolding digits
digits_more s zero v at d h e = absurd (omega arith)
digits_more s (suc left) v at d h e = let k : suc left - 1 ≡ left = omega arith in rw (e, k)

pub digits_none : (s : List ℕ) (left v at : ℕ) → 0 < left → digit_of (get_or s at 0) ≡ None → digits s left v at ≡ None
unfolding digits
digits_none s zero v at h e = absurd (omega arith)
digits_none s (suc left) v at h e = rw e

pub digits_end : (s : List ℕ) (v at : ℕ) → digits s 0 v at ≡ Some v
unfolding digits
digits_end s v at = refl

-- where the bytes end before the last digit, one is missing
never : {A B : Type 0} (f : A → Option B) (o : Option A) → ((a : A) → f a ≡ None) → option_and_then f o ≡ None
never f None h = refl
never f (Some a) h = h a

pub digits_short : (s : List ℕ) (left v at : ℕ) → 0 < left → length s < at + left → digits s left v at ≡ None
unfolding digits
digits_short s zero v at h k = absurd (omega arith)
digits_short s (suc zero) v at h k = digits_none s 1 v at h (rw (get_or-eq_default s 0 {n = at} (omega arith)))
digits_short s (suc (suc left)) v at h k =
    never _ (digit_of (get_or s at 0)) (λ d. digits_short s (suc left) (v * 16 + d) (at + 1) (omega arith) (omega arith))

-- what k digits spell is below 16^k, and at most 16 of them fit 64 bits
pub digit_more : (v d k : ℕ) → v < 16 ^ k → d < 16 → v * 16 + d < 16 ^ (k + 1)
digit_more v d k hv hd = rw (add-one, pow-suc 16 k) (omega arith)

-- a byte of the 16 that stand from a place on
pub byte_from : (s rest field : List ℕ) (at k : ℕ) → rest ≡ slice_range s at (length s) → length rest + at ≡ length s → field ≡ slice_range rest 0 16
    → k < 16 → 16 ≤ length rest → get_or field k 0 ≡ get_or s (at + k) 0
byte_from s rest field at k e n f h b =
    let l : k < length s - at = omega arith in
    rw f (get_or-take 16 rest k 0 h ∙ rw e (get_or-take (length s - at) (drop at s) k 0 l ∙ get_or-drop at s k 0))

-- a turn of the loop: the digits that are left then
pub turn : (s : List ℕ) (at v k d : ℕ) → digits s 16 0 at ≡ digits s (16 - k) v (at + k) → k < 16 → digit_of (get_or s (at + k) 0) ≡ Some d
    → digits s 16 0 at ≡ digits s (16 - (k + 1)) (v * 16 + d) (at + (k + 1))
turn s at v k d e h f =
    let x : 16 - k - 1 ≡ 16 - (k + 1) = omega arith in
    let y : at + k + 1 ≡ at + (k + 1) = omega arith in
    e ∙ digits_more s (16 - k) v (at + k) d (omega arith) f ∙ rw (x, y)

pub fits_so_far : (v d k : ℕ) → v < 16 ^ k → d < 16 → k < 16 → v * 16 + d < 2 ^ 64
fits_so_far v d k h e b =
    let j : k + 1 ≤ 16 = omega arith in
    let m : 16 ^ (k + 1) ≤ 16 ^ 16 = pow-le-pow_right {n = 16} (omega arith) j in
    omega (arith, digit_more v d k h e, m)
