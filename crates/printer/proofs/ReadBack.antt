-- Printed numbers read back: no digit is lost and no leading zero is printed. Assumes nothing.
use mathlib.Core.Path.{◌≡◌, refl, ◌∙◌}
use mathlib.Core.Bool.{Bool, true, false, cond}
use mathlib.Core.List.{List, [], ◌∷◌, ◌++◌}
use Prim.Native.Nat.{ℕ, zero, suc, ◌+◌, ◌-◌, ◌*◌, ◌^◌, ◌/◌, ◌%◌, ◌<◌, ◌≤◌}
use native.Mathlib.Nat.{mod-lt, pow-zero, pow-suc, div-add-mod', div-lt_iff_lt-mul}
use native.Mathlib.Omega.{arith}
use borrow.Author.Tests.{lt-ltb, le-ltb, ltb-true, ltb-false}
use lib.Dec.{ltb}
use Rattle.printer.specs.Digits.{digit_byte, digits, digit_count, decimal}

-- the number that digits stand for
abbrev pub digit_of : ℕ → ℕ
digit_of byte = cond (ltb byte 58) (byte - 48) (byte - 55)

abbrev pub number_from : ℕ → ℕ → List ℕ → ℕ
number_from radix before [] = before
number_from radix before (byte ∷ rest) = number_from radix (before * radix + digit_of byte) rest

number_last : (radix before : ℕ) (bs : List ℕ) (b : ℕ) → number_from radix before (bs ++ (b ∷ [])) ≡ number_from radix before bs * radix + digit_of b
number_last radix before [] b = refl
number_last radix before (x ∷ bs) b = number_last radix (before * radix + digit_of x) bs b

digit_back : (d : ℕ) → d < 16 → digit_of (digit_byte d) ≡ d
digit_back d h = go (ltb d 10) refl
  where
    go : (t : Bool) → ltb d 10 ≡ t → digit_of (cond t (48 + d) (55 + d)) ≡ d
    go true e =
        let k : d < 10 = ltb-true d 10 e in
        let less : 48 + d < 58 = omega arith in
        rw (lt-ltb (48 + d) 58 less) (omega arith)
    go false e =
        let k : 10 ≤ d = ltb-false d 10 e in
        let more : 58 ≤ 55 + d = omega arith in
        rw (le-ltb (55 + d) 58 more) (omega arith)

-- digits that are enough stand for the number
pub digits_back : (radix width n : ℕ) → 0 < radix → radix ≤ 16 → n < radix ^ width → number_from radix 0 (digits radix width n) ≡ n
unfolding digits
digits_back radix zero n p q h = let z : n < 1 = rw (pow-zero radix) at h in omega arith
digits_back radix (suc width) n p q h =
    let less : n < radix ^ width * radix = rw (pow-suc radix width) at h in
    let rest = digits_back radix width (n / radix) p q ((div-lt_iff_lt-mul {k = radix} {x = n} {y = radix ^ width} p).1 less) in
    let last : digit_of (digit_byte (n % radix)) ≡ n % radix = digit_back (n % radix) (omega (arith, mod-lt n p)) in
    number_last radix 0 (digits radix width (n / radix)) (digit_byte (n % radix))
    ∙ rw (rest, last) (div-add-mod' n radix)

-- the digits counted are enough
enough_step : (t : Bool) (n width : ℕ) → ltb n 10 ≡ t → n / 10 < 10 ^ width → n < 10 ^ cond t 1 (suc width)
enough_step true n width e rest = ltb-true n 10 e
enough_step false n width e rest =
    rw (pow-suc 10 width) ((div-lt_iff_lt-mul {k = 10} {x = n} {y = 10 ^ width} (omega arith)).0 rest)

enough : (most n : ℕ) → n < 10 ^ suc most → n < 10 ^ digit_count most n
unfolding digit_count
enough zero n h = h
enough (suc most) n h =
    let less : n < 10 ^ suc most * 10 = rw (pow-suc 10 (suc most)) at h in
    enough_step (ltb n 10) n (digit_count most (n / 10)) refl
    (enough most (n / 10) ((div-lt_iff_lt-mul {k = 10} {x = n} {y = 10 ^ suc most} (omega arith)).1 less))

-- and no more than are needed: with one digit less it could not be written
leading_step : (t : Bool) (n width : ℕ) → 0 < n → ltb n 10 ≡ t → (0 < n / 10 → 10 ^ width ≤ 10 * (n / 10)) → 10 ^ cond t 1 (suc width) ≤ 10 * n
leading_step true n width h e rest = let z : 10 ≤ 10 * n = omega arith in z
leading_step false n width h e rest =
    let k : 10 ≤ n = ltb-false n 10 e in
    let whole = div-add-mod' n 10 in
    let last : n % 10 < 10 = mod-lt n {m = 10} (omega arith) in
    let upper : 10 ^ width ≤ 10 * (n / 10) = rest (omega arith) in
    rw (pow-suc 10 width) (omega arith)

pub no_leading_zero : (most n : ℕ) → 0 < n → 10 ^ digit_count most n ≤ 10 * n
unfolding digit_count
no_leading_zero zero n h = let z : 10 ≤ 10 * n = omega arith in z
no_leading_zero (suc most) n h = leading_step (ltb n 10) n (digit_count most (n / 10)) h refl (λ k. no_leading_zero most (n / 10) k)

-- every count of 64 bits
pub count_back : (n : ℕ) → n < 2 ^ 64 → number_from 10 0 (decimal n) ≡ n
count_back n h =
    let small : n < 10 ^ 20 = omega arith in
    digits_back 10 (digit_count 19 n) n (omega arith) (omega arith) (enough 19 n small)
