-- How many binary digits a number has, and whether some are left below a cut: what `width` and `without` compute. Assumes nothing.
use mathlib.Core.Path.{◌≡◌, refl, sym, ap}
use mathlib.Core.Bool.{Bool, cond}
use mathlib.Core.Logic.{inl, inr}
use Prim.Native.Nat.{ℕ, zero, suc, ◌+◌, ◌-◌, ◌*◌, ◌/◌, ◌%◌, ◌^◌, ◌≤◌, ◌<◌, min}
use native.Mathlib.Nat.{lt_of_lt_of_le, suc-mul, two-pow-succ, zero-mul, mod-eq_of_lt, div-lt_iff_lt-mul, div-eq_of_lt}
use native.Mathlib.Omega.{arith}
use lib.Dec.{ltb}
use lib.Pow.{pow-add, pow_pos, pow_mono, shr_lt, shl-shr}
use lib.Count.{count_leading_zeros, leading_length}
use lib.Ieee.{size}
use lib.Ieee.Digits.{size-lt, size-le}
use Rattle.exact.proofs.Naturals.{le_or_lt}

-- ---- how many digits
pub size_pos : (n : ℕ) → 0 < n → 0 < size n
size_pos n h = go (size n) (size-lt n)
  where
    go : (z : ℕ) → n < 2 ^ z → 0 < z
    go zero l = omega (arith, h)
    go (suc z) l = omega arith

pub size_shr : (n l : ℕ) → size (n / 2 ^ l) ≡ size n - l
size_shr n l = omega (arith, most, least)
  where
    most : size (n / 2 ^ l) ≤ size n - l
    most = size-le (n / 2 ^ l) (size n - l) (shr_lt (size n - l) l (lt_of_lt_of_le (size-lt n) (pow_mono (omega arith))))

    least : size n ≤ size (n / 2 ^ l) + l
    least = size-le n (size (n / 2 ^ l) + l) (rw pow-add ((div-lt_iff_lt-mul (pow_pos l)).0 (size-lt (n / 2 ^ l))))

pub size_shl : (n t : ℕ) → 0 < n → size (n * 2 ^ t) ≡ size n + t
size_shl n t h = omega (arith, size_shr (n * 2 ^ t) t, ap size (shl-shr n t), size_pos n h)

pub size_leading : (w n : ℕ) → n < 2 ^ w → count_leading_zeros w n + size n ≡ w
size_leading w n h =
    let t = leading_length w n h in
    elim (le_or_lt t.0 (size n)) [
      | inl l ↦ omega (arith, t.1, size-le n t.0 t.2)
      | inr l ↦ omega (arith, two-pow-succ (size n), pow_mono l, t.3, size-lt n)
    ]

-- ---- whether something is left
pub some_mul : (x b : ℕ) → 0 < b → min (x * b) 1 ≡ min x 1
some_mul zero b h = omega (arith, zero-mul b)
some_mul (suc x) b h = omega (arith, suc-mul x b)

pub some_one : (x : ℕ) → cond (ltb 0 x) 1 0 ≡ min x 1
some_one zero = refl
some_one (suc x) = grind arith

-- what `without` returns
abbrev pub Cuts : ℕ → ℕ → ℕ → Bool → Type 0
Cuts n c w b = (w ≡ n / 2 ^ c) × (b ≡ ltb 0 (n % 2 ^ c))

pub cut_all : (n c : ℕ) → n < 2 ^ 128 → 128 ≤ c → Cuts n c 0 (ltb 0 n)
cut_all n c h long =
    let less : n < 2 ^ c = lt_of_lt_of_le h (pow_mono long) in
    (sym (div-eq_of_lt less), ap (ltb 0) (sym (mod-eq_of_lt less)))
