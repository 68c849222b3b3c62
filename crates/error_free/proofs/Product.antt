-- Dekker's product of the magnitudes of two doubles: its terms are whole numbers of units of 2 ^ -1074, have 53 digits each, and stay in range. Assumes nothing.
-- Magnitudes are whole numbers of units too, so their products are in units of 2 ^ -2148: 2 ^ 1074 of these are one unit. Veltkamp's factor is 2 ^ 27 + 1.
use mathlib.Core.Path.{◌≡◌, sym, ap, ◌∙◌, subst}
use mathlib.Core.Logic.{inl, inr}
use Prim.Native.Nat.{ℕ, suc, ◌+◌, ◌-◌, ◌*◌, ◌/◌, ◌^◌, ◌≤◌, ◌<◌, ◌∣◌, zero-le}
use native.Mathlib.Nat.{le_trans, le_of_eq, le_of_lt, not-le_of_lt, lt_of_le_of_lt, zero-lt-suc, zero-mul, mul-zero, mul-one, eq-zero-or-pos, mul_assoc, mul-mul-mul_comm, mul-le-mul, mul-le-mul_right, mul-le-mul_left, le_of_mul-le-mul_right, dvd-mul_left, div-mul_cancel, two-pow-succ}
use native.Mathlib.Omega.{arith}
use lib.Dec.{lit<, lit≤}
use lib.Ieee.{size}
use lib.Pow.{pow-add, pow_pos, pow_mono, shl_lt, shr_lt, ones_lt, le_ones}
use Rattle.exact.specs.Nearest.{nearest_units}
use Rattle.exact.specs.Representable.{Representable}
use Rattle.exact.proofs.Naturals.{le_or_lt, pow_dvd}
use Rattle.exact.proofs.Representable.{representable-zero, representable_of}
use Rattle.exact.proofs.Nearest.{nearest_ge, nearest_le, nearest_whole, nearest_zero}
use Rattle.exact.proofs.Digits.{nearest_shift}
use Rattle.error_free.proofs.Veltkamp.{Halves, high, high_dvd, high_zero, halves, split, dvd_product}
use Rattle.error_free.proofs.Dekker.{Differences, differences, differences_down}

-- the high half of a double's magnitude
abbrev pub high64 : ℕ → ℕ
high64 A = high 52 27 A

-- the four products of a factor or its high half with the other, in units (n 2 ^ 1074 each), what of them has 53 digits, and that sums of two stay in range
pub record Terms (A B x : ℕ) : Type 0 where
  pub ab : ℕ
  pub ah : ℕ
  pub hb : ℕ
  pub hh : ℕ
  pub ab_is : A * B ≡ ab * 2 ^ 1074
  pub ah_is : A * high64 B ≡ ah * 2 ^ 1074
  pub hb_is : high64 A * B ≡ hb * 2 ^ 1074
  pub hh_is : high64 A * high64 B ≡ hh * 2 ^ 1074
  pub short : Differences 53 ab ah hb hh x
  pub cap_hh : ab + hh ≤ 2 ^ 2097
  pub cap_mid : ah + hb ≤ 2 ^ 2097
  pub cap_x : x + hh ≤ 2 ^ 2097

-- ---- a rounded product of 2 ^ (2 q + 1) units or more: the factors are above 0, and the places of their last digits come to a unit
-- A number of q + 1 digits is at most 2 ^ (q + 1) - 1 times its last place. Where two last places come to half a unit at most,
-- the product is at most 2 ^ (q + 1) - 1 times 2 ^ q units; that has q + 1 digits, so rounding does not pass it.
module _ (q l A B : ℕ) (Ra : Representable (suc q) A) (RB : Representable (suc q) B) (large : 2 ^ (suc q + q) ≤ nearest_units (suc q) l (A * B)) where
  abbrev ones : ℕ
  ones = 2 ^ suc q - 1

  not_small : A * B ≤ ones * 2 ^ q * 2 ^ l → ⊥
  not_small h =
      let fit : ones * 2 ^ q < 2 ^ (suc q + q) = shl_lt (suc q) q (ones_lt (suc q)) in
      let R : Representable (suc q) (ones * 2 ^ q) = record { exp = q; dvd = dvd-mul_left (2 ^ q) ones; fit = fit } in
      not-le_of_lt (lt_of_le_of_lt (nearest_le (suc q) (zero-lt-suc q) l (A * B) (ones * 2 ^ q) R h) fit) large

  left_pos : 0 < A
  left_pos = elim (eq-zero-or-pos A) [ inl z ↦ absurd (not_small (le_trans (le_of_eq (ap (λ (x : ℕ). x * B) z ∙ zero-mul B)) zero-le)) | inr h ↦ h ]

  right_pos : 0 < B
  right_pos = elim (eq-zero-or-pos B) [ inl z ↦ absurd (not_small (le_trans (le_of_eq (ap (λ (x : ℕ). A * x) z ∙ mul-zero A)) zero-le)) | inr h ↦ h ]

  at_most : (n : ℕ) (R : Representable (suc q) n) → n ≤ ones * 2 ^ R.exp
  at_most n R = le_trans (le_of_eq (sym (div-mul_cancel (2 ^ R.exp) R.dvd))) (mul-le-mul_right (2 ^ R.exp) (le_ones (suc q) (shr_lt (suc q) R.exp R.fit)))

  places : l ≤ Ra.exp + RB.exp
  places = elim (le_or_lt l (Ra.exp + RB.exp)) [ inl h ↦ h | inr h ↦ absurd (not_small (small Ra.exp RB.exp h (at_most A Ra) (at_most B RB))) ]
    where
      halve : (c P Q J K : ℕ) → c ≤ P → P ≡ Q + Q → K ≡ J + J → c * c * J ≤ c * Q * K
      halve c P Q J K h e g = omega (arith, mul-le-mul_left (c * J) h, ap (λ (z : ℕ). c * J * z) e, ap (λ (z : ℕ). c * Q * z) g)

      small : (i j : ℕ) → i + j < l → A ≤ ones * 2 ^ i → B ≤ ones * 2 ^ j → A * B ≤ ones * 2 ^ q * 2 ^ l
      small i j h a b =
          le_trans (mul-le-mul a b)
          (le_trans (le_of_eq (mul-mul-mul_comm ones (2 ^ i) ones (2 ^ j) ∙ ap (λ (z : ℕ). ones * ones * z) (sym (pow-add 2 i j))))
          (le_trans (halve ones (2 ^ suc q) (2 ^ q) (2 ^ (i + j)) (2 ^ suc (i + j)) (le_of_lt (ones_lt (suc q))) (two-pow-succ q) (two-pow-succ (i + j))) (mul-le-mul_left (ones * 2 ^ q) (pow_mono h))))

-- ---- the four products in units, and Dekker's differences of them
module _ (q s : ℕ) (below : s < q) (enough : suc q ≤ s + s) (few : s + s ≤ suc (suc q)) (l A B : ℕ) (A⁺ : 0 < A) (B⁺ : 0 < B) (Ra : Representable (suc q) A) (RB : Representable (suc q) B)
    (ab ah hb hh : ℕ) (ab_is : A * B ≡ ab * 2 ^ l) (ah_is : A * high q s B ≡ ah * 2 ^ l) (hb_is : high q s A * B ≡ hb * 2 ^ l) (hh_is : high q s A * high q s B ≡ hh * 2 ^ l) where
  abbrev P : ℕ
  P = 2 ^ suc q

  -- each factor is scaled up by 2 ^ (q + 1), so that all its digits are in use
  abbrev t : ℕ
  t = l + (suc q + suc q)

  up : (x y n : ℕ) → x * y ≡ n * 2 ^ l → x * P * (y * P) ≡ n * 2 ^ t
  up x y n h = mul-mul-mul_comm x P y P ∙ ap (λ (z : ℕ). z * (P * P)) h ∙ mul_assoc n (2 ^ l) (P * P) ∙ ap (λ (z : ℕ). n * z) (ap (λ (z : ℕ). 2 ^ l * z) (sym (pow-add 2 (suc q) (suc q))) ∙ sym (pow-add 2 l (suc q + suc q)))

  in-units : Differences (suc q) ab ah hb hh (nearest_units (suc q) 0 ab)
  in-units =
      let D = differences q s (size A) (size B) below enough few (A * P) (high q s A * P) (B * P) (high q s B * P) (split q s (le_of_lt below) A A⁺ Ra) (split q s (le_of_lt below) B B⁺ RB) in
      differences_down (suc q) t ab ah hb hh (nearest_units (suc q) 0 ab)
      (rw (up A B ab ab_is, up A (high q s B) ah ah_is, up (high q s A) B hb hb_is, up (high q s A) (high q s B) hh hh_is, nearest_shift (suc q) (zero-lt-suc q) ab t) at D)

-- ---- range: what rounds to at most 8 M is less than 9 M, M being 2 ^ j; the sums of two of the four products then stay within 32 M, a high half being at most 3 / 2 of its number
product_lt : (q j n : ℕ) → 3 ≤ q → nearest_units (suc q) 0 n ≤ 2 ^ (3 + j) → n < 9 * 2 ^ j
product_lt q j n h x =
    elim (le_or_lt (9 * 2 ^ j) n) [
      | inl l ↦ absurd (no (2 ^ j) (nearest_units (suc q) 0 n) (2 ^ (3 + j)) (pow_pos j) (nearest_ge (suc q) (zero-lt-suc q) 0 n (9 * 2 ^ j) nine (le_trans (le_of_eq (mul-one (9 * 2 ^ j))) l)) x (pow-add 2 3 j))
      | inr l ↦ l
    ]
  where
    nine : Representable (suc q) (9 * 2 ^ j)
    nine = representable_of (suc q) (zero-lt-suc q) (9 * 2 ^ j) j (dvd-mul_left (2 ^ j) 9) (le_trans (mul-le-mul_right (2 ^ j) (le_trans (lit≤ {m = 9} {n = 16} tt) (pow_mono {i = 4} {j = suc q} (next h)))) (le_of_eq (sym (pow-add 2 (suc q) j))))
      where
        next : 3 ≤ q → 4 ≤ suc q
        next h = omega arith

    no : (M r C : ℕ) → 0 < M → 9 * M ≤ r → r ≤ C → C ≡ 8 * M → ⊥
    no M r C h i j k = omega arith

module _ (L A u B v ab ah hb hh : ℕ) (L⁺ : 0 < L) (ab_is : A * B ≡ ab * L) (ah_is : A * v ≡ ah * L) (hb_is : u * B ≡ hb * L) (hh_is : u * v ≡ hh * L) (hA : u + u ≤ A + A + A) (hB : v + v ≤ B + B + B) where
  hh_le : 4 * hh ≤ 9 * ab
  hh_le = le_of_mul-le-mul_right (go (mul-le-mul hA hB)) L⁺
    where
      go : (u + u) * (v + v) ≤ (A + A + A) * (B + B + B) → 4 * hh * L ≤ 9 * ab * L
      go h = omega arith

  ah_le : 2 * ah ≤ 3 * ab
  ah_le = le_of_mul-le-mul_right (go (mul-le-mul_left A hB)) L⁺
    where
      go : A * (v + v) ≤ A * (B + B + B) → 2 * ah * L ≤ 3 * ab * L
      go h = omega arith

  hb_le : 2 * hb ≤ 3 * ab
  hb_le = le_of_mul-le-mul_right (go (mul-le-mul_right B hA)) L⁺
    where
      go : (u + u) * B ≤ (A + A + A) * B → 2 * hb * L ≤ 3 * ab * L
      go h = omega arith

  caps : (x M C D : ℕ) → ab < 9 * M → C ≡ 32 * M → x ≤ D → D ≡ 8 * M → (ab + hh ≤ C) × ((ah + hb ≤ C) × (x + hh ≤ C))
  caps x M C D lt C-is le D-is = omega (arith, hh_le, ah_le, hb_le)

-- ---- binary64
pub halves64 : (A : ℕ) → Representable 53 A → Halves 52 27 A
halves64 = halves 52 27 (lit≤ tt) (lit< tt)

-- the product is a whole number of units, where the places of the factors' last digits come to one
whole : (l i j A B : ℕ) → l ≤ i + j → 2 ^ i ∣ A → 2 ^ j ∣ B → A * B ≡ A * B / 2 ^ l * 2 ^ l
whole l i j A B h d g = sym (div-mul_cancel (2 ^ l) (pow_dvd l (i + j) (A * B) h (dvd_product i j A B d g)))

some_terms : (A B : ℕ) (Ra : Representable 53 A) (RB : Representable 53 B) → 0 < A → 0 < B → 1074 ≤ Ra.exp + RB.exp → nearest_units 53 1074 (A * B) ≤ 2 ^ 2095 → Terms A B (nearest_units 53 1074 (A * B))
some_terms A B Ra RB A⁺ B⁺ reach top =
    let L = 2 ^ 1074 in
    let i = Ra.exp in
    let j = RB.exp in
    let u = high64 A in
    let v = high64 B in
    let ab = A * B / L in
    let ah = A * v / L in
    let hb = u * B / L in
    let hh = u * v / L in
    let x = nearest_units 53 1074 (A * B) in
    let u-dvd : 2 ^ i ∣ u = high_dvd 52 27 A i Ra.dvd in
    let v-dvd : 2 ^ j ∣ v = high_dvd 52 27 B j RB.dvd in
    let ab_is : A * B ≡ ab * L = whole 1074 i j A B reach Ra.dvd RB.dvd in
    let ah_is : A * v ≡ ah * L = whole 1074 i j A v reach Ra.dvd v-dvd in
    let hb_is : u * B ≡ hb * L = whole 1074 i j u B reach u-dvd RB.dvd in
    let hh_is : u * v ≡ hh * L = whole 1074 i j u v reach u-dvd v-dvd in
    let x-is : nearest_units 53 0 ab ≡ x = sym (ap (nearest_units 53 1074) ab_is ∙ nearest_whole 53 1074 ab) in
    let D : Differences 53 ab ah hb hh x = subst (Differences 53 ab ah hb hh) x-is (in-units 52 27 (lit< tt) (lit≤ tt) (lit≤ tt) 1074 A B A⁺ B⁺ Ra RB ab ah hb hh ab_is ah_is hb_is hh_is) in
    let lt : ab < 9 * 2 ^ 2092 = product_lt 52 2092 ab (lit≤ tt) (le_trans (le_of_eq x-is) top) in
    let C = caps L A u B v ab ah hb hh (pow_pos 1074) ab_is ah_is hb_is hh_is (halves64 A Ra).high_le (halves64 B RB).high_le x (2 ^ 2092) (2 ^ 2097) (2 ^ 2095) lt (pow-add 2 5 2092) top (pow-add 2 3 2092) in
    record {
      ab = ab;
      ah = ah;
      hb = hb;
      hh = hh;
      ab_is = ab_is;
      ah_is = ah_is;
      hb_is = hb_is;
      hh_is = hh_is;
      short = D;
      cap_hh = C.0;
      cap_mid = C.1.0;
      cap_x = C.1.1;
    }

pub terms : (A B : ℕ) → Representable 53 A → Representable 53 B → 2 ^ 105 ≤ nearest_units 53 1074 (A * B) → nearest_units 53 1074 (A * B) ≤ 2 ^ 2095 → Terms A B (nearest_units 53 1074 (A * B))
terms A B Ra RB lo hi = some_terms A B Ra RB (left_pos 52 1074 A B Ra RB lo) (right_pos 52 1074 A B Ra RB lo) (places 52 1074 A B Ra RB lo) hi

-- a factor of 0: every term is 0
all_zero : (A B x : ℕ) → A * B ≡ 0 → A * high64 B ≡ 0 → high64 A * B ≡ 0 → high64 A * high64 B ≡ 0 → x ≡ 0 → Terms A B x
all_zero A B x ab_is ah_is hb_is hh_is x-is =
    let R = representable-zero 53 in
    let to-units : 0 ≡ 0 * 2 ^ 1074 = sym (zero-mul (2 ^ 1074)) in
    subst (Terms A B) (sym x-is) (record {
      ab = 0;
      ah = 0;
      hb = 0;
      hh = 0;
      ab_is = ab_is ∙ to-units;
      ah_is = ah_is ∙ to-units;
      hb_is = hb_is ∙ to-units;
      hh_is = hh_is ∙ to-units;
      short = record { hh_digits = R; lh_digits = R; hl_digits = R; ll_digits = R; first = R; second = R; third = R; last = R };
      cap_hh = zero-le;
      cap_mid = zero-le;
      cap_x = zero-le;
    })

high64_zero : high64 0 ≡ 0
high64_zero = high_zero 52 27

pub rounded_zero : (n : ℕ) → n ≡ 0 → nearest_units 53 1074 n ≡ 0
rounded_zero n e = ap (nearest_units 53 1074) e ∙ nearest_zero 1074

pub terms_zero_l : (B : ℕ) → Terms 0 B (nearest_units 53 1074 (0 * B))
terms_zero_l B =
    all_zero 0 B (nearest_units 53 1074 (0 * B)) (zero-mul B) (zero-mul (high64 B)) (ap (λ (x : ℕ). x * B) high64_zero ∙ zero-mul B) (ap (λ (x : ℕ). x * high64 B) high64_zero ∙ zero-mul (high64 B)) (rounded_zero (0 * B) (zero-mul B))

pub terms_zero_r : (A : ℕ) → Terms A 0 (nearest_units 53 1074 (A * 0))
terms_zero_r A =
    all_zero A 0 (nearest_units 53 1074 (A * 0)) (mul-zero A) (ap (λ (x : ℕ). A * x) high64_zero ∙ mul-zero A) (mul-zero (high64 A)) (ap (λ (x : ℕ). high64 A * x) high64_zero ∙ mul-zero (high64 A)) (rounded_zero (A * 0) (mul-zero A))
