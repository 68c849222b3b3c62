-- The laws of `at_rank`, `rank`, `rank_down` and `rank_up`. Assumes nothing.
use mathlib.Core.Path.{◌≡◌, refl, sym, ap, ◌∙◌, subst}
use mathlib.Core.Logic.{◌⊎◌, inl, inr, ◌↔◌}
use Prim.Native.Nat.{ℕ, zero, suc, ◌+◌, ◌-◌, ◌*◌, ◌/◌, ◌%◌, ◌^◌, ◌≤◌, ◌<◌}
use native.Mathlib.Nat.{le_refl, le_trans, le_of_eq, lt_of_lt_of_le, not-le_of_lt, sub-lt_left_of_lt-add, add-sub_cancel_left, add-sub_of_le, add-zero, add-suc}
use native.Mathlib.Nat.{mod-lt, div-add-mod', le-div_iff_mul-le, div-mul-le_self, suc-mul, two-pow-succ}
use native.Mathlib.Omega.{arith}
use lib.Pow.{pow-add, pow_pos}
use lib.Arith.{digits_div}
use lib.Ieee.{size}
use lib.Ieee.Digits.{size_reaches}
use lib.Ieee.Fits.{kept-lt}
use Rattle.exact.proofs.Naturals.{le_or_lt}
use Rattle.rank_arithmetic.specs.Rank.{at_rank, rank, rank_down, rank_up}

-- ---- the exponent and the significand of a rank

-- how many binary digits 0 stand after the significand
abbrev pub exponent : ℕ → ℕ → ℕ
exponent q r = r / 2 ^ q - 1

-- a leading one and q digits, or fewer where the exponent is 0
abbrev pub significand : ℕ → ℕ → ℕ
significand q r = r - exponent q r * 2 ^ q

pub at_rank_is : (q r : ℕ) → at_rank q r ≡ significand q r * 2 ^ exponent q r
unfolding at_rank
at_rank_is q r = refl

module _ (q : ℕ) where
  abbrev leading : ℕ
  leading = 2 ^ q

  -- they make up the rank, and the significand has its leading one unless the exponent is 0
  pub parts : (r : ℕ) → (exponent q r * leading + significand q r ≡ r) × ((exponent q r ≡ 0) ⊎ (leading ≤ significand q r)) × (significand q r < leading + leading)
  parts r = go (r / leading) (div-add-mod' r leading) (mod-lt r (pow_pos q))
    where
      go : (a : ℕ) → a * leading + r % leading ≡ r → r % leading < leading
          → ((a - 1) * leading + (r - (a - 1) * leading) ≡ r) × ((a - 1 ≡ 0) ⊎ (leading ≤ r - (a - 1) * leading)) × (r - (a - 1) * leading < leading + leading)
      go zero e l = (omega arith, inl refl, omega arith)
      go (suc a) e l =
          let z : suc a - 1 ≡ a = omega arith in
          let f : (suc a - 1) * leading + leading ≡ suc a * leading = rw z (sym (suc-mul a leading)) in
          (omega arith, inr (omega arith), omega arith)

  -- the exponent k and the significand m make a rank
  exponent_form : (k m : ℕ) → (k ≡ 0) ⊎ (leading ≤ m) → m < leading + leading → exponent q (k * leading + m) ≡ k
  exponent_form k m l s = elim (le_or_lt leading m) [
    | inl a ↦
        let e : k * leading + m ≡ suc k * leading + (m - leading) = omega (arith, suc-mul k leading) in
        omega (arith, ap (λ (x : ℕ). x / leading) e, digits_div (suc k) (sub-lt_left_of_lt-add a s))
    | inr a ↦ elim l [ inl z ↦ omega (arith, digits_div k a) | inr b ↦ omega arith ]
  ]

  pub at_rank_form : (k m : ℕ) → (k ≡ 0) ⊎ (leading ≤ m) → m < leading + leading → at_rank q (k * leading + m) ≡ m * 2 ^ k
  unfolding at_rank
  at_rank_form k m l s = ap (λ (x : ℕ). (k * leading + m - x * leading) * 2 ^ x) (exponent_form k m l s) ∙ ap (λ (x : ℕ). x * 2 ^ k) (add-sub_cancel_left (k * leading) m)

  -- the next one has the same exponent and one digit more, though that may carry
  pub at_rank_next : (k m : ℕ) → (k ≡ 0) ⊎ (leading ≤ m) → m < leading + leading → at_rank q (suc (k * leading + m)) ≡ m * 2 ^ k + 2 ^ k
  at_rank_next k m l s =
      elim (le_or_lt (leading + leading) (suc m)) [
        | inl a ↦
            let e : suc (k * leading + m) ≡ suc k * leading + leading = omega (arith, suc-mul k leading) in
            ap (at_rank q) e
            ∙ at_rank_form (suc k) leading (inr (le_refl leading)) (omega (arith, pow_pos q))
            ∙ ap (λ (x : ℕ). leading * x) (two-pow-succ k)
            ∙ full leading m (2 ^ k) (omega arith)
        | inr a ↦
            let e : suc (k * leading + m) ≡ k * leading + suc m = omega arith in
            ap (at_rank q) e ∙ at_rank_form k (suc m) (elim l [ inl z ↦ inl z | inr b ↦ inr (omega arith) ]) a ∙ suc-mul m (2 ^ k)
      ]
    where
      full : (h m p : ℕ) → h + h ≡ suc m → h * (p + p) ≡ m * p + p
      full h m p e = omega (arith, ap (λ (x : ℕ). x * p) e)

  -- ---- `at_rank` grows
  pub at_rank_gap : (r : ℕ) → at_rank q (suc r) ≡ at_rank q r + 2 ^ exponent q r
  at_rank_gap r =
      let p = parts r in
      subst (λ (x : ℕ). at_rank q (suc x) ≡ significand q r * 2 ^ exponent q r + 2 ^ exponent q r) p.0 (at_rank_next (exponent q r) (significand q r) p.1 p.2)
      ∙ ap (λ (x : ℕ). x + 2 ^ exponent q r) (sym (at_rank_is q r))

  pub at_rank_step : (r : ℕ) → at_rank q r < at_rank q (suc r)
  at_rank_step r = omega (arith, at_rank_gap r, pow_pos (exponent q r))

  at_rank-add : (r d : ℕ) → at_rank q r ≤ at_rank q (r + d)
  at_rank-add r zero = rw add-zero (le_refl (at_rank q r))
  at_rank-add r (suc d) = rw add-suc (omega (arith, at_rank-add r d, at_rank_step (r + d)))

  pub at_rank_mono : (r s : ℕ) → r ≤ s → at_rank q r ≤ at_rank q s
  at_rank_mono r s h = le_trans (at_rank-add r (s - r)) (le_of_eq (ap (at_rank q) (add-sub_of_le h)))

  pub at_rank-lt : (r s : ℕ) → r < s → at_rank q r < at_rank q s
  at_rank-lt r s h = lt_of_lt_of_le (at_rank_step r) (at_rank_mono (suc r) s h)

  -- ---- `rank q n` is the last rank of at most n units
  abbrev dropped : ℕ → ℕ
  dropped n = size n - suc q

  rank_lead : (n : ℕ) → (dropped n ≡ 0) ⊎ (leading ≤ n / 2 ^ dropped n)
  rank_lead n = elim (le_or_lt (dropped n) 0) [
    | inl z ↦ inl (omega arith)
    | inr p ↦ inr ((le-div_iff_mul-le (pow_pos (dropped n))).1 (le_trans (le_of_eq (sym (pow-add 2 q (dropped n)))) (size_reaches n (q + dropped n) (omega arith))))
  ]

  pub rank_short : (n : ℕ) → n / 2 ^ dropped n < leading + leading
  rank_short n = lt_of_lt_of_le (kept-lt (suc q) n) (le_of_eq (two-pow-succ q))

  pub at_rank_rank : (n : ℕ) → at_rank q (rank q n) ≡ n / 2 ^ dropped n * 2 ^ dropped n
  unfolding rank
  at_rank_rank n = at_rank_form (dropped n) (n / 2 ^ dropped n) (rank_lead n) (rank_short n)

  rank_le : (n : ℕ) → at_rank q (rank q n) ≤ n
  rank_le n = le_trans (le_of_eq (at_rank_rank n)) (div-mul-le_self n (2 ^ dropped n))

  rank_lt : (n : ℕ) → n < at_rank q (suc (rank q n))
  unfolding rank
  rank_lt n = omega (arith, at_rank_next (dropped n) (n / 2 ^ dropped n) (rank_lead n) (rank_short n), div-add-mod' n (2 ^ dropped n), mod-lt n (pow_pos (dropped n)))

  rank_max : (r n : ℕ) → at_rank q r ≤ n → r ≤ rank q n
  rank_max r n h = elim (le_or_lt r (rank q n)) [ inl l ↦ l | inr l ↦ omega (arith, at_rank_mono (suc (rank q n)) r l, rank_lt n) ]

  pub rank_min : (r n : ℕ) → r ≤ rank q n → at_rank q r ≤ n
  rank_min r n h = le_trans (at_rank_mono r (rank q n) h) (rank_le n)

  pub rank_at_rank : (r : ℕ) → rank q (at_rank q r) ≡ r
  rank_at_rank r = elim (le_or_lt (rank q (at_rank q r)) r) [
    | inl l ↦ omega (arith, rank_max r (at_rank q r) (le_refl (at_rank q r)))
    | inr l ↦ omega (arith, at_rank-lt r (rank q (at_rank q r)) l, rank_le (at_rank q r))
  ]

  -- ---- `rank_down` is the last r with at_rank r ≤ n / 2 ^ l, `rank_up` the first with n / 2 ^ l ≤ at_rank r
  pub rank_down_iff : (l n r : ℕ) → (at_rank q r * 2 ^ l ≤ n) ↔ (r ≤ rank_down q l n)
  unfolding rank_down
  rank_down_iff l n r = (λ h. rank_max r (n / 2 ^ l) ((le-div_iff_mul-le (pow_pos l)).1 h), λ h. (le-div_iff_mul-le (pow_pos l)).0 (rank_min r (n / 2 ^ l) h))

  pub rank_up_iff : (l n r : ℕ) → (n ≤ at_rank q r * 2 ^ l) ↔ (rank_up q l n ≤ r)
  unfolding rank_up
  rank_up_iff l zero r = (λ h. omega arith, λ h. omega arith)
  rank_up_iff l (suc n) r = (to, from)
    where
      to : suc n ≤ at_rank q r * 2 ^ l → suc (rank q (n / 2 ^ l)) ≤ r
      to h = elim (le_or_lt r (rank q (n / 2 ^ l))) [ inl k ↦ absurd (not-le_of_lt h ((le-div_iff_mul-le (pow_pos l)).0 (rank_min r (n / 2 ^ l) k))) | inr k ↦ k ]

      from : suc (rank q (n / 2 ^ l)) ≤ r → suc n ≤ at_rank q r * 2 ^ l
      from h = elim (le_or_lt (at_rank q r * 2 ^ l) n) [ inl k ↦ absurd (not-le_of_lt h (rank_max r (n / 2 ^ l) ((le-div_iff_mul-le (pow_pos l)).1 k))) | inr k ↦ k ]

pub at_rank-zero : at_rank 52 0 ≡ 0
unfolding at_rank
at_rank-zero = refl
