-- Dekker's product of two numbers of q + 1 digits, each split by Veltkamp: what it computes after the rounded product has q + 1 digits, each time. Assumes nothing.
use mathlib.Core.Path.{◌≡◌, sym, ap, ◌∙◌, subst}
use mathlib.Core.Logic.{◌⊎◌, inl, inr}
use Prim.Native.Nat.{ℕ, suc, ◌+◌, ◌*◌, ◌^◌, ◌≤◌, ◌<◌, ◌∣◌}
use native.Mathlib.Nat.{le_trans, le_of_eq, zero-lt-suc, mul-le-mul, mul-le-mul_right, two-pow-succ, dvd-add, add-mul}
use native.Mathlib.Omega.{arith}
use lib.Pow.{pow-add, pow_pos, pow_mono}
use Rattle.exact.specs.Nearest.{nearest_units}
use Rattle.exact.specs.Representable.{Representable}
use Rattle.exact.proofs.Naturals.{le_or_lt, pow_dvd, distance, Within, distance_dvd, distance_mul}
use Rattle.exact.proofs.Representable.{representable_of, representable_down}
use Rattle.exact.proofs.Digits.{nearest_error, nearest_multiple}
use Rattle.error_free.proofs.Veltkamp.{Split, pow_digits, dvd_product}

-- a factor or its high half times the other's: ab, ah, hb and hh. The products of the halves, and what is left of x, the rounded product, as they are taken from it
pub record Differences (p ab ah hb hh x : ℕ) : Type 0 where
  pub hh_digits : Representable p hh
  pub lh_digits : Representable p (distance ah hh)
  pub hl_digits : Representable p (distance hb hh)
  pub ll_digits : Representable p (distance (ab + hh) (ah + hb))
  pub first : Representable p (distance x hh)
  pub second : Representable p (distance x ah)
  pub third : Representable p (distance (x + hh) (ah + hb))
  pub last : Representable p (distance ab x)

-- a power of two changes nothing
pub differences_down : (p t ab ah hb hh x : ℕ) → Differences p (ab * 2 ^ t) (ah * 2 ^ t) (hb * 2 ^ t) (hh * 2 ^ t) (x * 2 ^ t) → Differences p ab ah hb hh x
differences_down p t ab ah hb hh x D = record {
  hh_digits = representable_down p hh t D.hh_digits;
  lh_digits = down ah hh D.lh_digits;
  hl_digits = down hb hh D.hl_digits;
  ll_digits = downs ab hh ah hb D.ll_digits;
  first = down x hh D.first;
  second = down x ah D.second;
  third = downs x hh ah hb D.third;
  last = down ab x D.last;
}
  where
    down : (m n : ℕ) → Representable p (distance (m * 2 ^ t) (n * 2 ^ t)) → Representable p (distance m n)
    down m n R = representable_down p (distance m n) t (subst (λ (z : ℕ). Representable p z) (distance_mul m n (2 ^ t)) R)

    downs : (m n i j : ℕ) → Representable p (distance (m * 2 ^ t + n * 2 ^ t) (i * 2 ^ t + j * 2 ^ t)) → Representable p (distance (m + n) (i + j))
    downs m n i j R = down (m + n) (i + j) (subst (λ (z : ℕ). Representable p (distance z ((i + j) * 2 ^ t))) (sym (add-mul m n (2 ^ t))) (subst (λ (z : ℕ). Representable p (distance (m * 2 ^ t + n * 2 ^ t) z)) (sym (add-mul i j (2 ^ t))) R))

-- ---- products of numbers that are near each other
abbrev Apart : ℕ → ℕ → ℕ → Type 0
Apart a b d = (a ≡ b + d) ⊎ (b ≡ a + d)

apart : (a b : ℕ) → Apart a b (distance a b)
apart a b = elim (le_or_lt b a) [ inl h ↦ inl (omega arith) | inr h ↦ inr (omega arith) ]

-- |c a - c b| = c |a - b|
one-factor : (c a b d : ℕ) → Apart a b d → Within (c * d) (c * a) (c * b)
one-factor c a b d h = elim h [ inl e ↦ omega (arith, ap (λ (x : ℕ). c * x) e) | inr e ↦ omega (arith, ap (λ (x : ℕ). c * x) e) ]

-- |(a - u) (b - v)| = |a - u| |b - v|
both_factors : (a u b v c d : ℕ) → Apart a u c → Apart b v d → Within (c * d) (a * b + u * v) (a * v + u * b)
both_factors a u b v c d h k =
    elim h [
      | inl e ↦ elim k [ inl g ↦ omega (arith, ap (λ (x : ℕ). x * b) e, ap (λ (x : ℕ). x * v) e, ap (λ (x : ℕ). c * x) g) | inr g ↦ omega (arith, ap (λ (x : ℕ). x * b) e, ap (λ (x : ℕ). x * v) e, ap (λ (x : ℕ). c * x) g) ]
      | inr e ↦ elim k [ inl g ↦ omega (arith, ap (λ (x : ℕ). x * b) e, ap (λ (x : ℕ). x * v) e, ap (λ (x : ℕ). c * x) g) | inr g ↦ omega (arith, ap (λ (x : ℕ). x * b) e, ap (λ (x : ℕ). x * v) e, ap (λ (x : ℕ). c * x) g) ]
    ]

-- a low half times a whole number or a high half
low_whole : (d c Q S E F : ℕ) → d + d ≤ S * E → c ≤ (Q + Q) * F → d * c ≤ Q * (S * (E * F))
low_whole d c Q S E F h k = omega (arith, mul-le-mul h k)

-- two low halves
low_low : (d c Q S E F : ℕ) → d + d ≤ S * E → c + c ≤ S * F → S * S ≤ Q + Q + (Q + Q) → d * c ≤ Q * (E * F)
low_low d c Q S E F h k l = omega (arith, mul-le-mul h k, mul-le-mul_right (E * F) l)

-- ---- numbers a and b of q + 1 digits from the places e and f up, and their high halves u and v: each difference is a multiple of a power of two, and at most 2 ^ (q + 1) times it
module _ (q s e f : ℕ) (below : s < q) (enough : suc q ≤ s + s) (few : s + s ≤ suc (suc q)) (a u b v : ℕ) (A : Split q s e a u) (B : Split q s f b v) where
  abbrev Q : ℕ
  Q = 2 ^ q

  abbrev S : ℕ
  S = 2 ^ s

  abbrev G : ℕ
  G = 2 ^ e * 2 ^ f

  abbrev x : ℕ
  x = nearest_units (suc q) 0 (a * b)

  -- ---- the places' powers
  place : 2 ^ (e + f) ≡ G
  place = pow-add 2 e f

  place_digits : 2 ^ (suc q + (e + f)) ≡ (Q + Q) * G
  place_digits = pow_digits q (e + f) ∙ ap (λ (z : ℕ). (Q + Q) * z) place

  s_digits : 2 ^ (suc q + (s + (e + f))) ≡ (Q + Q) * (S * G)
  s_digits = pow_digits q (s + (e + f)) ∙ ap (λ (z : ℕ). (Q + Q) * z) (pow-add 2 s (e + f) ∙ ap (λ (z : ℕ). S * z) place)

  q_digits : 2 ^ (suc q + (q + (e + f))) ≡ (Q + Q) * (Q * G)
  q_digits = pow_digits q (q + (e + f)) ∙ ap (λ (z : ℕ). (Q + Q) * z) (pow-add 2 q (e + f) ∙ ap (λ (z : ℕ). Q * z) place)

  two_s : S + S ≤ Q
  two_s = le_trans (le_of_eq (sym (two-pow-succ s))) (pow_mono below)

  S-squared : S * S ≤ Q + Q + (Q + Q)
  S-squared = le_trans (le_of_eq (sym (pow-add 2 s s))) (le_trans (pow_mono few) (le_of_eq (two-pow-succ (suc q) ∙ ap (λ (z : ℕ). z + z) (two-pow-succ q))))

  -- ---- the four products, and x, as multiples
  ab_dvd : 2 ^ (e + f) ∣ a * b
  ab_dvd = dvd_product e f a b A.dvd B.dvd

  ah_dvd : 2 ^ (s + (e + f)) ∣ a * v
  ah_dvd = pow_dvd (s + (e + f)) (e + (s + f)) (a * v) (omega arith) (dvd_product e (s + f) a v A.dvd B.h_dvd)

  hb_dvd : 2 ^ (s + (e + f)) ∣ u * b
  hb_dvd = pow_dvd (s + (e + f)) (s + e + f) (u * b) (omega arith) (dvd_product (s + e) f u b A.h_dvd B.dvd)

  hh_dvd : 2 ^ (s + s + (e + f)) ∣ u * v
  hh_dvd = pow_dvd (s + s + (e + f)) (s + e + (s + f)) (u * v) (omega arith) (dvd_product (s + e) (s + f) u v A.h_dvd B.h_dvd)

  x_dvd : 2 ^ (q + (e + f)) ∣ x
  x_dvd = nearest_multiple (suc q) (zero-lt-suc q) (a * b) (q + (e + f)) (omega (arith, q_digits, mul-le-mul A.least B.least))

  hh_at : (t : ℕ) → t ≤ s + s + (e + f) → 2 ^ t ∣ u * v
  hh_at t h = pow_dvd t (s + s + (e + f)) (u * v) h hh_dvd

  x_at : (t : ℕ) → t ≤ q + (e + f) → 2 ^ t ∣ x
  x_at t h = pow_dvd t (q + (e + f)) x h x_dvd

  cross_dvd : 2 ^ (e + f) ∣ a * v + u * b
  cross_dvd = dvd-add (2 ^ (e + f)) (pow_dvd (e + f) (s + (e + f)) (a * v) (omega arith) ah_dvd) (pow_dvd (e + f) (s + (e + f)) (u * b) (omega arith) hb_dvd)

  -- ---- how far apart they are
  x_near : Within (Q * G) x (a * b)
  x_near = omega (arith, nearest_error (suc q) (zero-lt-suc q) (a * b) (suc q + (e + f)) (omega (arith, pow_digits q (suc q + (e + f)), ap (λ (z : ℕ). (Q + Q) * z) place_digits, mul-le-mul A.most B.most)), place_digits)

  -- by a low half times a whole number
  ab_ah : Within (Q * (S * G)) (a * b) (a * v)
  ab_ah = omega (arith, one-factor a b v (distance b v) (apart b v), low_whole (distance b v) a Q S (2 ^ f) (2 ^ e) B.near A.most)

  ah_hh : Within (Q * (S * G)) (a * v) (u * v)
  ah_hh = omega (arith, one-factor v a u (distance a u) (apart a u), low_whole (distance a u) v Q S (2 ^ e) (2 ^ f) A.near B.h_most)

  hb_hh : Within (Q * (S * G)) (u * b) (u * v)
  hb_hh = omega (arith, one-factor u b v (distance b v) (apart b v), low_whole (distance b v) u Q S (2 ^ f) (2 ^ e) B.near A.h_most)

  -- by two low halves
  ab_cross : Within (Q * G) (a * b + u * v) (a * v + u * b)
  ab_cross = omega (arith, both_factors a u b v (distance a u) (distance b v) (apart a u) (apart b v), low_low (distance a u) (distance b v) Q S (2 ^ e) (2 ^ f) A.near B.near S-squared)

  short : (m n t : ℕ) → 2 ^ t ∣ m → 2 ^ t ∣ n → Within (2 ^ (suc q + t)) m n → Representable (suc q) (distance m n)
  short m n t d g w = representable_of (suc q) (zero-lt-suc q) (distance m n) t (distance_dvd (2 ^ t) m n d g) (omega arith)

  hh_short : Representable (suc q) (u * v)
  hh_short = representable_of (suc q) (zero-lt-suc q) (u * v) (s + s + (e + f)) hh_dvd (omega (arith, mul-le-mul A.h_most B.h_most, pow_digits q (s + s + (e + f)), ap (λ (z : ℕ). (Q + Q) * z) (pow-add 2 (s + s) (e + f)), ap (λ (z : ℕ). (Q + Q) * (2 ^ (s + s) * z)) place, mul-le-mul_right ((Q + Q) * G) Q-squared))
    where
      Q-squared : Q + Q ≤ 2 ^ (s + s)
      Q-squared = le_trans (le_of_eq (sym (two-pow-succ q))) (pow_mono enough)

  pub differences : Differences (suc q) (a * b) (a * v) (u * b) (u * v) x
  differences = record {
    hh_digits = hh_short;
    lh_digits = short (a * v) (u * v) (s + (e + f)) ah_dvd (hh_at (s + (e + f)) (omega arith)) (omega (arith, ah_hh, s_digits));
    hl_digits = short (u * b) (u * v) (s + (e + f)) hb_dvd (hh_at (s + (e + f)) (omega arith)) (omega (arith, hb_hh, s_digits));
    ll_digits = short (a * b + u * v) (a * v + u * b) (e + f) (dvd-add (2 ^ (e + f)) ab_dvd (hh_at (e + f) (omega arith))) cross_dvd (omega (arith, ab_cross, place_digits));
    first = short x (u * v) (q + (e + f)) x_dvd (hh_at (q + (e + f)) (omega arith)) (omega (arith, x_near, ab_ah, ah_hh, q_digits, mul-le-mul_right (Q * G) two_s, mul-le-mul_right (Q * G) (pow_pos q)));
    second = short x (a * v) (s + (e + f)) (x_at (s + (e + f)) (omega arith)) ah_dvd (omega (arith, x_near, ab_ah, s_digits, mul-le-mul_right (Q * G) (pow_pos s)));
    third = short (x + u * v) (a * v + u * b) (e + f) (dvd-add (2 ^ (e + f)) (x_at (e + f) (omega arith)) (hh_at (e + f) (omega arith))) cross_dvd (omega (arith, x_near, ab_cross, place_digits));
    last = short (a * b) x (e + f) ab_dvd (x_at (e + f) (omega arith)) (omega (arith, x_near, place_digits));
  }
