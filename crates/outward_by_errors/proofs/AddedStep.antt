-- What the code adds to a normal number for its neighbour: more than half of a unit in its last place, and hardly more than a whole one. Assumes nothing.
use mathlib.Core.Path.{◌≡◌, sym, ap, ◌∙◌}
use mathlib.Core.Logic.{◌⊎◌, inl, inr}
use Prim.Native.Nat.{ℕ, suc, ◌+◌, ◌-◌, ◌*◌, ◌^◌, ◌≤◌, ◌<◌}
use native.Mathlib.Nat.{le_refl, le_trans, le_of_eq, dvd-mul_left, mul-le-mul, mul-le-mul_left, mul-le-mul_right}
use native.Mathlib.Omega.{arith}
use lib.Dec.{lit<}
use lib.Pow.{pow-add, pow_pos, pow_mono, shl_lt}
use Rattle.exact.specs.Nearest.{nearest_units}
use Rattle.exact.specs.Representable.{Representable}
use Rattle.exact.proofs.Naturals.{le_or_lt}
use Rattle.exact.proofs.Nearest.{nearest_ge, nearest_le}
use Rattle.exact.proofs.Representable.{representable_twice}
use Rattle.rank_arithmetic.specs.Rank.{at_rank}
use Rattle.rank_arithmetic.proofs.Grid.{exponent, significand, parts, at_rank_is, at_rank_gap}
use Rattle.rank_arithmetic.proofs.RankFields.{exponent_mono}

-- 2 ^ -53 (1 + 2 ^ -52) in units
abbrev pub share : ℕ
share = (2 ^ 52 + 1) * 2 ^ 969

-- the share of the double of rank r, which is large, rounded to t units
module _ (r t : ℕ) (large : 2 ^ 105 ≤ at_rank 52 r) (is : t ≡ nearest_units 53 1074 (share * at_rank 52 r)) where
  abbrev k : ℕ
  k = exponent 52 r

  abbrev c : ℕ
  c = significand 52 r

  deep : 53 ≤ k
  deep = elim (le_or_lt 53 k) [
    | inl l ↦ l
    | inr l ↦ absurd (none (mul-le-mul_left c (pow_mono {i = k} {j = 52} (omega (arith, l)))))
  ]
    where
      none : c * 2 ^ k ≤ c * 2 ^ 52 → ⊥
      none h = omega (arith, h, large, at_rank_is 52 r, (parts 52 r).2)

  lead : 2 ^ 52 ≤ c
  lead = elim (parts 52 r).1 [ inl z ↦ omega (arith, z, deep) | inr l ↦ l ]

  abbrev G : ℕ
  G = 2 ^ (k - 53)

  unit : 2 ^ k ≡ 2 ^ 53 * G
  unit = ap (λ (x : ℕ). 2 ^ x) (omega (arith, deep)) ∙ pow-add 2 53 (k - 53)

  half : 2 ^ (k - 1) ≡ 2 ^ 52 * G
  half = ap (λ (x : ℕ). 2 ^ x) (omega (arith, deep)) ∙ pow-add 2 52 (k - 53)

  -- half a unit and a little more
  abbrev least : ℕ
  least = (2 ^ 52 + 1) * G

  digits : Representable 53 least
  digits = record { exp = k - 53; dvd = dvd-mul_left G (2 ^ 52 + 1); fit = shl_lt 53 (k - 53) (lit< tt) }

  -- it is the share of a significand of 2 ^ 52
  least_is : least * 2 ^ 1074 ≡ share * (2 ^ 52 * 2 ^ k)
  least_is = turn (2 ^ 52 + 1) G (2 ^ 969) (2 ^ 52) (2 ^ 53) ∙ ap (λ (x : ℕ). share * (2 ^ 52 * x)) (sym unit)
    where
      turn : (a g w e f : ℕ) → a * g * (w * (e * f)) ≡ a * w * (e * (f * g))
      turn a g w e f = omega arith

  shares : (a b : ℕ) → a ≤ b → share * (a * 2 ^ k) ≤ share * (b * 2 ^ k)
  shares a b h = mul-le-mul_left share (mul-le-mul h (le_refl (2 ^ k)))

  share_is : share * at_rank 52 r ≡ share * (c * 2 ^ k)
  share_is = ap (λ (x : ℕ). share * x) (at_rank_is 52 r)

  lower : least ≤ t
  lower = rw is (nearest_ge 53 (lit< tt) 1074 (share * at_rank 52 r) least digits (le_trans (le_of_eq least_is) (le_trans (shares (2 ^ 52) c lead) (le_of_eq (sym share_is)))))

  upper : t ≤ least + least
  upper = rw is (nearest_le 53 (lit< tt) 1074 (share * at_rank 52 r) (least + least) (representable_twice 53 least digits)
      (le_trans (le_of_eq share_is) (le_trans (shares c (2 ^ 53) (omega (arith, (parts 52 r).2))) (le_of_eq (twice share (2 ^ k) least (2 ^ 1074) least_is)))))
    where
      twice : (s u l w : ℕ) → l * w ≡ s * (2 ^ 52 * u) → s * (2 ^ 53 * u) ≡ (l + l) * w
      twice s u l w e = omega (arith, e)

  upper_least : c ≤ 2 ^ 52 → t ≤ least
  upper_least h = rw is (nearest_le 53 (lit< tt) 1074 (share * at_rank 52 r) least digits (le_trans (le_of_eq share_is) (le_trans (shares c (2 ^ 52) h) (le_of_eq (sym least_is)))))

  -- it is no more than the number
  pub no_more : t ≤ at_rank 52 r
  no_more = omega (arith, upper, at_rank_is 52 r, mul-le-mul_right (2 ^ k) lead, unit)

  -- ---- away from 0
  pub away_after : at_rank 52 r + at_rank 52 (suc r) < at_rank 52 r + t + (at_rank 52 r + t)
  away_after = omega (arith, at_rank_gap 52 r, unit, lower, pow_pos (k - 53))

  pub away_before : at_rank 52 r + t + (at_rank 52 r + t) < at_rank 52 (suc r) + at_rank 52 (suc (suc r))
  away_before = omega (arith, at_rank_gap 52 r, at_rank_gap 52 (suc r), unit, upper, pow_pos (k - 53), pow_mono (exponent_mono (suc r) r (omega arith)))

  -- ---- towards 0
  module _ (p : ℕ) (next : suc (suc p) ≡ r) where
    place : k * 2 ^ 52 + c ≡ suc (suc p)
    place = (parts 52 r).0 ∙ sym next

    whole : at_rank 52 r ≡ at_rank 52 (suc p) + 2 ^ exponent 52 (suc p)
    whole = ap (at_rank 52) (sym next) ∙ at_rank_gap 52 (suc p)

    -- the gap before
    gap : 2 ^ 52 * G ≤ 2 ^ exponent 52 p
    gap = le_trans (le_of_eq (sym half)) (pow_mono (omega (arith, place, lead)))

    -- the gap to the neighbour is a unit, or half of one before a power of two
    sides : ((2 ^ exponent 52 (suc p) ≡ 2 ^ 53 * G) × (t ≤ least + least)) ⊎ ((2 ^ exponent 52 (suc p) ≡ 2 ^ 52 * G) × (t ≤ least))
    sides = elim (le_or_lt c (2 ^ 52)) [
      | inl l ↦ inr (ap (λ (x : ℕ). 2 ^ x) (omega (arith, place, lead, l)) ∙ half, upper_least l)
      | inr l ↦ inl (ap (λ (x : ℕ). 2 ^ x) (omega (arith, place, l, (parts 52 r).2)) ∙ unit, upper)
    ]

    pub toward_after : at_rank 52 p + at_rank 52 (suc p) < at_rank 52 r - t + (at_rank 52 r - t)
    toward_after = elim sides [
      | inl w ↦ omega (arith, whole, at_rank_gap 52 p, gap, w.0, w.1, pow_pos (k - 53))
      | inr w ↦ omega (arith, whole, at_rank_gap 52 p, gap, w.0, w.1, pow_pos (k - 53))
    ]

    pub toward_before : at_rank 52 r - t + (at_rank 52 r - t) < at_rank 52 (suc p) + at_rank 52 (suc (suc p))
    toward_before = rw next (elim sides [
      | inl w ↦ omega (arith, whole, at_rank_gap 52 p, gap, w.0, w.1, lower, pow_pos (k - 53))
      | inr w ↦ omega (arith, whole, at_rank_gap 52 p, gap, w.0, w.1, lower, pow_pos (k - 53))
    ])
