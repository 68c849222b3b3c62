-- The order of all doubles by one number each, in which both zeros are one. Assumes nothing.
use mathlib.Core.Path.{◌≡◌, refl, sym, ap, ◌∙◌}
use mathlib.Core.Logic.{inl, inr, ◌↔◌}
use mathlib.Core.Bool.{Bool, true, false, not, cond}
use Prim.Native.Nat.{ℕ, ◌+◌, ◌-◌, ◌^◌, ◌≤◌, ◌<◌}
use native.Mathlib.Nat.{not-le_of_lt, le_of_lt}
use native.Mathlib.Omega.{arith}
use lib.Dec.{T, leb, ltb, leb→le, le→leb, ltb→lt, lt→ltb, not_T}
use lib.Ieee.{Float, nan, inf, fin, binary64, fits, is_nan, lt, to_bits}
use lib.Ieee.Bits.{is_true, is_false}
use lib.Ieee.Scale.{finite}
use Rattle.exact.specs.Value.{sign}
use Rattle.exact.proofs.Naturals.{le_or_lt}
use Rattle.exact.proofs.Signed.{SignedLt, signed_≺}
use Rattle.exact.proofs.Compare.{same_bool, lt_to, lt_of}
use Rattle.rank_arithmetic.specs.Rank.{at_rank, infinity}
use Rattle.rank_arithmetic.proofs.Grid.{at_rank-zero, at_rank-lt, at_rank_mono}
use Rattle.doubles.proofs.Patterns.{rank_of, pattern, ranked, sign_test}

abbrev pub key : Bool → ℕ → ℕ
key false p = 2 ^ 63 + p
key true p = 2 ^ 63 - p

-- as the code finds it from the bits
abbrev pub order_of : ℕ → ℕ
order_of b = cond (leb (2 ^ 63) b) (2 ^ 63 - (b - 2 ^ 63)) (2 ^ 63 + b)

key_bits : (x : Float) → T (not (is_nan x)) → T (fits binary64 x) → order_of (to_bits binary64 x) ≡ key (sign x) (rank_of x)
key_bits x t h =
    let w = pattern x t h in
    let b = to_bits binary64 x in
    ap (λ (s : Bool). cond s (2 ^ 63 - (b - 2 ^ 63)) (2 ^ 63 + b)) (sign_test b (sign x) (rank_of x) w.bits w.most) ∙ go (sign x) b (rank_of x) w.bits
  where
    go : (s : Bool) (b p : ℕ) → b ≡ cond s (2 ^ 63) 0 + p → cond s (2 ^ 63 - (b - 2 ^ 63)) (2 ^ 63 + b) ≡ key s p
    go true b p e = omega arith
    go false b p e = omega arith

-- ---- the order of keys is the order of doubles
at_rank_less : (p q : ℕ) → (at_rank 52 p < at_rank 52 q) ↔ (p < q)
at_rank_less p q = (λ h. elim (le_or_lt q p) [ inl l ↦ absurd (not-le_of_lt h (at_rank_mono 52 q p l)) | inr l ↦ l ], λ h. at_rank-lt 52 p q h)

signed_key : (s t : Bool) (p q : ℕ) → p ≤ infinity → q ≤ infinity → SignedLt s (at_rank 52 p) t (at_rank 52 q) ↔ (key s p < key t q)
signed_key false false p q P Q = (λ h. omega (arith, (at_rank_less p q).0 (omega arith)), λ h. omega (arith, (at_rank_less p q).1 (omega arith)))
signed_key true true p q P Q = (λ h. omega (arith, (at_rank_less q p).0 (omega arith)), λ h. omega (arith, (at_rank_less q p).1 (omega arith)))
signed_key false true p q P Q = (λ h. omega arith, λ h. omega arith)
signed_key true false p q P Q = (to, from)
  where
    to : 0 + 0 < at_rank 52 q + at_rank 52 p → 2 ^ 63 - p < 2 ^ 63 + q
    to h = elim (le_or_lt (p + q) 0) [ inl l ↦ absurd (none (ap (at_rank 52) (omega arith) ∙ at_rank-zero) (ap (at_rank 52) (omega arith) ∙ at_rank-zero)) | inr l ↦ omega arith ]
      where
        none : at_rank 52 p ≡ 0 → at_rank 52 q ≡ 0 → ⊥
        none a b = omega (arith, h)

    from : 2 ^ 63 - p < 2 ^ 63 + q → 0 + 0 < at_rank 52 q + at_rank 52 p
    from h = elim (le_or_lt p 0) [ inl l ↦ omega (arith, at_rank-lt 52 0 q (omega arith)) | inr l ↦ omega (arith, at_rank-lt 52 0 p l) ]

yes_less : (a b : ℕ) → a < b → ltb a b ≡ true
yes_less a b h = is_true (ltb a b) (lt→ltb a b h)

not_less : (a b : ℕ) → b ≤ a → ltb a b ≡ false
not_less a b h = is_false (ltb a b) (not_T (ltb a b) (λ t. not-le_of_lt (ltb→lt a b t) h))

lowest : (t : Bool) (p : ℕ) → p < infinity → ltb (key true infinity) (key t p) ≡ true
lowest true p h = yes_less (2 ^ 63 - infinity) (2 ^ 63 - p) (omega arith)
lowest false p h = yes_less (2 ^ 63 - infinity) (2 ^ 63 + p) (omega arith)

not_lowest : (t : Bool) (p : ℕ) → p < infinity → ltb (key t p) (key true infinity) ≡ false
not_lowest true p h = not_less (2 ^ 63 - p) (2 ^ 63 - infinity) (omega arith)
not_lowest false p h = not_less (2 ^ 63 + p) (2 ^ 63 - infinity) (omega arith)

highest : (t : Bool) (p : ℕ) → p < infinity → ltb (key t p) (key false infinity) ≡ true
highest true p h = yes_less (2 ^ 63 - p) (2 ^ 63 + infinity) (omega arith)
highest false p h = yes_less (2 ^ 63 + p) (2 ^ 63 + infinity) (omega arith)

not_highest : (t : Bool) (p : ℕ) → p < infinity → ltb (key false infinity) (key t p) ≡ false
not_highest true p h = not_less (2 ^ 63 + infinity) (2 ^ 63 - p) (omega arith)
not_highest false p h = not_less (2 ^ 63 + infinity) (2 ^ 63 + p) (omega arith)

finite_key : (a b : Float) → T (finite a) → T (finite b) → T (fits binary64 a) → T (fits binary64 b) → ltb (key (sign a) (rank_of a)) (key (sign b) (rank_of b)) ≡ lt a b
finite_key a b f g h k =
    let A = ranked a f h in
    let B = ranked b g k in
    let x = key (sign a) (rank_of a) in
    let y = key (sign b) (rank_of b) in
    let o = signed_key (sign a) (sign b) (rank_of a) (rank_of b) (le_of_lt A.small) (le_of_lt B.small) in
    let s = signed_≺ (sign a) (at_rank 52 (rank_of a)) (sign b) (at_rank 52 (rank_of b)) in
    same_bool (ltb x y) (lt a b)
    (λ t. lt_of a b f g h k (rw (A.value, B.value) (s.1 (o.1 (ltb→lt x y t)))))
    (λ t. lt→ltb x y (o.0 (s.0 (rw (A.value, B.value) at (lt_to a b f g h k t)))))

pub lt_key : (a b : Float) → T (not (is_nan a)) → T (not (is_nan b)) → T (fits binary64 a) → T (fits binary64 b) → ltb (key (sign a) (rank_of a)) (key (sign b) (rank_of b)) ≡ lt a b
unfolding lt is_nan
lt_key nan b t u h k = absurd t
lt_key (inf s) nan t u h k = absurd u
lt_key (inf true) (inf true) t u h k = refl
lt_key (inf true) (inf false) t u h k = refl
lt_key (inf false) (inf true) t u h k = refl
lt_key (inf false) (inf false) t u h k = refl
lt_key (inf true) (fin r n d) t u h k = lowest r (rank_of (fin r n d)) (ranked (fin r n d) tt k).small
lt_key (inf false) (fin r n d) t u h k = not_highest r (rank_of (fin r n d)) (ranked (fin r n d) tt k).small
lt_key (fin s m e) nan t u h k = absurd u
lt_key (fin s m e) (inf true) t u h k = not_lowest s (rank_of (fin s m e)) (ranked (fin s m e) tt h).small
lt_key (fin s m e) (inf false) t u h k = highest s (rank_of (fin s m e)) (ranked (fin s m e) tt h).small
lt_key (fin s m e) (fin r n d) t u h k = finite_key (fin s m e) (fin r n d) tt tt h k

-- ---- the way of the code to the key
pub order_low : (b : ℕ) → b < 2 ^ 63 → 2 ^ 63 + b ≡ order_of b
order_low b h = sym (ap (λ (s : Bool). cond s (2 ^ 63 - (b - 2 ^ 63)) (2 ^ 63 + b)) (is_false (leb (2 ^ 63) b) (not_T (leb (2 ^ 63) b) (λ t. not-le_of_lt h (leb→le (2 ^ 63) b t)))))

pub order_high : (b : ℕ) → 2 ^ 63 ≤ b → 2 ^ 63 - (b - 2 ^ 63) ≡ order_of b
order_high b h = sym (ap (λ (s : Bool). cond s (2 ^ 63 - (b - 2 ^ 63)) (2 ^ 63 + b)) (is_true (leb (2 ^ 63) b) (le→leb (2 ^ 63) b h)))

-- the code's differences stay above 0
pub order_room : (x : Float) → T (not (is_nan x)) → T (fits binary64 x) → to_bits binary64 x - 2 ^ 63 ≤ 2 ^ 63
order_room x t h = let w = pattern x t h in go (sign x) (to_bits binary64 x) (rank_of x) w.bits w.most
  where
    go : (s : Bool) (b p : ℕ) → b ≡ cond s (2 ^ 63) 0 + p → p ≤ infinity → b - 2 ^ 63 ≤ 2 ^ 63
    go true b p e h = omega arith
    go false b p e h = omega arith

-- x and y are the keys of two numbers a and b
pub record Ordered (a b : Float) (x y : ℕ) : Type 0 where
  pub first : T (not (is_nan a))
  pub second : T (not (is_nan b))
  pub first_fits : T (fits binary64 a)
  pub second_fits : T (fits binary64 b)
  pub first_key : x ≡ order_of (to_bits binary64 a)
  pub second_key : y ≡ order_of (to_bits binary64 b)

module _ {a b : Float} {x y : ℕ} (o : Ordered a b x y) where
  pub lt_order : ltb x y ≡ lt a b
  lt_order =
      ap (λ (n : ℕ). ltb n y) (o.first_key ∙ key_bits a o.first o.first_fits)
      ∙ ap (ltb (key (sign a) (rank_of a))) (o.second_key ∙ key_bits b o.second o.second_fits)
      ∙ lt_key a b o.first o.second o.first_fits o.second_fits

  pub order_lt : x < y → lt a b ≡ true
  order_lt l = sym lt_order ∙ yes_less x y l

  pub order_le : y ≤ x → lt a b ≡ false
  order_le l = sym lt_order ∙ not_less x y l
