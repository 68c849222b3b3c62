-- A double that is no NaN is its sign and its rank: its bit pattern is their sum, and a finite one's magnitude is that of its rank. Assumes nothing.
use mathlib.Core.Path.{◌≡◌, refl, sym, ap, ◌∙◌, subst}
use mathlib.Core.Logic.{inl, inr}
use mathlib.Core.Bool.{Bool, true, false, not, cond}
use Prim.Native.Nat.{ℕ, zero, suc, ◌+◌, ◌-◌, ◌*◌, ◌/◌, ◌%◌, ◌^◌, ◌≤◌, ◌<◌}
use native.Mathlib.Nat.{le_refl, le_trans, le_of_eq, le_of_lt, not-le_of_lt, add_assoc}
use native.Mathlib.Omega.{arith}
use lib.Dec.{T, leb, ltb, eqb, ltb→lt, le→leb, leb→le, eqb→eq, not_T, lit<}
use lib.Ieee.{Float, nan, inf, fin, binary64, up, down, size, odd, of_fields, of_bits, to_bits, fits, is_nan, nan_bits, neg}
use lib.Ieee.Bits.{of_bits-to_bits, of_bits-fits, nan_bits_above, is_true, is_false, cond_no}
use lib.Ieee.Exact.{HasValue, odd_sign}
use lib.Ieee.Scale.{finite}
use Rattle.exact.specs.Value.{sign, magnitude, signed, exact}
use Rattle.exact.proofs.Naturals.{le_or_lt}
use Rattle.exact.proofs.Values.{whole, value_of, exact_of}
use Rattle.rank_arithmetic.specs.Rank.{at_rank, rank, infinity, double}
use Rattle.rank_arithmetic.proofs.Grid.{at_rank_form, rank_min}

-- ---- from a sign and a rank to a double
field_value : (s : Bool) (x t : ℕ) → x < 2047 → t < 2 ^ 52 → HasValue (of_fields binary64 s x t) s (at_rank 52 (x * 2 ^ 52 + t)) (2 ^ 1074)
unfolding of_fields
field_value s zero t X Y = subst (λ (v : ℕ). HasValue (odd 53 s t 0 1074) s v (2 ^ 1074)) (sym (at_rank_form 52 0 t (inl refl) (omega arith))) (odd_sign 53 s t 0 1074)
field_value s (suc x) t X Y =
    subst (λ (y : Float). HasValue y s (at_rank 52 (suc x * 2 ^ 52 + t)) (2 ^ 1074))
    (sym (cond_no (eqb (suc x) 2047) (cond (eqb t 0) (inf s) nan) (odd 53 s (2 ^ 52 + t) x 1074) (not_T (eqb (suc x) 2047) (λ h. differ (eqb→eq (suc x) 2047 h)))))
    (subst (λ (v : ℕ). HasValue (odd 53 s (2 ^ 52 + t) x 1074) s v (2 ^ 1074))
    (sym (ap (at_rank 52) same ∙ at_rank_form 52 x (2 ^ 52 + t) (inr (omega arith)) (omega arith))) (odd_sign 53 s (2 ^ 52 + t) x 1074))
  where
    differ : suc x ≡ 2047 → ⊥
    differ e = omega arith

    same : suc x * 2 ^ 52 + t ≡ x * 2 ^ 52 + (2 ^ 52 + t)
    same = omega arith

fields : (s : Bool) (b r : ℕ) → leb (2 ^ 63) b ≡ s → b % 2 ^ 63 ≡ r → b % 2 ^ 52 ≡ r % 2 ^ 52 → of_bits binary64 b ≡ of_fields binary64 s (r / 2 ^ 52) (r % 2 ^ 52)
unfolding of_bits
fields s b r e f g =
    ap (λ (z : Bool). of_fields binary64 z (b % 2 ^ 63 / 2 ^ 52) (b % 2 ^ 52)) e
    ∙ ap (λ (z : ℕ). of_fields binary64 s (z / 2 ^ 52) (b % 2 ^ 52)) f
    ∙ ap (λ (z : ℕ). of_fields binary64 s (r / 2 ^ 52) z) g

double_fields : (s : Bool) (r : ℕ) → r < 2 ^ 63 → double s r ≡ of_fields binary64 s (r / 2 ^ 52) (r % 2 ^ 52)
double_fields false r h = fields false r r (is_false (leb (2 ^ 63) r) (not_T (leb (2 ^ 63) r) (λ t. not-le_of_lt h (leb→le (2 ^ 63) r t)))) (omega arith) refl
double_fields true r h = fields true (2 ^ 63 + r) r (is_true (leb (2 ^ 63) (2 ^ 63 + r)) (le→leb (2 ^ 63) (2 ^ 63 + r) (omega arith))) (omega arith) (omega arith)

pub fields_double : (s : Bool) (x t : ℕ) → x < 2 ^ 11 → t < 2 ^ 52 → of_fields binary64 s x t ≡ double s (x * 2 ^ 52 + t)
fields_double s x t X Y =
    ap (λ (e : ℕ). of_fields binary64 s e t) (quotient x t Y)
    ∙ ap (of_fields binary64 s ((x * 2 ^ 52 + t) / 2 ^ 52)) (rest x t Y)
    ∙ sym (double_fields s (x * 2 ^ 52 + t) (omega arith))
  where
    quotient : (x t : ℕ) → t < 2 ^ 52 → x ≡ (x * 2 ^ 52 + t) / 2 ^ 52
    quotient x t Y = omega arith

    rest : (x t : ℕ) → t < 2 ^ 52 → t ≡ (x * 2 ^ 52 + t) % 2 ^ 52
    rest x t Y = omega arith

double_value : (s : Bool) (r : ℕ) → r < infinity → HasValue (double s r) s (at_rank 52 r) (2 ^ 1074)
double_value s r h =
    subst (λ (y : Float). HasValue y s (at_rank 52 r) (2 ^ 1074)) (sym (double_fields s r (omega arith)))
    (subst (λ (z : ℕ). HasValue (of_fields binary64 s (r / 2 ^ 52) (r % 2 ^ 52)) s (at_rank 52 z) (2 ^ 1074)) (omega arith) (field_value s (r / 2 ^ 52) (r % 2 ^ 52) (omega arith) (omega arith)))

pub exact_double : (s : Bool) (r : ℕ) → r < infinity → T (finite (double s r)) × (exact (double s r) ≡ signed s (at_rank 52 r))
exact_double s r h = exact_of (double s r) s (at_rank 52 r) (double_value s r h)

pub magnitude_double : (s : Bool) (r : ℕ) → r < infinity → magnitude (double s r) ≡ at_rank 52 r
magnitude_double s r h = (value_of (double s r) s (at_rank 52 r) (double_value s r h)).2

pub double_infinity : (s : Bool) → double s infinity ≡ inf s
unfolding of_bits
double_infinity true = refl
double_infinity false = refl

-- the last rank there is
pub infinite_rank : (s : Bool) (r : ℕ) → r ≤ infinity → infinity ≤ r → double s r ≡ inf s
infinite_rank s r h l = ap (double s) (same r h l) ∙ double_infinity s
  where
    same : (r : ℕ) → r ≤ infinity → infinity ≤ r → r ≡ infinity
    same r h l = omega arith

pub double_sign : (s : Bool) (r : ℕ) → r ≤ infinity → sign (double s r) ≡ s
double_sign s r h = elim (le_or_lt infinity r) [ inl l ↦ ap sign (infinite_rank s r h l) | inr l ↦ (value_of (double s r) s (at_rank 52 r) (double_value s r l)).1 ]

pub double_fits : (s : Bool) (r : ℕ) → T (fits binary64 (double s r))
double_fits true r = of_bits-fits binary64 (2 ^ 63 + r)
double_fits false r = of_bits-fits binary64 r

neg_odd : (d : ℕ) (s : Bool) (q k l : ℕ) → neg (odd d s q k l) ≡ odd d (not s) q k l
unfolding neg odd
neg_odd d s zero k l = refl
neg_odd d s (suc q) k l = refl

neg_cond : (b : Bool) (x y : Float) → neg (cond b x y) ≡ cond b (neg x) (neg y)
neg_cond true x y = refl
neg_cond false x y = refl

pub neg_fields : (s : Bool) (x t : ℕ) → neg (of_fields binary64 s x t) ≡ of_fields binary64 (not s) x t
unfolding of_fields neg
neg_fields s zero t = neg_odd 53 s t 0 1074
neg_fields s (suc x) t =
    neg_cond (eqb (suc x) 2047) (cond (eqb t 0) (inf s) nan) (odd 53 s (2 ^ 52 + t) x 1074)
    ∙ ap (λ (y : Float). cond (eqb (suc x) 2047) y (neg (odd 53 s (2 ^ 52 + t) x 1074))) (neg_cond (eqb t 0) (inf s) nan)
    ∙ ap (λ (y : Float). cond (eqb (suc x) 2047) (cond (eqb t 0) (inf (not s)) nan) y) (neg_odd 53 s (2 ^ 52 + t) x 1074)

pub neg_double : (s : Bool) (r : ℕ) → r < 2 ^ 63 → neg (double s r) ≡ double (not s) r
neg_double s r h = ap neg (double_fields s r h) ∙ neg_fields s (r / 2 ^ 52) (r % 2 ^ 52) ∙ sym (double_fields (not s) r h)

-- ---- from a double to its rank
abbrev pub rank_of : Float → ℕ
rank_of nan = 0
rank_of (inf s) = infinity
rank_of (fin s m e) = rank 52 (magnitude (fin s m e))

finite_bits : (x : Float) → T (finite x) → to_bits binary64 x ≡ cond (sign x) (2 ^ 63) 0 + rank_of x
unfolding to_bits magnitude rank
finite_bits nan t = absurd t
finite_bits (inf s) t = absurd t
finite_bits (fin s m e) t = let n = m * up e * 2 ^ 1074 / down e in add_assoc (cond s (2 ^ 63) 0) ((size n - 53) * 2 ^ 52) (n / 2 ^ (size n - 53))

pub infinity-value : at_rank 52 infinity ≡ 2 ^ 2098
infinity-value = at_rank_form 52 2046 (2 ^ 52) (inr (le_refl (2 ^ 52))) (lit< tt)

finite_less : (x : Float) → T (finite x) → T (fits binary64 x) → rank_of x < infinity
finite_less nan t h = absurd t
finite_less (inf s) t h = absurd t
finite_less (fin s m e) t h =
    let n = magnitude (fin s m e) in
    elim (le_or_lt infinity (rank 52 n)) [
      | inl g ↦ absurd (not-le_of_lt (whole (fin s m e) tt h).small (le_trans (le_of_eq (sym infinity-value)) (rank_min 52 infinity n g)))
      | inr g ↦ g
    ]

of_pattern : (s : Bool) (r : ℕ) → of_bits binary64 (cond s (2 ^ 63) 0 + r) ≡ double s r
of_pattern true r = refl
of_pattern false r = ap (of_bits binary64) (plain r)
  where
    plain : (r : ℕ) → 0 + r ≡ r
    plain r = omega arith

pub record Pattern (x : Float) : Type 0 where
  pub bits : to_bits binary64 x ≡ cond (sign x) (2 ^ 63) 0 + rank_of x
  pub most : rank_of x ≤ infinity
  pub same : x ≡ double (sign x) (rank_of x)

pub pattern : (x : Float) → T (not (is_nan x)) → T (fits binary64 x) → Pattern x
unfolding is_nan to_bits
pattern nan t h = absurd t
pattern (inf true) t h = record { bits = refl; most = le_refl infinity; same = sym (double_infinity true) }
pattern (inf false) t h = record { bits = refl; most = le_refl infinity; same = sym (double_infinity false) }
pattern (fin s m e) t h =
    let x = fin s m e in
    record { bits = finite_bits x tt; most = le_of_lt (finite_less x tt h); same = sym (of_bits-to_bits binary64 x h) ∙ ap (of_bits binary64) (finite_bits x tt) ∙ of_pattern s (rank_of x) }

pub finite_no_nan : (x : Float) → T (finite x) → T (not (is_nan x))
unfolding is_nan
finite_no_nan nan t = absurd t
finite_no_nan (inf s) t = absurd t
finite_no_nan (fin s m e) t = tt

-- a finite double's value is that of its rank
pub record Ranked (x : Float) : Type 0 where
  pub small : rank_of x < infinity
  pub value : exact x ≡ signed (sign x) (at_rank 52 (rank_of x))

pub ranked : (x : Float) → T (finite x) → T (fits binary64 x) → Ranked x
ranked x t h =
    let l = finite_less x t h in
    record { small = l; value = ap exact (pattern x (finite_no_nan x t) h).same ∙ (exact_double (sign x) (rank_of x) l).1 }

-- ---- what the code reads of a pattern
pub rank_of_mod : (x : ℕ) (s : Bool) (r : ℕ) → x ≡ cond s (2 ^ 63) 0 + r → r ≤ infinity → x % 2 ^ 63 ≡ r
rank_of_mod x true r e h = omega arith
rank_of_mod x false r e h = omega arith

pub sign_test : (x : ℕ) (s : Bool) (r : ℕ) → x ≡ cond s (2 ^ 63) 0 + r → r ≤ infinity → leb (2 ^ 63) x ≡ s
sign_test x true r e h = is_true (leb (2 ^ 63) x) (le→leb (2 ^ 63) x (omega arith))
sign_test x false r e h = is_false (leb (2 ^ 63) x) (not_T (leb (2 ^ 63) x) (λ t. not-le_of_lt (low x r e h) (leb→le (2 ^ 63) x t)))
  where
    low : (x r : ℕ) → x ≡ 0 + r → r ≤ infinity → x < 2 ^ 63
    low x r e h = omega arith

pub no_nan_bits : (n : ℕ) → n % 2 ^ 63 ≤ infinity → T (not (nan_bits binary64 n))
no_nan_bits n h = subst (λ (b : Bool). T (not b)) (sym (nan_bits_above binary64 n)) (not_T (ltb infinity (n % 2 ^ 63)) (λ t. not-le_of_lt (ltb→lt infinity (n % 2 ^ 63) t) h))
