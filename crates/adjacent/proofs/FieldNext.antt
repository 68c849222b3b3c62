-- The neighbours of a double by its exponent and digits: the next pattern away from 0, or the one before towards 0. Assumes nothing.
use mathlib.Core.Path.{◌≡◌, sym, ap, ap₂, ◌∙◌, subst}
use mathlib.Core.Bool.{Bool, true, false, not}
use Prim.Native.Nat.{ℕ, suc, ◌+◌, ◌-◌, ◌*◌, ◌/◌, ◌%◌, ◌^◌, ◌≤◌, ◌<◌}
use native.Mathlib.Omega.{arith}
use lib.Dec.{T, leb, lit<}
use lib.Ieee.{Float, nan, binary64, of_fields, of_bits, to_bits, fits, neg, nan_bits}
use lib.Ieee.Bits.{of_bits-to_bits}
use Rattle.rank_arithmetic.specs.Rank.{infinity, double}
use Rattle.doubles.specs.declared.Case.{Case}
use Rattle.doubles.specs.declared.Case.TheVariants.{Nan}
use Rattle.doubles.specs.Neighbours.{next_up, next_down}
use Rattle.doubles.specs.Cases.{InCase, first_case}
use Rattle.doubles.proofs.Patterns.{fields_double, neg_fields, double_fits, no_nan_bits}
use Rattle.doubles.proofs.Next.{next_mirror}
use Rattle.doubles.proofs.NextRank.{neighbour, away, toward, below_zero}
use Rattle.doubles.proofs.FirstCase.{first_fits}
use Rattle.exact.proofs.Values.{neg-neg}
use Rattle.adjacent.specs.declared.fields.Fields.{Fields}
use Rattle.adjacent.specs.Fields.{Laid, double_of, plus}

-- ---- by rank
module _ (s : Bool) {e d : ℕ} (E : e < 2 ^ 11 - 1) (D : d < 2 ^ 52) where
  same : of_fields binary64 s e d ≡ double s (e * 2 ^ 52 + d)
  same = fields_double s e d (omega arith) D

  away_rank : {q : ℕ} → q ≡ suc (e * 2 ^ 52 + d) → double s q ≡ neighbour (not s) (of_fields binary64 s e d)
  away_rank g = ap (double s) g ∙ sym (away s (e * 2 ^ 52 + d) (omega arith)) ∙ ap (neighbour (not s)) (sym same)

  toward_rank : {q : ℕ} → suc q ≡ e * 2 ^ 52 + d → double s q ≡ neighbour s (of_fields binary64 s e d)
  toward_rank {q} g = sym (toward s q (omega arith)) ∙ ap (λ (r : ℕ). neighbour s (double s r)) g ∙ ap (neighbour s) (sym same)

-- ---- by exponent and digits, of sign +
module _ {e d : ℕ} (E : e < 2 ^ 11 - 1) (D : d < 2 ^ 52) {i j : ℕ} (I : i < 2 ^ 11 - 1) (J : j < 2 ^ 52) {y : Float} (w : y ≡ plus i j) where
  up_to : i * 2 ^ 52 + j ≡ suc (e * 2 ^ 52 + d) → y ≡ next_up (plus e d)
  up_to g = w ∙ same false I J ∙ away_rank false E D g

  down_to : suc (i * 2 ^ 52 + j) ≡ e * 2 ^ 52 + d → y ≡ next_down (plus e d)
  down_to g = w ∙ same false I J ∙ toward_rank false E D g

module _ (e d : ℕ) (E : e < 2 ^ 11 - 1) {y : Float} where
  pub one_more : d + 1 < 2 ^ 52 → y ≡ plus e (d + 1) → y ≡ next_up (plus e d)
  one_more D w = up_to E (omega (arith, D)) E D w (omega arith)

  pub next_exponent : e + 1 < 2 ^ 11 - 1 → d ≡ 2 ^ 52 - 1 → y ≡ plus (e + 1) 0 → y ≡ next_up (plus e d)
  next_exponent I D w = up_to E (omega (arith, D)) I (lit< tt) w (omega (arith, D))

  pub one_less : 0 < d → d < 2 ^ 52 → y ≡ plus e (d - 1) → y ≡ next_down (plus e d)
  one_less P D w = down_to E D E (omega (arith, D)) w (omega (arith, P))

  pub exponent_before : 0 < e → d ≡ 0 → y ≡ plus (e - 1) (2 ^ 52 - 1) → y ≡ next_down (plus e d)
  exponent_before P D w = down_to E (omega (arith, D)) (omega (arith, E)) (lit< tt) w (omega (arith, P, D))

-- ---- NaN, infinity and zero
is_nan : {e d : ℕ} → Laid e d → Nan ≡ first_case (plus e d) → plus e d ≡ nan
is_nan {e} {d} L g =
    subst (λ (c : Case). InCase c (plus e d)) (sym g)
    (first_fits (plus e d) (subst (λ (x : Float). T (fits binary64 x)) (sym (fields_double false e d L.exponent_bits L.digits_bits)) (double_fits false (e * 2 ^ 52 + d)))).here

pub nan_up : {e d : ℕ} → Laid e d → Nan ≡ first_case (plus e d) → double false 0x7ff8_0000_0000_0000 ≡ next_up (plus e d)
unfolding next_up of_bits
nan_up L g = ap next_up (sym (is_nan L g))

pub nan_down : {e d : ℕ} → Laid e d → Nan ≡ first_case (plus e d) → double false 0x7ff8_0000_0000_0000 ≡ next_down (plus e d)
unfolding next_down of_bits
nan_down L g = ap next_down (sym (is_nan L g))

pub infinity_up : {e d : ℕ} → (e ≡ 2047) × (d ≡ 0) → double false infinity ≡ next_up (plus e d)
unfolding next_up of_fields of_bits
infinity_up g = ap₂ (λ (i j : ℕ). next_up (plus i j)) (sym g.0) (sym g.1)

pub infinity_down : {e d : ℕ} → (e ≡ 2047) × (d ≡ 0) → double false 0x7fef_ffff_ffff_ffff ≡ next_down (plus e d)
unfolding next_down of_fields
infinity_down g = ap₂ (λ (i j : ℕ). next_down (plus i j)) (sym g.0) (sym g.1)

pub zero_up : {e d : ℕ} → (e ≡ 0) × (d ≡ 0) → double false 1 ≡ next_up (plus e d)
zero_up g = away_rank false (omega (arith, g.0)) (omega (arith, g.1)) (omega (arith, g.0, g.1))

pub zero_down : {e d : ℕ} → (e ≡ 0) × (d ≡ 0) → neg (double false 1) ≡ next_down (plus e d)
unfolding of_bits neg
zero_down g = sym below_zero ∙ ap₂ (λ (i j : ℕ). next_down (plus i j)) (sym g.0) (sym g.1)

-- ---- the constants beside them
pub smallest_down : {e d : ℕ} → (e ≡ 0) × (d ≡ 1) → double false 0 ≡ next_down (plus e d)
smallest_down g = toward_rank false (omega (arith, g.0)) (omega (arith, g.1)) (omega (arith, g.0, g.1))

pub largest_up : {e d : ℕ} → (e ≡ 0) × (d ≡ 2 ^ 52 - 1) → double false 0x0010_0000_0000_0000 ≡ next_up (plus e d)
largest_up g = away_rank false (omega (arith, g.0)) (omega (arith, g.1)) (omega (arith, g.0, g.1))

pub max_up : {e d : ℕ} → (e ≡ 2046) × (d ≡ 2 ^ 52 - 1) → double false infinity ≡ next_up (plus e d)
max_up g = away_rank false (omega (arith, g.0)) (omega (arith, g.1)) (omega (arith, g.0, g.1))

-- ---- of sign −
module _ (f : Fields) (x : Float) (s : f.negative ≡ true) (same : double_of f ≡ x) where
  negated : neg x ≡ plus f.exponent f.digits
  negated = ap neg (sym same ∙ ap (λ (t : Bool). of_fields binary64 t f.exponent f.digits) s) ∙ neg_fields true f.exponent f.digits

  pub negative_up : neg (next_down (plus f.exponent f.digits)) ≡ next_up x
  negative_up = ap neg (next_mirror (plus f.exponent f.digits)) ∙ neg-neg _ ∙ ap (λ (y : Float). next_up (neg y)) (sym negated) ∙ ap next_up (neg-neg x)

  pub negative_down : neg (next_up (plus f.exponent f.digits)) ≡ next_down x
  negative_down = ap (λ (y : Float). neg (next_up y)) (sym negated) ∙ sym (next_mirror x)

-- ---- between bits and fields
pub written : (e d : ℕ) → (e < 2 ^ 11 - 1) × (d < 2 ^ 52) → T (not (nan_bits binary64 (e * 2 ^ 52 + d))) × (of_bits binary64 (e * 2 ^ 52 + d) ≡ plus e d)
written e d L = (no_nan_bits (e * 2 ^ 52 + d) (low (e * 2 ^ 52 + d) (omega (arith, L.0, L.1))), sym (same false L.0 L.1))
  where
    low : (b : ℕ) → b < infinity → b % 2 ^ 63 ≤ infinity
    low b l = omega arith

pub laid : (b : ℕ) → Laid (b / 2 ^ 52 % 2 ^ 11) (b % 2 ^ 52)
laid b = record { exponent_bits = omega arith; digits_bits = omega arith }

pub read : (x : Float) {b : ℕ} → T (fits binary64 x) → b ≡ to_bits binary64 x → of_fields binary64 (leb (2 ^ 63) b) (b / 2 ^ 52 % 2 ^ 11) (b % 2 ^ 52) ≡ x
unfolding of_bits
read x {b} h g =
    ap (λ (e : ℕ). of_fields binary64 (leb (2 ^ 63) b) e (b % 2 ^ 52)) (exponent b)
    ∙ ap (of_bits binary64) g
    ∙ of_bits-to_bits binary64 x h
  where
    exponent : (b : ℕ) → b / 2 ^ 52 % 2 ^ 11 ≡ b % 2 ^ 63 / 2 ^ 52
    exponent b = omega arith
