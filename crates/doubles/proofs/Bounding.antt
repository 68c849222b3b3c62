-- The two bounds of a number with a sign, from the ranks between which its magnitude lies; and the sums and products that the code bounds. Assumes nothing.
use mathlib.Core.Path.{◌≡◌, refl, sym, ap, ap₂, ◌∙◌, subst}
use mathlib.Core.Logic.{◌⊎◌, inl, inr}
use mathlib.Core.Bool.{Bool, true, false, not, cond, beq, true≢false}
use Prim.Native.Nat.{ℕ, zero, suc, ◌+◌, ◌-◌, ◌*◌, ◌%◌, ◌^◌, ◌≤◌, ◌<◌, min}
use native.Mathlib.Nat.{le_refl, le_trans, le_of_eq, le_of_lt, not-le_of_lt, mul-one, le_antisymm, zero-mul, mul-zero}
use native.Mathlib.Omega.{arith}
use lib.IntN.{ℤ, ◌+ℤ◌, ◌*ℤ◌, +ℤ_idr}
use lib.Dec.{T, leb}
use lib.Ieee.{Float, nan, inf, fin, binary64, unlike, to_bits, fits, mul}
use lib.Ieee.Scale.{finite}
use Rattle.exact.specs.Value.{sign, signed, exact}
use Rattle.exact.proofs.Naturals.{le_or_lt}
use Rattle.exact.proofs.Signed.{signed_zero, signed_+, signed--, signed_*}
use Rattle.rank_arithmetic.specs.Rank.{at_rank, rank_down, rank_up, largest, infinity, double}
use Rattle.doubles.specs.Directed.{with_zero, round_down, round_up, sum_with, product_with}
use Rattle.rank_arithmetic.proofs.Grid.{at_rank-zero, at_rank-lt, at_rank_step, rank_up_iff}
use Rattle.rank_arithmetic.proofs.RankSums.{rank_down_between}
use Rattle.rank_arithmetic.proofs.WideRanks.{RankBounds}
use Rattle.doubles.proofs.Patterns.{rank_of, pattern, ranked, finite_no_nan, sign_test, rank_of_mod}
use Rattle.doubles.proofs.Zero.{zero_plus}
use Rattle.doubles.proofs.Mirror.{rank_down-zero, rank_up-zero}

-- ---- the bounds of ±n
up_signed : (l : ℕ) (s : Bool) (n : ℕ) → cond s (with_zero false (double true (min (rank_down 52 l n) largest))) (double false (min (rank_up 52 l n) infinity)) ≡ round_up l (signed s n)
unfolding round_up
up_signed l false n = refl
up_signed l true zero = ap (λ (x : ℕ). with_zero false (double true (min x largest))) (rank_down-zero l) ∙ zero_plus true ∙ sym (ap (λ (x : ℕ). double false (min x infinity)) (rank_up-zero l))
up_signed l true (suc n) = refl

down_signed : (l : ℕ) (s : Bool) (n : ℕ) → cond s (with_zero false (double true (min (rank_up 52 l n) infinity))) (double false (min (rank_down 52 l n) largest)) ≡ round_down l (signed s n)
unfolding round_down
down_signed l false n = refl
down_signed l true zero = ap (λ (x : ℕ). with_zero false (double true (min x infinity))) (rank_up-zero l) ∙ zero_plus true ∙ sym (ap (λ (x : ℕ). double false (min x largest)) (rank_down-zero l))
down_signed l true (suc n) = refl

-- what `spread` ensures of its two ends
abbrev pub Spread : Bool → ℕ → ℕ → Float → Float → Type 0
Spread s d u x y = (x ≡ cond s (with_zero false (double true u)) (double false d)) × (y ≡ cond s (with_zero false (double true d)) (double false u))

-- x and y are z / 2 ^ l units rounded down and up
abbrev pub Bounds : ℕ → ℤ → Float → Float → Type 0
Bounds l z x y = (x ≡ round_down l z) × (y ≡ round_up l z)

pub bounds : (l : ℕ) (s : Bool) (n : ℕ) {d u : ℕ} {x y : Float} {z : ℤ} → RankBounds l n d u → z ≡ signed s n → Spread s d u x y → Bounds l z x y
bounds l s n {d} {u} B e h = (
  h.0
      ∙ ap (λ (r : ℕ). cond s (with_zero false (double true r)) (double false d)) B.1
      ∙ ap (λ (r : ℕ). cond s (with_zero false (double true (min (rank_up 52 l n) infinity))) (double false r)) B.0
      ∙ down_signed l s n
      ∙ sym (ap (round_down l) e),
  h.1
      ∙ ap (λ (r : ℕ). cond s (with_zero false (double true r)) (double false u)) B.0
      ∙ ap (λ (r : ℕ). cond s (with_zero false (double true (min (rank_down 52 l n) largest))) (double false r)) B.1
      ∙ up_signed l s n
      ∙ sym (ap (round_up l) e),
)

pub between_zero : (l : ℕ) → RankBounds l 0 0 0
between_zero l = (sym (ap (λ (x : ℕ). min x largest) (rank_down-zero l)), sym (ap (λ (x : ℕ). min x infinity) (rank_up-zero l)))

-- a double lies between itself and itself
pub between_self : (r : ℕ) → r < infinity → RankBounds 0 (at_rank 52 r) r r
between_self r h = (lower r (rank_down 52 0 (at_rank 52 r)) h (rank_down_between r (at_rank 52 r) (le_refl (at_rank 52 r)) (at_rank_step 52 r)), upper r (rank_up 52 0 (at_rank 52 r)) h same)
  where
    lower : (r x : ℕ) → r < infinity → x ≡ r → r ≡ min x largest
    lower r x h e = omega arith

    upper : (r x : ℕ) → r < infinity → x ≡ r → r ≡ min x infinity
    upper r x h e = omega arith

    same : rank_up 52 0 (at_rank 52 r) ≡ r
    same =
        let u = rank_up 52 0 (at_rank 52 r) in
        let a : u ≤ r = (rank_up_iff 52 0 (at_rank 52 r) r).0 (le_of_eq (sym (mul-one (at_rank 52 r)))) in
        elim (le_or_lt r u) [
          | inl g ↦ omega arith
          | inr g ↦ absurd (not-le_of_lt (at_rank-lt 52 u r g) (le_trans ((rank_up_iff 52 0 (at_rank 52 r) u).1 (le_refl u)) (le_of_eq (mul-one (at_rank 52 u)))))
        ]

-- ---- sums by signs and ranks
pub sum-zero : (s n : Bool) (r t : ℕ) → t ≡ 0 → signed s (at_rank 52 r) +ℤ signed n (at_rank 52 t) ≡ signed s (at_rank 52 r)
sum-zero s n r t e = ap (λ (z : ℤ). signed s (at_rank 52 r) +ℤ z) (ap (λ (x : ℕ). signed n (at_rank 52 x)) e ∙ ap (signed n) at_rank-zero ∙ signed_zero n) ∙ +ℤ_idr (signed s (at_rank 52 r))

alike : (s n : Bool) → beq s n ≡ true → n ≡ s
alike true true e = refl
alike false false e = refl
alike true false e = absurd (true≢false (sym e))
alike false true e = absurd (true≢false (sym e))

pub sum_like : (s n : Bool) (r t : ℕ) → beq s n ≡ true → signed s (at_rank 52 r) +ℤ signed n (at_rank 52 t) ≡ signed s (at_rank 52 r + at_rank 52 t)
sum_like s n r t e = ap (λ (c : Bool). signed s (at_rank 52 r) +ℤ signed c (at_rank 52 t)) (alike s n e) ∙ signed_+ s (at_rank 52 r) (at_rank 52 t)

pub sum_unlike : (s n : Bool) (r t : ℕ) → beq s n ≡ false → t < r → signed s (at_rank 52 r) +ℤ signed n (at_rank 52 t) ≡ signed s (at_rank 52 r - at_rank 52 t)
sum_unlike s n r t h l = signed-- s n (at_rank 52 r) (at_rank 52 t) (ap not h) (le_of_lt (at_rank-lt 52 t r l))

pub sum_none : (s n : Bool) (r t : ℕ) → beq s n ≡ false → t ≤ r → r ≤ t → signed s (at_rank 52 r) +ℤ signed n (at_rank 52 t) ≡ signed false 0
sum_none s n r t h k l =
    let e : t ≡ r = le_antisymm k l in
    ap (λ (x : ℕ). signed s (at_rank 52 r) +ℤ signed n (at_rank 52 x)) e
    ∙ signed-- s n (at_rank 52 r) (at_rank 52 r) (ap not h) (le_refl (at_rank 52 r))
    ∙ ap (signed s) (none (at_rank 52 r))
    ∙ signed_zero s
  where
    none : (a : ℕ) → a - a ≡ 0
    none a = omega arith

-- ---- a finite double as the code takes it apart
pub record Parts (a : Float) (r : ℕ) (s : Bool) : Type 0 where
  pub small : r < infinity
  pub value : exact a ≡ signed s (at_rank 52 r)

pub parts : (a : Float) → T (finite a) → T (fits binary64 a) → Parts a (to_bits binary64 a % 2 ^ 63) (leb (2 ^ 63) (to_bits binary64 a))
parts a f h =
    let w = pattern a (finite_no_nan a f) h in
    let X = ranked a f h in
    let p = rank_of_mod (to_bits binary64 a) (sign a) (rank_of a) w.bits w.most in
    record {
      small = subst (λ (x : ℕ). x < infinity) (sym p) X.small;
      value = X.value ∙ ap (λ (x : ℕ). signed (sign a) (at_rank 52 x)) (sym p) ∙ ap (λ (s : Bool). signed s (at_rank 52 (to_bits binary64 a % 2 ^ 63))) (sym (sign_test (to_bits binary64 a) (sign a) (rank_of a) w.bits w.most));
    }

module _ {a b : Float} {r t : ℕ} {s n : Bool} (A : Parts a r s) (B : Parts b t n) where
  pub parts_sum : exact a +ℤ exact b ≡ signed s (at_rank 52 r) +ℤ signed n (at_rank 52 t)
  parts_sum = ap₂ ◌+ℤ◌ A.value B.value

  pub parts_product : exact a *ℤ exact b ≡ signed (unlike s n) (at_rank 52 r * at_rank 52 t)
  parts_product = ap₂ ◌*ℤ◌ A.value B.value ∙ signed_* s n (at_rank 52 r) (at_rank 52 t)

  product_none : at_rank 52 r * at_rank 52 t ≡ 0 → exact a *ℤ exact b ≡ signed false 0
  product_none e = parts_product ∙ ap (signed (unlike s n)) e ∙ signed_zero (unlike s n)

  pub product_zero_l : r ≡ 0 → exact a *ℤ exact b ≡ signed false 0
  product_zero_l e = product_none (ap (λ (x : ℕ). x * at_rank 52 t) (ap (at_rank 52) e ∙ at_rank-zero) ∙ zero-mul (at_rank 52 t))

  pub product_zero_r : t ≡ 0 → exact a *ℤ exact b ≡ signed false 0
  product_zero_r e = product_none (ap (λ (x : ℕ). at_rank 52 r * x) (ap (at_rank 52) e ∙ at_rank-zero) ∙ mul-zero (at_rank 52 r))

-- the same bounds of an equal number
pub bounds_of : (l : ℕ) {z w : ℤ} {x y : Float} → z ≡ w → Bounds l w x y → Bounds l z x y
bounds_of l e h = (h.0 ∙ sym (ap (round_down l) e), h.1 ∙ sym (ap (round_up l) e))

-- ---- operands that are not finite
pub sum_stays : (f : ℤ → Float) (a b : Float) → finite a ≡ false → a ≡ sum_with f a b
unfolding sum_with
sum_stays f nan b e = refl
sum_stays f (inf s) b e = refl
sum_stays f (fin s m d) b e = absurd (true≢false e)

pub sum_takes : (f : ℤ → Float) (a b : Float) → T (finite a) → finite b ≡ false → b ≡ sum_with f a b
unfolding sum_with
sum_takes f nan b t e = absurd t
sum_takes f (inf s) b t e = absurd t
sum_takes f (fin s m d) nan t e = refl
sum_takes f (fin s m d) (inf r) t e = refl
sum_takes f (fin s m d) (fin r n c) t e = absurd (true≢false e)

pub sum-finite : (f : ℤ → Float) (a b : Float) → T (finite a) → T (finite b) → f (exact a +ℤ exact b) ≡ sum_with f a b
unfolding sum_with
sum-finite f nan b t u = absurd t
sum-finite f (inf s) b t u = absurd t
sum-finite f (fin s m d) nan t u = absurd u
sum-finite f (fin s m d) (inf r) t u = absurd u
sum-finite f (fin s m d) (fin r n c) t u = refl

pub product_finite : (f : ℤ → Float) (a b : Float) → T (finite a) → T (finite b) → f (exact a *ℤ exact b) ≡ product_with f a b
unfolding product_with
product_finite f nan b t u = absurd t
product_finite f (inf s) b t u = absurd t
product_finite f (fin s m d) nan t u = absurd u
product_finite f (fin s m d) (inf r) t u = absurd u
product_finite f (fin s m d) (fin r n c) t u = refl

pub product_other : (f : ℤ → Float) (a b : Float) → (finite a ≡ false) ⊎ (finite b ≡ false) → mul binary64 a b ≡ product_with f a b
unfolding product_with
product_other f nan b h = refl
product_other f (inf s) b h = refl
product_other f (fin s m d) nan h = refl
product_other f (fin s m d) (inf r) h = refl
product_other f (fin s m d) (fin r n c) (inl e) = absurd (true≢false e)
product_other f (fin s m d) (fin r n c) (inr e) = absurd (true≢false e)
