-- Rounding outward keeps the order, leaves a double as it is, and past MAX goes as document 01 says. Assumes nothing.
use mathlib.Core.Path.{◌≡◌, refl, sym, ap, ◌∙◌, subst}
use mathlib.Core.Logic.{◌⊎◌, inl, inr}
use mathlib.Core.Bool.{Bool, true, false, not}
use Prim.Native.Nat.{ℕ, ◌^◌, ◌<◌}
use native.Mathlib.Omega.{arith}
use lib.IntN.{ℤ, pos, neg_ℤ, *ℤ_comm, neg_ℤ-neg_ℤ}
use lib.Dec.{T, lit<}
use lib.Pow.{pow_pos}
use lib.Ieee.{Float, nan, inf, fin, binary64, of_bits, of_fields, odd, fits, is_nan, neg, le}
use lib.Ieee.Fits.{neg-fits}
use lib.Ieee.Scale.{finite}
use Rattle.exact.specs.Value.{sign, signed, exact, exact_at}
use Rattle.exact.specs.Integers.{◌≼◌, ◌≺◌}
use Rattle.exact.proofs.Difference.{differences}
use Rattle.exact.proofs.Order.{≼_refl, ≼_trans, ≼_antisym, ≺_not_≼, neg-≼, neg-≺, *_mono, *_cancel}
use Rattle.exact.proofs.Signed.{SignedLe, signed_≼}
use Rattle.exact.proofs.Compare.{le-exact, le_top, le_bottom}
use Rattle.exact.proofs.Values.{exact_at-neg, finite-neg, neg-neg}
use Rattle.rank_arithmetic.specs.Rank.{at_rank, largest, infinity, double}
use Rattle.doubles.specs.Directed.{with_zero, round_up, round_down, IsUp, IsDown}
use Rattle.rank_arithmetic.proofs.Grid.{at_rank_mono}
use Rattle.doubles.proofs.Patterns.{rank_of, ranked, exact_double, double_fits, double_sign}
use Rattle.doubles.proofs.Zero.{with_zero_own, neg-with_zero, with_zero_twice}
use Rattle.doubles.proofs.Unique.{exact_unique}
use Rattle.doubles.proofs.Directed.{round_up_law}
use Rattle.doubles.proofs.Mirror.{mirror, mirror_up, up_zero, down_zero, round_down_law}

-- a double that is no NaN and not one infinity is finite or the other
pub finite_or : (s : Bool) (x : Float) → T (not (is_nan x)) → (x ≡ inf (not s) → ⊥) → T (finite x) ⊎ (x ≡ inf s)
unfolding is_nan
finite_or s nan h k = absurd h
finite_or true (inf true) h k = inr refl
finite_or false (inf true) h k = absurd (k refl)
finite_or true (inf false) h k = absurd (k refl)
finite_or false (inf false) h k = inr refl
finite_or s (fin t m e) h k = inl tt

-- ---- in order
pub up_mono : (l : ℕ) (z w : ℤ) → z ≼ w → T (le (round_up l z) (round_up l w))
up_mono l z w h =
    let A = round_up_law l z in
    let B = round_up_law l w in
    elim (finite_or false (round_up l w) B.no_nan B.no_other) [
      | inl f ↦ let a = A.least (round_up l w) f B.fit (≼_trans h (B.not_below f)) in (le-exact (round_up l z) (round_up l w) a.0 f A.fit B.fit).1 a.1
      | inr e ↦ subst (λ (x : Float). T (le (round_up l z) x)) (sym e) (le_top (round_up l z) A.no_nan)
    ]

pub down_mono : (l : ℕ) (z w : ℤ) → z ≼ w → T (le (round_down l z) (round_down l w))
down_mono l z w h =
    let A = round_down_law l z in
    let B = round_down_law l w in
    elim (finite_or true (round_down l z) A.no_nan A.no_other) [
      | inl f ↦ let b = B.greatest (round_down l z) f A.fit (≼_trans (A.not_above f) h) in (le-exact (round_down l z) (round_down l w) f b.0 A.fit B.fit).1 b.1
      | inr e ↦ subst (λ (x : Float). T (le x (round_down l w))) (sym e) (le_bottom (round_down l w) B.no_nan)
    ]

-- ---- a double stays, a zero as +0
at_cancel : (l : ℕ) (x y : Float) → exact_at l x ≼ exact_at l y → exact x ≼ exact y
at_cancel l x y h = *_cancel (2 ^ l) (exact x) (exact y) (pow_pos l) (rw (*ℤ_comm (pos (2 ^ l)) (exact x), *ℤ_comm (pos (2 ^ l)) (exact y)) h)

pub up_same : (l : ℕ) (x : Float) → T (finite x) → T (fits binary64 x) → round_up l (exact_at l x) ≡ with_zero false x
up_same l x f h =
    let U = round_up_law l (exact_at l x) in
    let d = round_up l (exact_at l x) in
    let w = U.least x f h (≼_refl (exact_at l x)) in
    sym (up_zero l (exact_at l x)) ∙ exact_unique d x w.0 U.fit f h (≼_antisym w.1 (at_cancel l x d (U.not_below w.0)))

pub down_same : (l : ℕ) (x : Float) → T (finite x) → T (fits binary64 x) → round_down l (exact_at l x) ≡ with_zero false x
down_same l x f h =
    mirror l (exact_at l x)
    ∙ ap (λ (z : ℤ). with_zero false (neg (round_up l z))) (sym (exact_at-neg l x))
    ∙ ap (λ (y : Float). with_zero false (neg y)) (up_same l (neg x) (subst T (sym (finite-neg x)) f) (neg-fits binary64 x h))
    ∙ ap (with_zero false) (neg-with_zero false (neg x) ∙ ap (with_zero true) (neg-neg x))
    ∙ with_zero_twice false true x

-- ---- only one double is least above, or greatest below: two wrong answers can't both be right
one_only : (s : Bool) (d e : Float) → T (not (is_nan d)) → T (not (is_nan e)) → (d ≡ inf (not s) → ⊥) → (e ≡ inf (not s) → ⊥)
    → (T (finite d) → T (finite e)) → (T (finite e) → T (finite d)) → (T (finite d) → T (finite e) → with_zero false d ≡ with_zero false e) → with_zero false d ≡ with_zero false e
one_only s d e t u n m f g same = elim (finite_or s d t n) [
  | inl a ↦ same a (f a)
  | inr a ↦ elim (finite_or s e u m) [
    | inl b ↦ absurd (subst (λ (x : Float). T (finite x)) a (g b))
    | inr b ↦ ap (with_zero false) (a ∙ sym b)
  ]
]

pub up_unique : (l : ℕ) (z : ℤ) (d e : Float) → IsUp l z d → IsUp l z e → with_zero false d ≡ with_zero false e
up_unique l z d e D E =
    let to : T (finite d) → T (finite e) × (exact e ≼ exact d) = λ f. E.least d f D.fit (D.not_below f) in
    let from : T (finite e) → T (finite d) × (exact d ≼ exact e) = λ f. D.least e f E.fit (E.not_below f) in
    one_only false d e D.no_nan E.no_nan D.no_other E.no_other (λ f. (to f).0) (λ f. (from f).0) (λ f g. exact_unique d e f D.fit g E.fit (≼_antisym (from g).1 (to f).1))

pub down_unique : (l : ℕ) (z : ℤ) (d e : Float) → IsDown l z d → IsDown l z e → with_zero false d ≡ with_zero false e
down_unique l z d e D E =
    let to : T (finite d) → T (finite e) × (exact d ≼ exact e) = λ f. E.greatest d f D.fit (D.not_above f) in
    let from : T (finite e) → T (finite d) × (exact e ≼ exact d) = λ f. D.greatest e f E.fit (E.not_above f) in
    one_only true d e D.no_nan E.no_nan D.no_other E.no_other (λ f. (to f).0) (λ f. (from f).0) (λ f g. exact_unique d e f D.fit g E.fit (≼_antisym (to f).1 (from g).1))

-- ---- past MAX
abbrev pub MAX : Float
MAX = double false largest

max-value : T (finite MAX) × (exact MAX ≡ signed false (at_rank 52 largest))
max-value = exact_double false largest (lit< tt)

pub max_greatest : (x : Float) → T (finite x) → T (fits binary64 x) → exact x ≼ exact MAX
max_greatest x f h =
    let X = ranked x f h in
    subst (λ (z : ℤ). z ≼ exact MAX) (sym X.value) (subst (λ (z : ℤ). signed (sign x) (at_rank 52 (rank_of x)) ≼ z) (sym max-value.1) ((signed_≼ (sign x) (at_rank 52 (rank_of x)) false (at_rank 52 largest)).1 (go (sign x) (rank_of x) X.small)))
  where
    go : (s : Bool) (p : ℕ) → p < infinity → SignedLe s (at_rank 52 p) false (at_rank 52 largest)
    go true p h = omega arith
    go false p h = omega (arith, at_rank_mono 52 p largest (omega arith))

at_mono : (l : ℕ) (x y : Float) → exact x ≼ exact y → exact_at l x ≼ exact_at l y
at_mono l x y h = rw (*ℤ_comm (exact x) (pos (2 ^ l)), *ℤ_comm (exact y) (pos (2 ^ l))) (*_mono (pos (2 ^ l)) (exact x) (exact y) (nonneg (2 ^ l)) h)
  where
    nonneg : (n : ℕ) → pos 0 ≼ pos n
    nonneg n = simp differences (omega arith)

max_same : (d : Float) → T (finite d) → T (fits binary64 d) → with_zero false d ≡ d → exact MAX ≼ exact d → d ≡ MAX
max_same d f h z o =
    sym z ∙ exact_unique d MAX f h max-value.0 (double_fits false largest) (≼_antisym (max_greatest d f h) o) ∙ with_zero_own false MAX (double_sign false largest (omega arith))

pub up_past : (l : ℕ) (z : ℤ) → exact_at l MAX ≺ z → round_up l z ≡ inf false
up_past l z h =
    let U = round_up_law l z in
    elim (finite_or false (round_up l z) U.no_nan U.no_other) [
      | inl f ↦ absurd (≺_not_≼ h (≼_trans (U.not_below f) (at_mono l (round_up l z) MAX (max_greatest (round_up l z) f U.fit))))
      | inr e ↦ e
    ]

pub down_past : (l : ℕ) (z : ℤ) → exact_at l MAX ≼ z → round_down l z ≡ MAX
down_past l z h = let D = round_down_law l z in let w = D.greatest MAX max-value.0 (double_fits false largest) h in max_same (round_down l z) w.0 D.fit (down_zero l z) w.1

nonzero : with_zero false (neg MAX) ≡ neg MAX
unfolding neg of_bits of_fields odd lib.Count.count_trailing_zeros
nonzero = refl

-- below −MAX, in the mirror
neg_flip : (a b : ℤ) → a ≺ neg_ℤ b → b ≺ neg_ℤ a
neg_flip a b h = subst (λ (x : ℤ). x ≺ neg_ℤ a) (neg_ℤ-neg_ℤ b) (neg-≺ a (neg_ℤ b) h)

neg_flip_≼ : (a b : ℤ) → a ≼ neg_ℤ b → b ≼ neg_ℤ a
neg_flip_≼ a b h = subst (λ (x : ℤ). x ≼ neg_ℤ a) (neg_ℤ-neg_ℤ b) ((neg-≼ a (neg_ℤ b)).0 h)

pub down_below : (l : ℕ) (z : ℤ) → z ≺ neg_ℤ (exact_at l MAX) → round_down l z ≡ inf true
unfolding neg
down_below l z h = mirror l z ∙ ap (λ (x : Float). with_zero false (neg x)) (up_past l (neg_ℤ z) (neg_flip z (exact_at l MAX) h))

pub up_below : (l : ℕ) (z : ℤ) → z ≼ neg_ℤ (exact_at l MAX) → round_up l z ≡ neg MAX
up_below l z h =
    mirror_up l z ∙ ap (λ (x : Float). with_zero false (neg x)) (down_past l (neg_ℤ z) (neg_flip_≼ z (exact_at l MAX) h)) ∙ nonzero
