-- The first case that fits, told by exponent and digits. Assumes nothing.
use mathlib.Core.Path.{◌≡◌, refl, sym, ap, ap₂, ◌∙◌, subst}
use mathlib.Core.Logic.{inl, inr}
use mathlib.Core.Bool.{Bool, true, false, not, cond, ◌&&◌}
use Prim.Native.Nat.{ℕ, zero, suc, ◌+◌, ◌-◌, ◌*◌, ◌^◌, ◌<◌}
use native.Mathlib.Nat.{le_antisymm}
use native.Mathlib.Omega.{arith}
use lib.Count.{ones, ones_cat}
use lib.Dec.{T, eqb, eqb→eq, eqb_refl, eqb-suc-zero, not_T, lit<, ltb, ltb→lt}
use lib.Pow.{pow_pos}
use lib.Ieee.{Float, nan, inf, fin, of_fields, size}
use lib.Ieee.Bits.{is_false}
use lib.Ieee.Fits.{and_l, and_r}
use lib.Ieee.Scale.{finite}
use Rattle.std.specs.Int.{is_power_of_two}
use Rattle.std.proofs.lemmas.Nat.{zero_from_ones}
use Rattle.exact.specs.Value.{magnitude}
use Rattle.exact.proofs.Naturals.{le_or_lt}
use Rattle.exact.proofs.Compare.{same_bool}
use Rattle.rank_arithmetic.specs.Rank.{at_rank, largest, infinity, double}
use Rattle.rank_arithmetic.proofs.Grid.{at_rank_form, rank_at_rank}
use Rattle.doubles.specs.declared.Case.{Case}
use Rattle.doubles.specs.declared.Case.TheVariants.{Nan, Infinity, Zero, SmallestSubnormal, LargestSubnormal, PowerOfTwo, Max, Rest}
use Rattle.doubles.specs.Cases.{largest_subnormal, max, of_magnitude, first_case}
use Rattle.doubles.proofs.Patterns.{fields_double, exact_double, magnitude_double}
use Rattle.doubles.proofs.PowersOfTwo.{counted}
use Rattle.adjacent.specs.Fields.{Laid, plus, inner}

-- ---- tests of numbers
pub no : (a b : ℕ) → (a ≡ b → ⊥) → eqb a b ≡ false
no a b n = is_false (eqb a b) (not_T (eqb a b) (λ t. n (eqb→eq a b t)))

both : (a b : Bool) → T a → T b → T (a && b)
both true b t u = u
both false b t u = t

-- of ranks instead of magnitudes, and of exponent and digits instead of ranks
rank_test : (r q : ℕ) → eqb (at_rank 52 r) (at_rank 52 q) ≡ eqb r q
rank_test r q = same_bool (eqb (at_rank 52 r) (at_rank 52 q)) (eqb r q)
    (λ t. subst (λ (p : ℕ). T (eqb r p)) (same (eqb→eq (at_rank 52 r) (at_rank 52 q) t)) (eqb_refl r))
    (λ t. subst (λ (p : ℕ). T (eqb (at_rank 52 r) (at_rank 52 p))) (eqb→eq r q t) (eqb_refl (at_rank 52 r)))
  where
    same : at_rank 52 r ≡ at_rank 52 q → r ≡ q
    same e = sym (rank_at_rank 52 r) ∙ ap (λ (n : ℕ). Rattle.rank_arithmetic.specs.Rank.rank 52 n) e ∙ rank_at_rank 52 q

fields_test : (e d x y : ℕ) → d < 2 ^ 52 → y < 2 ^ 52 → eqb (e * 2 ^ 52 + d) (x * 2 ^ 52 + y) ≡ (eqb e x && eqb d y)
fields_test e d x y l k = same_bool (eqb (e * 2 ^ 52 + d) (x * 2 ^ 52 + y)) (eqb e x && eqb d y)
    (λ t. let s = apart e d x y l k (eqb→eq (e * 2 ^ 52 + d) (x * 2 ^ 52 + y) t) in
    both (eqb e x) (eqb d y) (subst (λ (n : ℕ). T (eqb e n)) s.0 (eqb_refl e)) (subst (λ (n : ℕ). T (eqb d n)) s.1 (eqb_refl d)))
    (λ t.
    let same = ap₂ (λ (i j : ℕ). i * 2 ^ 52 + j) (eqb→eq e x (and_l (eqb e x) (eqb d y) t)) (eqb→eq d y (and_r (eqb e x) (eqb d y) t)) in
    subst (λ (n : ℕ). T (eqb (e * 2 ^ 52 + d) n)) same (eqb_refl (e * 2 ^ 52 + d)))
  where
    apart : (e d x y : ℕ) → d < 2 ^ 52 → y < 2 ^ 52 → e * 2 ^ 52 + d ≡ x * 2 ^ 52 + y → (e ≡ x) × (d ≡ y)
    apart e d x y l k g = (omega arith, omega arith)

-- a leading one and other digits are a power of two where no other is set
count : (k d : ℕ) → d < 2 ^ 52 → ones ((2 ^ 52 + d) * 2 ^ k) ≡ 1 + ones d
unfolding ones
count k d l =
    ap ones (padded ((2 ^ 52 + d) * 2 ^ k))
    ∙ ones_cat k (2 ^ 52 + d) 0 (pow_pos k)
    ∙ sym (padded (ones (2 ^ 52 + d)))
    ∙ ap ones (led d)
    ∙ ones_cat 52 1 d l
  where
    padded : (n : ℕ) → n ≡ n + 0
    padded n = omega arith

    led : (d : ℕ) → 2 ^ 52 + d ≡ 1 * 2 ^ 52 + d
    led d = omega arith

one_digit : ones 0 ≡ 0
unfolding ones
one_digit = refl

normal_power : (k d : ℕ) → d < 2 ^ 52 → is_power_of_two ((2 ^ 52 + d) * 2 ^ k) ≡ eqb d 0
normal_power k d l = ap (λ (n : ℕ). eqb n 1) (count k d l) ∙ same_bool (eqb (1 + ones d) 1) (eqb d 0)
    (λ t. subst (λ (n : ℕ). T (eqb n 0)) (sym (zero_from_ones d (omega (arith, eqb→eq (1 + ones d) 1 t)))) tt)
    (λ t. subst (λ (n : ℕ). T (eqb (1 + n) 1)) (sym (ap ones (eqb→eq d 0 t) ∙ one_digit)) tt)

-- ---- the tests in order
abbrev pub power_test : ℕ → ℕ → Bool
power_test e d = cond (eqb e 0) (is_power_of_two d) (eqb d 0)

abbrev chain : Bool → Bool → Bool → Bool → Bool → Case
chain zero_ smallest_ largest_ power_ max_ = cond zero_ Zero (cond smallest_ SmallestSubnormal (cond largest_ LargestSubnormal (cond power_ PowerOfTwo (cond max_ Max Rest))))

abbrev pub told : ℕ → ℕ → Case
told e d =
    cond (eqb e 2047 && not (eqb d 0)) Nan
    (cond (eqb e 2047) Infinity
    (chain (eqb e 0 && eqb d 0) (eqb e 0 && eqb d 1) (eqb e 0 && eqb d (2 ^ 52 - 1)) (power_test e d) (eqb e 2046 && eqb d (2 ^ 52 - 1))))

pub finite_case : (x : Float) → T (finite x) → first_case x ≡ of_magnitude (magnitude x)
unfolding first_case
finite_case nan f = absurd f
finite_case (inf s) f = absurd f
finite_case (fin s m e) f = refl

module _ (e d : ℕ) (l : d < 2 ^ 52) where
  abbrev r : ℕ
  r = e * 2 ^ 52 + d

  -- subnormals, and normal numbers
  digits_power : is_power_of_two (at_rank 52 r) ≡ power_test e d
  digits_power = elim e as (λ e. is_power_of_two (at_rank 52 (e * 2 ^ 52 + d)) ≡ power_test e d) [
    | zero ↦ ap is_power_of_two (at_rank_form 52 0 d (inl refl) (omega arith) ∙ one d)
    | suc k ↦
        ap is_power_of_two (ap (at_rank 52) (shifted k d) ∙ at_rank_form 52 k (2 ^ 52 + d) (inr (omega arith)) (omega arith))
        ∙ normal_power k d l
        ∙ ap (λ (b : Bool). cond b (is_power_of_two d) (eqb d 0)) (sym (eqb-suc-zero k))
  ]
    where
      one : (d : ℕ) → d * 2 ^ 0 ≡ d
      one d = omega arith

      shifted : (k d : ℕ) → suc k * 2 ^ 52 + d ≡ k * 2 ^ 52 + (2 ^ 52 + d)
      shifted k d = omega arith

  power_is : eqb (at_rank 52 r) (2 ^ (size (at_rank 52 r) - 1)) ≡ power_test e d
  power_is = counted (at_rank 52 r) ∙ digits_power

  magnitude_case : of_magnitude (at_rank 52 r) ≡ chain (eqb e 0 && eqb d 0) (eqb e 0 && eqb d 1) (eqb e 0 && eqb d (2 ^ 52 - 1)) (power_test e d) (eqb e 2046 && eqb d (2 ^ 52 - 1))
  unfolding at_rank
  magnitude_case =
      let n = at_rank 52 r in
      ap (λ (b : Bool). chain b (eqb n 1) (eqb n largest_subnormal) (eqb n (2 ^ (size n - 1))) (eqb n max)) (rank_test r 0 ∙ fields_test e d 0 0 l (lit< tt))
      ∙ ap (λ (b : Bool). chain (eqb e 0 && eqb d 0) b (eqb n largest_subnormal) (eqb n (2 ^ (size n - 1))) (eqb n max)) (rank_test r 1 ∙ fields_test e d 0 1 l (lit< tt))
      ∙ ap (λ (b : Bool). chain (eqb e 0 && eqb d 0) (eqb e 0 && eqb d 1) b (eqb n (2 ^ (size n - 1))) (eqb n max)) (rank_test r (2 ^ 52 - 1) ∙ fields_test e d 0 (2 ^ 52 - 1) l (lit< tt))
      ∙ ap (λ (b : Bool). chain (eqb e 0 && eqb d 0) (eqb e 0 && eqb d 1) (eqb e 0 && eqb d (2 ^ 52 - 1)) b (eqb n max)) power_is
      ∙ ap (λ (b : Bool). chain (eqb e 0 && eqb d 0) (eqb e 0 && eqb d 1) (eqb e 0 && eqb d (2 ^ 52 - 1)) (power_test e d) b)
      (ap (eqb n) (sym (at_rank_form 52 2045 (2 ^ 53 - 1) (inr (omega arith)) (lit< tt))) ∙ rank_test r largest ∙ fields_test e d 2046 (2 ^ 52 - 1) l (lit< tt))

  -- below the exponent of infinities
  finite_told : e < 2047 → first_case (plus e d) ≡ told e d
  finite_told k =
      ap first_case (fields_double false e d (omega arith) l)
      ∙ finite_case (double false r) (exact_double false r room).0
      ∙ ap of_magnitude (magnitude_double false r room)
      ∙ magnitude_case
      ∙ ap (λ (b : Bool). cond (b && not (eqb d 0)) Nan (cond b Infinity rest)) (sym (no e 2047 (less e k)))
    where
      rest : Case
      rest = chain (eqb e 0 && eqb d 0) (eqb e 0 && eqb d 1) (eqb e 0 && eqb d (2 ^ 52 - 1)) (power_test e d) (eqb e 2046 && eqb d (2 ^ 52 - 1))

      room : r < infinity
      room = omega arith

      less : (e : ℕ) → e < 2047 → e ≡ 2047 → ⊥
      less e k g = omega arith

infinite_told : (d : ℕ) → first_case (plus 2047 d) ≡ told 2047 d
unfolding of_fields first_case
infinite_told d = go (eqb d 0) refl
  where
    go : (b : Bool) → eqb d 0 ≡ b → first_case (cond b (inf false) nan) ≡ cond (not b) Nan Infinity
    go true e = refl
    go false e = refl

pub told_is : {e d : ℕ} → Laid e d → first_case (plus e d) ≡ told e d
told_is {e} {d} L = elim (le_or_lt 2047 e) [
  | inl l ↦ subst (λ (n : ℕ). first_case (plus n d) ≡ told n d) (le_antisymm l (omega (arith, L.exponent_bits))) (infinite_told d)
  | inr l ↦ finite_told e d L.digits_bits l
]

-- ---- between the ends
pub inside : (e d : ℕ) → inner e d ≡ true → (0 < e) × (e < 2 ^ 11 - 1) × (0 < d) × (d < 2 ^ 52 - 1)
inside e d t =
    let u : T (inner e d) = subst T (sym t) tt in
    let x = and_l (ltb 0 e && ltb e (2 ^ 11 - 1)) (ltb 0 d && ltb d (2 ^ 52 - 1)) u in
    let y = and_r (ltb 0 e && ltb e (2 ^ 11 - 1)) (ltb 0 d && ltb d (2 ^ 52 - 1)) u in (
      ltb→lt 0 e (and_l (ltb 0 e) (ltb e (2 ^ 11 - 1)) x),
      ltb→lt e (2 ^ 11 - 1) (and_r (ltb 0 e) (ltb e (2 ^ 11 - 1)) x),
      ltb→lt 0 d (and_l (ltb 0 d) (ltb d (2 ^ 52 - 1)) y),
      ltb→lt d (2 ^ 52 - 1) (and_r (ltb 0 d) (ltb d (2 ^ 52 - 1)) y),
    )

last : (b : Bool) → cond (b && false) Max Rest ≡ Rest
last true = refl
last false = refl

pub inner_is : (e d : ℕ) → Laid e d → inner e d ≡ true → Rest ≡ first_case (plus e d)
inner_is e d L t = sym (told_is L ∙ rest e d (inside e d t))
  where
    rest : (e d : ℕ) → (0 < e) × (e < 2 ^ 11 - 1) × (0 < d) × (d < 2 ^ 52 - 1) → told e d ≡ Rest
    rest e d b = rw (no e 2047 (λ g. omega (arith, b.1)), no e 0 (λ g. omega (arith, b.0)), no d 0 (λ g. omega (arith, b.2)), no d (2 ^ 52 - 1) (λ g. omega (arith, b.3))) (last (eqb e 2046))

-- ---- the case that the tests leave, one after the other
module _ {e d : ℕ} (L : Laid e d) where
  pub told_nan : (eqb e 2047 && not (eqb d 0)) ≡ true → Nan ≡ first_case (plus e d)
  told_nan t = sym (told_is L ∙ rw t refl)

  module _ (nan : (eqb e 2047 && not (eqb d 0)) ≡ false) where
    pub told_infinity : e ≡ 2047 → Infinity ≡ first_case (plus e d)
    told_infinity t = sym (told_is L ∙ rw (nan, t) refl)

    module _ (infinite : e ≡ 2047 → ⊥) where
      finite_exponent : eqb e 2047 ≡ false
      finite_exponent = no e 2047 infinite

      pub told_zero : (eqb e 0 && eqb d 0) ≡ true → Zero ≡ first_case (plus e d)
      told_zero t = sym (told_is L ∙ rw (nan, finite_exponent, t) refl)

      module _ (zeros : (eqb e 0 && eqb d 0) ≡ false) where
        pub told_smallest : (eqb e 0 && eqb d 1) ≡ true → SmallestSubnormal ≡ first_case (plus e d)
        told_smallest t = sym (told_is L ∙ rw (nan, finite_exponent, zeros, t) refl)

        module _ (smallest : (eqb e 0 && eqb d 1) ≡ false) where
          pub told_largest : (eqb e 0 && eqb d (2 ^ 52 - 1)) ≡ true → LargestSubnormal ≡ first_case (plus e d)
          told_largest t = sym (told_is L ∙ rw (nan, finite_exponent, zeros, smallest, t) refl)

          module _ (largest_ : (eqb e 0 && eqb d (2 ^ 52 - 1)) ≡ false) where
            pub told_power : power_test e d ≡ true → PowerOfTwo ≡ first_case (plus e d)
            told_power t = sym (told_is L ∙ rw (nan, finite_exponent, zeros, smallest, largest_, t) refl)

            module _ (power_ : power_test e d ≡ false) where
              pub told_max : (eqb e 2046 && eqb d (2 ^ 52 - 1)) ≡ true → Max ≡ first_case (plus e d)
              told_max t = sym (told_is L ∙ rw (nan, finite_exponent, zeros, smallest, largest_, power_, t) refl)

              pub told_rest : (eqb e 2046 && eqb d (2 ^ 52 - 1)) ≡ false → Rest ≡ first_case (plus e d)
              told_rest t = sym (told_is L ∙ rw (nan, finite_exponent, zeros, smallest, largest_, power_, t) refl)

-- ---- what a case says of exponent and digits
abbrev pub Told : Case → ℕ → ℕ → Type 0
Told Nan e d = e ≡ 2047
Told Infinity e d = (e ≡ 2047) × (d ≡ 0)
Told Zero e d = (e ≡ 0) × (d ≡ 0)
Told SmallestSubnormal e d = (e ≡ 0) × (d ≡ 1)
Told LargestSubnormal e d = (e ≡ 0) × (d ≡ 2 ^ 52 - 1)
Told PowerOfTwo e d = (e < 2047) × (d < 2 ^ 52 - 1) × (d ≡ 0 → 0 < e)
Told Max e d = (e ≡ 2046) × (d ≡ 2 ^ 52 - 1)
Told Rest e d = (e < 2047) × (0 < d) × (d ≡ 2 ^ 52 - 1 → e < 2046)

is : (a b : ℕ) → eqb a b ≡ true → a ≡ b
is a b t = eqb→eq a b (subst T (sym t) tt)

is_not : (a b : ℕ) → eqb a b ≡ false → a ≡ b → ⊥
is_not a b f e = subst T (sym (ap (eqb a) (sym e)) ∙ f) (eqb_refl a)

pub are : (e x d y : ℕ) → (eqb e x && eqb d y) ≡ true → (e ≡ x) × (d ≡ y)
are e x d y t = let u = subst T (sym t) tt in (eqb→eq e x (and_l (eqb e x) (eqb d y) u), eqb→eq d y (and_r (eqb e x) (eqb d y) u))

are_not : (e x d y : ℕ) → (eqb e x && eqb d y) ≡ false → e ≡ x → d ≡ y → ⊥
are_not e x d y f g h =
    subst T f (both (eqb e x) (eqb d y) (subst (λ (n : ℕ). T (eqb e n)) g (eqb_refl e)) (subst (λ (n : ℕ). T (eqb d n)) h (eqb_refl d)))

module _ {e d : ℕ} (L : Laid e d) where
  either_way : (b : Bool) (x y : Case) → (b ≡ true → Told x e d) → (b ≡ false → Told y e d) → Told (cond b x y) e d
  either_way true x y t f = t refl
  either_way false x y t f = f refl

  zero_digits : (eqb e 2047 && not (eqb d 0)) ≡ false → e ≡ 2047 → d ≡ 0
  zero_digits f g = elim (le_or_lt d 0) [
    | inl l ↦ omega arith
    | inr l ↦ absurd (subst T f (both (eqb e 2047) (not (eqb d 0)) (subst (λ (n : ℕ). T (eqb e n)) g (eqb_refl e)) (subst (λ (b : Bool). T (not b)) (sym (no d 0 (λ z. omega arith))) tt)))
  ]

  small_exponent : eqb e 2047 ≡ false → e < 2047
  small_exponent f = elim (le_or_lt 2047 e) [ inl l ↦ absurd (is_not e 2047 f (omega (arith, L.exponent_bits))) | inr l ↦ l ]

  -- one digit set, none of the cases before
  of_power : e < 2047 → (eqb e 0 && eqb d 0) ≡ false → (eqb e 0 && eqb d (2 ^ 52 - 1)) ≡ false → power_test e d ≡ true → Told PowerOfTwo e d
  of_power k z o t = (
    k,
    elim (le_or_lt e 0) [
      | inl l ↦ elim (le_or_lt (2 ^ 52 - 1) d) [ inl m ↦ absurd (are_not e 0 d (2 ^ 52 - 1) o (omega arith) (omega (arith, L.digits_bits))) | inr m ↦ m ]
      | inr l ↦ omega (arith, is d 0 (sym (ap (λ (b : Bool). cond b (is_power_of_two d) (eqb d 0)) (no e 0 (λ g. omega arith))) ∙ t))
    ],
    λ g. elim (le_or_lt e 0) [ inl l ↦ absurd (are_not e 0 d 0 z (omega arith) g) | inr l ↦ l ],
  )

  of_rest : e < 2047 → (eqb e 0 && eqb d 0) ≡ false → power_test e d ≡ false → (eqb e 2046 && eqb d (2 ^ 52 - 1)) ≡ false → Told Rest e d
  of_rest k z p m = (
    k,
    elim (le_or_lt d 0) [
      | inl l ↦ elim (le_or_lt e 0) [
        | inl g ↦ absurd (are_not e 0 d 0 z (omega arith) (omega arith))
        | inr g ↦ absurd (is_not d 0 (sym (ap (λ (b : Bool). cond b (is_power_of_two d) (eqb d 0)) (no e 0 (λ h. omega arith))) ∙ p) (omega arith))
      ]
      | inr l ↦ l
    ],
    λ g. elim (le_or_lt 2046 e) [ inl l ↦ absurd (are_not e 2046 d (2 ^ 52 - 1) m (omega arith) g) | inr l ↦ l ],
  )

  of_told : Told (told e d) e d
  of_told =
      either_way _ Nan _ (λ t. eqb→eq e 2047 (and_l (eqb e 2047) (not (eqb d 0)) (subst T (sym t) tt)))
      (λ n. either_way _ Infinity _ (λ t. (is e 2047 t, zero_digits n (is e 2047 t)))
      (λ f. either_way _ Zero _ (are e 0 d 0)
      (λ z. either_way _ SmallestSubnormal _ (are e 0 d 1)
      (λ s. either_way _ LargestSubnormal _ (are e 0 d (2 ^ 52 - 1))
      (λ o. either_way _ PowerOfTwo _ (of_power (small_exponent f) z o)
      (λ p. either_way _ Max Rest (are e 2046 d (2 ^ 52 - 1)) (of_rest (small_exponent f) z p)))))))

  pub of_case : {c : Case} → c ≡ first_case (plus e d) → Told c e d
  of_case g = subst (λ (c : Case). Told c e d) (sym (g ∙ told_is L)) of_told

pub not_last : (d : ℕ) → d < 2 ^ 52 → (d ≡ 2 ^ 52 - 1 → ⊥) → d + 1 < 2 ^ 52
not_last d l n = omega arith

pub not_first : (d : ℕ) → (d ≡ 0 → ⊥) → 0 < d
not_first d n = omega arith
