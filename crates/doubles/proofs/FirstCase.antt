-- Every double meets a case, and `first_case` is the first that it meets. Assumes nothing.
use mathlib.Core.Path.{◌≡◌, refl, sym, ap, ◌∙◌, subst, subst⁻¹}
use mathlib.Core.Logic.{◌↔◌, ◌⊎◌, inl, inr}
use mathlib.Core.Bool.{Bool, true, false, not, cond}
use Prim.Native.Nat.{ℕ, zero, suc, ◌+◌, ◌-◌, ◌*◌, ◌^◌, ◌≤◌, ◌<◌}
use native.Mathlib.Nat.{le_refl}
use native.Mathlib.Omega.{arith}
use lib.Dec.{T, eqb, eqb→eq, eqb_refl, lit<}
use lib.Ieee.{Float, nan, inf, fin, binary64, of_bits, fits, is_nan, size}
use lib.Ieee.Bits.{of_bits-fits}
use lib.Ieee.Scale.{finite}
use Rattle.exact.specs.Value.{sign, magnitude}
use Rattle.exact.proofs.Naturals.{le_or_lt}
use Rattle.rank_arithmetic.specs.Rank.{at_rank, infinity}
use Rattle.rank_arithmetic.proofs.Grid.{exponent, significand, parts, at_rank_is, at_rank_form, at_rank_mono}
use Rattle.doubles.specs.declared.Case.{Case}
use Rattle.doubles.specs.declared.Case.TheVariants.{Nan, Infinity, Zero, SmallestSubnormal, LargestSubnormal, PowerOfTwo, Max, Rest}
use Rattle.doubles.specs.Cases.{largest_subnormal, max, Size, Steps, InCase, place, First, of_magnitude, first_case}
use Rattle.doubles.proofs.Patterns.{rank_of, pattern, ranked, finite_no_nan, magnitude_double}
use Rattle.doubles.proofs.PowersOfTwo.{power_of_two}

-- ---- a case has its place alone
case_at : ℕ → Case
case_at zero = Nan
case_at (suc zero) = Infinity
case_at (suc (suc zero)) = Zero
case_at (suc (suc (suc zero))) = SmallestSubnormal
case_at (suc (suc (suc (suc zero)))) = LargestSubnormal
case_at (suc (suc (suc (suc (suc zero))))) = PowerOfTwo
case_at (suc (suc (suc (suc (suc (suc zero)))))) = Max
case_at (suc (suc (suc (suc (suc (suc (suc n))))))) = Rest

at_place : (c : Case) → case_at (place c) ≡ c
unfolding case_at
at_place Nan = refl
at_place Infinity = refl
at_place Zero = refl
at_place SmallestSubnormal = refl
at_place LargestSubnormal = refl
at_place PowerOfTwo = refl
at_place Max = refl
at_place Rest = refl

same_place : (c d : Case) → place c ≡ place d → c ≡ d
same_place c d e = sym (at_place c) ∙ ap case_at e ∙ at_place d

-- ---- a finite double's magnitude has at most 53 digits in steps of 2 ^ k
pub magnitude_rank : (x : Float) → T (finite x) → T (fits binary64 x) → magnitude x ≡ at_rank 52 (rank_of x)
magnitude_rank x f h = ap magnitude (pattern x (finite_no_nan x f) h).same ∙ magnitude_double (sign x) (rank_of x) (ranked x f h).small

-- a normal number's rank
pub normal_rank : (x : Float) → T (fits binary64 x) → T (finite x) → 2 ^ 52 ≤ magnitude x → 2 ^ 52 ≤ rank_of x
normal_rank x h f l = elim (le_or_lt (2 ^ 52) (rank_of x)) [
  | inl g ↦ g
  | inr k ↦ absurd (none (at_rank 52 (rank_of x)) (magnitude x) (magnitude_rank x f h) (at_rank_mono 52 (rank_of x) (2 ^ 52 - 1) (omega arith)) last l)
]
  where
    last : at_rank 52 (2 ^ 52 - 1) ≡ 2 ^ 52 - 1
    last = at_rank_form 52 0 (2 ^ 52 - 1) (inl refl) (lit< tt)

    none : (n m : ℕ) → m ≡ n → n ≤ at_rank 52 (2 ^ 52 - 1) → at_rank 52 (2 ^ 52 - 1) ≡ 2 ^ 52 - 1 → 2 ^ 52 ≤ m → ⊥
    none n m e a f l = omega (arith, e, a, f, l)

steps : (r k m : ℕ) → k * 2 ^ 52 + m ≡ r → (k ≡ 0) ⊎ (2 ^ 52 ≤ m) → m < 2 ^ 52 + 2 ^ 52 → r < infinity → Steps m k
steps r k m e l h g = elim l [
  | inl z ↦ record { digits = omega arith; most = omega arith; leading = λ p. absurd (omega arith) }
  | inr b ↦ record { digits = omega arith; most = omega arith; leading = λ p. b }
]

pub in_rest : (x : Float) → T (finite x) → T (fits binary64 x) → InCase Rest x
in_rest x f h =
    let r = rank_of x in
    let p = parts 52 r in (
      significand 52 r,
      exponent 52 r,
      steps r (exponent 52 r) (significand 52 r) p.0 p.1 p.2 (ranked x f h).small,
      record { is_finite = f; units = magnitude_rank x f h ∙ at_rank_is 52 r },
    )

-- ---- one test after the other
abbrev FirstFrom : ℕ → Case → Float → Type 0
FirstFrom p c x = (p ≤ place c) × InCase c x × ((d : Case) → p ≤ place d → place d < place c → InCase d x → ⊥)

module _ (x : Float) where
  step : (c next : Case) (b : Bool) → (T b ↔ InCase c x) → FirstFrom (suc (place c)) next x → FirstFrom (place c) (cond b c next) x
  step c next true t n = (le_refl (place c), t.0 tt, λ d l k i. omega arith)
  step c next false t n = (
    omega (arith, n.0),
    n.1,
    λ d l k i. elim (le_or_lt (suc (place c)) (place d)) [
      | inl g ↦ n.2 d g k i
      | inr g ↦ t.1 (subst (λ (e : Case). InCase e x) (same_place d c (omega arith)) i)
    ],
  )

  of_size : (k : ℕ) → T (finite x) → T (eqb (magnitude x) k) ↔ Size k x
  of_size k f = (λ t. record { is_finite = f; units = eqb→eq (magnitude x) k t }, λ s. subst⁻¹ (λ (n : ℕ). T (eqb n k)) s.units (eqb_refl k))

  power : T (finite x) → T (eqb (magnitude x) (2 ^ (size (magnitude x) - 1))) ↔ InCase PowerOfTwo x
  power f = (λ t. (f, (power_of_two (magnitude x)).0 t), λ i. (power_of_two (magnitude x)).1 i.1)

  finite_first : T (finite x) → InCase Rest x → FirstFrom 2 (of_magnitude (magnitude x)) x
  finite_first f r =
      step Zero _ _ (of_size 0 f)
      (step SmallestSubnormal _ _ (of_size 1 f)
      (step LargestSubnormal _ _ (of_size largest_subnormal f)
      (step PowerOfTwo _ _ (power f)
      (step Max Rest _ (of_size max f)
      (le_refl 7, r, λ d l k i. omega arith)))))

  from_two : (c : Case) → T (finite x) → FirstFrom 2 c x → First c x
  from_two c f n = record { here = n.1; not_before = before }
    where
      before : (d : Case) → place d < place c → InCase d x → ⊥
      before Nan k i = subst (λ (y : Float). T (finite y)) i f
      before Infinity k i = subst (λ (y : Float). T (finite y)) i.1 f
      before Zero k i = n.2 Zero (omega arith) k i
      before SmallestSubnormal k i = n.2 SmallestSubnormal (omega arith) k i
      before LargestSubnormal k i = n.2 LargestSubnormal (omega arith) k i
      before PowerOfTwo k i = n.2 PowerOfTwo (omega arith) k i
      before Max k i = n.2 Max (omega arith) k i
      before Rest k i = n.2 Rest (omega arith) k i

-- ---- the first that fits
infinite : (s : Bool) → inf s ≡ nan → ⊥
unfolding is_nan
infinite s e = subst (λ (y : Float). T (not (is_nan y))) e tt

pub first_fits : (x : Float) → T (fits binary64 x) → First (first_case x) x
unfolding first_case
first_fits nan h = record { here = refl; not_before = λ d k i. omega arith }
first_fits (inf s) h = record { here = (s, refl); not_before = λ d k i. infinite s (subst (λ (c : Case). InCase c (inf s)) (same_place d Nan (omega arith)) i) }
first_fits (fin s m e) h = let x = fin s m e in from_two x (of_magnitude (magnitude x)) tt (finite_first x tt (in_rest x tt h))

-- "every 64 bits meet a case": the double that any pattern stands for
pub every_pattern : (b : ℕ) → let x = of_bits binary64 b in First (first_case x) x
every_pattern b = first_fits (of_bits binary64 b) (of_bits-fits binary64 b)

-- there is one first case
pub first_unique : (c d : Case) (x : Float) → First c x → First d x → c ≡ d
first_unique c d x f g = elim (le_or_lt (place c) (place d)) [
  | inl l ↦ elim (le_or_lt (place d) (place c)) [ inl m ↦ same_place c d (omega arith) | inr m ↦ absurd (g.not_before c m f.here) ]
  | inr l ↦ absurd (f.not_before d l g.here)
]

-- a normal number's is a power of two, MAX or the rest
pub normal_case : (x : Float) → T (fits binary64 x) → T (finite x) → 2 ^ 52 ≤ magnitude x → place PowerOfTwo ≤ place (first_case x)
normal_case x h f l = go (first_case x) (first_fits x h).here
  where
    go : (c : Case) → InCase c x → place PowerOfTwo ≤ place c
    go Nan i = absurd (subst (λ (y : Float). T (finite y)) i f)
    go Infinity i = absurd (subst (λ (y : Float). T (finite y)) i.1 f)
    go Zero i = absurd (omega (arith, l, i.units))
    go SmallestSubnormal i = absurd (omega (arith, l, i.units))
    go LargestSubnormal i = absurd (omega (arith, l, i.units))
    go PowerOfTwo i = omega arith
    go Max i = omega arith
    go Rest i = omega arith
