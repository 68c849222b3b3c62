-- The neighbours of a normal number by its pattern: the exponent, or the one before or after it, and digits. Assumes nothing.
use mathlib.Core.Path.{◌≡◌, refl, sym, ap, ◌∙◌, subst}
use mathlib.Core.Bool.{Bool, true, false, not, cond, beq, true≢false}
use Prim.Native.Nat.{ℕ, suc, ◌+◌, ◌-◌, ◌%◌, ◌^◌, ◌≤◌, ◌<◌}
use native.Mathlib.Omega.{arith}
use lib.Dec.{T, leb, eqb}
use lib.Ieee.{Float, binary64, of_bits, to_bits, fits, nan_bits}
use Rattle.exact.specs.Value.{sign}
use Rattle.rank_arithmetic.specs.Rank.{infinity, double}
use Rattle.doubles.proofs.Patterns.{rank_of, Pattern, pattern, ranked, finite_no_nan, sign_test, no_nan_bits}
use Rattle.doubles.proofs.FirstCase.{normal_rank}
use Rattle.doubles.proofs.NextRank.{neighbour, away, toward}
use Rattle.adjacent.specs.Fields.{Normal}

-- ---- a pattern by its sign and its rank
signed_pattern : (s : Bool) (n q : ℕ) → n ≡ cond s (2 ^ 63) 0 + q → q ≤ infinity → T (not (nan_bits binary64 n)) × (of_bits binary64 n ≡ double s q)
signed_pattern true n q e l = (no_nan_bits n (omega arith), ap (of_bits binary64) e)
signed_pattern false n q e l = (no_nan_bits n (omega arith), ap (of_bits binary64) (bare n q e))
  where
    bare : (n q : ℕ) → n ≡ 0 + q → n ≡ q
    bare n q e = omega arith

-- ---- what `further` and `nearer` make of a pattern b
abbrev further : ℕ → ℕ
further b = cond (eqb (b % 2 ^ 52) (2 ^ 52 - 1)) (b + 2 ^ 52 - (2 ^ 52 - 1)) (b + 1)

abbrev nearer : ℕ → ℕ
nearer b = cond (eqb (b % 2 ^ 52) 0) (b - 2 ^ 52 + (2 ^ 52 - 1)) (b - 1)

further_is : (b : ℕ) → further b ≡ suc b
further_is b = go (eqb (b % 2 ^ 52) (2 ^ 52 - 1))
  where
    go : (t : Bool) → cond t (b + 2 ^ 52 - (2 ^ 52 - 1)) (b + 1) ≡ suc b
    go true = omega arith
    go false = omega arith

nearer_is : (b : ℕ) → 2 ^ 52 ≤ b → suc (nearer b) ≡ b
nearer_is b l = go (eqb (b % 2 ^ 52) 0)
  where
    go : (t : Bool) → suc (cond t (b - 2 ^ 52 + (2 ^ 52 - 1)) (b - 1)) ≡ b
    go true = omega (arith, l)
    go false = omega (arith, l)

-- ---- a normal number
module _ (x : Float) (h : T (fits binary64 x)) {step : Bool} (N : Normal x step) where
  abbrev b : ℕ
  b = to_bits binary64 x

  abbrev s : Bool
  s = sign x

  abbrev r : ℕ
  r = rank_of x

  w : Pattern x
  w = pattern x (finite_no_nan x N.is_finite) h

  small : r < infinity
  small = (ranked x N.is_finite h).small

  signed : leb (2 ^ 63) b ≡ s
  signed = sign_test b s r w.bits w.most

  least : T step → 2 ^ 52 ≤ r
  least t = normal_rank x h N.is_finite (N.least t)

  -- what `further` and `nearer` ask
  pub rooms : (b < 2 ^ 64 - 2 ^ 52) × (T step → 2 ^ 52 ≤ b)
  rooms = (below s b r w.bits small, λ t. above s b r w.bits (least t))
    where
      below : (s : Bool) (b r : ℕ) → b ≡ cond s (2 ^ 63) 0 + r → r < infinity → b < 2 ^ 64 - 2 ^ 52
      below true b r e l = omega arith
      below false b r e l = omega arith

      above : (s : Bool) (b r : ℕ) → b ≡ cond s (2 ^ 63) 0 + r → 2 ^ 52 ≤ r → 2 ^ 52 ≤ b
      above true b r e l = omega arith
      above false b r e l = omega arith

  -- a pattern n, and the double that it stands for
  abbrev Stands : ℕ → Float → Type 0
  Stands n y = T (not (nan_bits binary64 n)) × (of_bits binary64 n ≡ y)

  stays : Stands b x
  stays = let p = signed_pattern s b r w.bits w.most in (p.0, p.1 ∙ sym w.same)

  goes_further : {n : ℕ} → n ≡ further b → Stands n (neighbour (not s) x)
  goes_further {n} e =
      let p = signed_pattern s n (suc r) (e ∙ further_is b ∙ ap suc w.bits ∙ after (cond s (2 ^ 63) 0) r) small in
      (p.0, p.1 ∙ sym (away s r small) ∙ ap (neighbour (not s)) (sym w.same))
    where
      after : (m r : ℕ) → suc (m + r) ≡ m + suc r
      after m r = omega arith

  goes_nearer : T step → {n : ℕ} → n ≡ nearer b → Stands n (neighbour s x)
  goes_nearer t {n} e =
      let p = signed_pattern s n (r - 1) (before s n b r (ap suc e ∙ nearer_is b (room s b r w.bits (least t))) w.bits (least t)) (omega (arith, small)) in
      (p.0, p.1 ∙ sym (toward s (r - 1) (omega (arith, small))) ∙ ap (λ (q : ℕ). neighbour s (double s q)) (whole r (least t)) ∙ ap (neighbour s) (sym w.same))
    where
      room : (s : Bool) (b r : ℕ) → b ≡ cond s (2 ^ 63) 0 + r → 2 ^ 52 ≤ r → 2 ^ 52 ≤ b
      room true b r e l = omega arith
      room false b r e l = omega arith

      before : (s : Bool) (n b r : ℕ) → suc n ≡ b → b ≡ cond s (2 ^ 63) 0 + r → 2 ^ 52 ≤ r → n ≡ cond s (2 ^ 63) 0 + (r - 1)
      before true n b r g e l = omega arith
      before false n b r g e l = omega arith

      whole : (r : ℕ) → 2 ^ 52 ≤ r → suc (r - 1) ≡ r
      whole r l = omega arith

  module _ (up : Bool) where
    -- what `stepped` answers
    abbrev pub Answer : ℕ → Type 0
    Answer n = Stands n (cond step (neighbour up x) x)

    same_sign : {t : Bool} → beq up (leb (2 ^ 63) b) ≡ t → beq up s ≡ t
    same_sign e = ap (beq up) (sym signed) ∙ e

    -- by the step
    either : (m : ℕ) → Stands b x → (T step → Stands m (neighbour up x)) → {n : ℕ} → n ≡ cond step m b → Answer n
    either m y z e = subst Answer (sym e) (go step z)
      where
        go : (t : Bool) → (T t → Stands m (neighbour up x)) → Stands (cond t m b) (cond t (neighbour up x) x)
        go true z = z tt
        go false z = y

    pub of_nearer : {n : ℕ} → beq up (leb (2 ^ 63) b) ≡ true → n ≡ cond step (nearer b) b → Answer n
    of_nearer e = either (nearer b) stays (λ t. let y = goes_nearer t refl in (y.0, y.1 ∙ go up s (same_sign e)))
      where
        go : (up s : Bool) → beq up s ≡ true → neighbour s x ≡ neighbour up x
        go true true e = refl
        go false false e = refl
        go true false e = absurd (true≢false (sym e))
        go false true e = absurd (true≢false (sym e))

    pub of_further : {n : ℕ} → beq up (leb (2 ^ 63) b) ≡ false → n ≡ cond step (further b) b → Answer n
    of_further e = either (further b) stays (λ t. let y = goes_further refl in (y.0, y.1 ∙ go up s (same_sign e)))
      where
        go : (up s : Bool) → beq up s ≡ false → neighbour (not s) x ≡ neighbour up x
        go true true e = absurd (true≢false e)
        go false false e = absurd (true≢false e)
        go true false e = refl
        go false true e = refl
