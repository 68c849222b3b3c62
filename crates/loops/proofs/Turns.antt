-- A loop that counts up, by what holds after each turn. Assumes nothing.
use native.Mathlib.Omega.{arith}
use native.Mathlib.Nat.{le_antisymm}
use native.Mathlib.Numerals.{add-one}
use mathlib.Core.Path.{◌≡◌, refl, ap, sym, subst, ◌∙◌}
use Prim.Native.Nat.{ℕ, suc, ◌+◌, ◌<◌, ◌≤◌}

-- a loop of n turns, after k of which P k holds
pub record UpTo (P : ℕ → Type 0) (n k : ℕ) : Type 0 where
  pub within : k ≤ n
  pub so_far : P k

pub begin : {P : ℕ → Type 0} {n : ℕ} → P 0 → UpTo P n 0
begin holds = record { within = omega arith; so_far = holds }

pub advance : {P : ℕ → Type 0} {n k : ℕ} → k < n → P (suc k) → UpTo P n (k + 1)
advance less holds = record { within = omega arith; so_far = rw add-one holds }

pub finish : {P : ℕ → Type 0} {n k : ℕ} → UpTo P n k → n ≤ k → P n
finish {P} turn end = subst P (le_antisymm turn.within end) turn.so_far

-- ---- one whose state after k turns is f k
abbrev pub Turn : {A : Type 0} → (ℕ → A) → ℕ → ℕ → A → Type 0
Turn f n k a = UpTo (λ k. a ≡ f k) n k

pub first : {A : Type 0} (f : ℕ → A) (n : ℕ) → Turn f n 0 (f 0)
first f n = begin refl

pub next : {A : Type 0} {f : ℕ → A} {n k : ℕ} {a b : A} (g : A → A) → Turn f n k a → k < n → f (suc k) ≡ g (f k) → b ≡ g a → Turn f n (k + 1) b
next g turn less steps e = advance less (e ∙ ap g turn.so_far ∙ sym steps)

pub done : {A : Type 0} {f : ℕ → A} {n k : ℕ} {a : A} → Turn f n k a → n ≤ k → a ≡ f n
done turn end = finish turn end
