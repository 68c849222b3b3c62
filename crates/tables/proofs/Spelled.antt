-- What is amiss at one place of a line makes it none: the laws that the proof of `numbers` cites. Assumes nothing.
use Rattle.std.proofs.Common.{◌≡◌, refl, List, ℕ, zero, suc, ◌+◌, ◌*◌, ◌<◌, get_or, Bool, true, false, Option, None, arith, below_more}
use Rattle.std.specs.Prelude.{eqb, ◌&&◌}
use Rattle.tables.specs.Table.{digits, spelled, is_line}

-- two tests, the second of which is not passed
last_false : (a : Bool) → (a && false) ≡ false
last_false true = refl
last_false false = refl

-- a line that is amiss is amiss with one place more
one_more : (s : List ℕ) (n : ℕ) → spelled s n ≡ false → spelled s (suc n) ≡ false
unfolding spelled
one_more s n e = rw e refl

-- one that is amiss at a place is amiss with all
amiss : (s : List ℕ) (n i : ℕ) → i < n → spelled s (suc i) ≡ false → spelled s n ≡ false
amiss s zero i less bad = absurd (omega arith)
amiss s (suc n) i less bad =
    below_more (λ (k : ℕ). spelled s (suc k) ≡ false → spelled s (suc n) ≡ false) n (λ k h e. one_more s n (amiss s n k h e)) (λ e. e) i (let l : i < n + 1 = omega (arith, less) in l) bad

no_space_at : (s : List ℕ) (i : ℕ) → eqb (get_or s (1 + 17 * i) 0) 32 ≡ false → spelled s (suc i) ≡ false
unfolding spelled
no_space_at s i e = rw e (last_false (spelled s i))

no_number_at : (s : List ℕ) (i : ℕ) → digits s 16 0 (2 + 17 * i) ≡ None → spelled s (suc i) ≡ false
unfolding spelled
no_number_at s i e = rw (e, last_false (eqb (get_or s (1 + 17 * i) 0) 32)) (last_false (spelled s i))

pub no_space : (s : List ℕ) (i n : ℕ) → i < n → eqb (get_or s (1 + 17 * i) 0) 32 ≡ false → false ≡ is_line s n
no_space s i n less e = rw (amiss s n i less (no_space_at s i e)) refl

pub no_number : (s : List ℕ) (i n : ℕ) → i < n → digits s 16 0 (2 + 17 * i) ≡ None → false ≡ is_line s n
no_number s i n less e = rw (amiss s n i less (no_number_at s i e)) refl
