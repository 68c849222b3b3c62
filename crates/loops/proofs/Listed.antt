-- What stands at the places of such lists, and that it makes them. Assumes nothing.
use native.Mathlib.Omega.{arith}
use native.Mathlib.Numerals.{add-one}
use mathlib.Core.Path.{◌≡◌, refl, ap, sym, ◌∙◌}
use mathlib.Core.Logic.{inl, inr}
use mathlib.Core.List.{List, [], ◌∷◌}
use Prim.Native.Nat.{ℕ, zero, suc, ◌+◌, ◌≤◌, ◌<◌}
use lib.ListN.{length, get_or, set, replicate, length-append, length-set, length-replicate, get_or-append, get_or-replicate}
use lib.Seq.{ext_get_or, get_or_at, get_or-set_same, get_or-set_other}
use Rattle.exact.proofs.Naturals.{le_or_lt}
use Rattle.loops.proofs.Turns.{UpTo, begin, advance, finish}
use Rattle.loops.specs.Listed.{listed, each_place}

-- ---- f 0, f 1, …
pub length-listed : {A : Type 0} (n : ℕ) (f : ℕ → A) → length (listed n f) ≡ n
unfolding listed
length-listed zero f = refl
length-listed (suc n) f = length-append (listed n f) (f n ∷ []) ∙ ap (λ (k : ℕ). k + 1) (length-listed n f) ∙ add-one n

pub listed_at : {A : Type 0} (n : ℕ) (f : ℕ → A) (d : A) (v : ℕ) → v < n → get_or (listed n f) v d ≡ f v
unfolding listed
listed_at zero f d v less = absurd (omega arith)
listed_at (suc n) f d v less =
    elim (le_or_lt n v) [
      | inl last ↦ let e : v ≡ n = omega arith in get_or_at (listed n f) (f n) [] d v (length-listed n f ∙ sym e) ∙ ap f (sym e)
      | inr before ↦ get_or-append (listed n f) (f n ∷ []) d v (omega (arith, length-listed n f)) ∙ listed_at n f d v before
    ]

-- a list that has f v at each of its n places is that
pub is_listed : {A : Type 0} {n : ℕ} (f : ℕ → A) (d : A) (xs : List A) → length xs ≡ n → ((v : ℕ) → v < n → get_or xs v d ≡ f v) → xs ≡ listed n f
is_listed {n = n} f d xs long at =
    ext_get_or d xs (listed n f) (long ∙ sym (length-listed n f)) (λ v less. let inside : v < n = omega (arith, long) in at v inside ∙ sym (listed_at n f d v inside))

-- ---- each place changed
pub length-each_place : {A : Type 0} (g : ℕ → A → A) (xs : List A) → length (each_place g xs) ≡ length xs
unfolding each_place
length-each_place g [] = refl
length-each_place g (x ∷ xs) = ap (λ (k : ℕ). suc k) (length-each_place (λ k. g (suc k)) xs)

pub each_place-at : {A : Type 0} (g : ℕ → A → A) (xs : List A) (d : A) (k : ℕ) → k < length xs → get_or (each_place g xs) k d ≡ g k (get_or xs k d)
unfolding each_place
each_place-at g [] d k less = absurd (omega arith)
each_place-at g (x ∷ xs) d zero less = refl
each_place-at g (x ∷ xs) d (suc k) less = each_place-at (λ j. g (suc j)) xs d k (omega arith)

-- a list that has g k of what stood there at each place k is that
pub is_each_place : {A : Type 0} (g : ℕ → A → A) (d : A) (xs ys : List A) → length ys ≡ length xs → ((k : ℕ) → k < length xs → get_or ys k d ≡ g k (get_or xs k d)) → ys ≡ each_place g xs
is_each_place g d xs ys long at =
    ext_get_or d ys (each_place g xs) (long ∙ sym (length-each_place g xs)) (λ k less. let inside : k < length xs = omega (arith, long) in at k inside ∙ sym (each_place-at g xs d k inside))

-- one of them set
pub each_place-set : {A : Type 0} (g : ℕ → A → A) (xs : List A) (v : ℕ) (x : A) → each_place g (set xs v x) ≡ set (each_place g xs) v (g v x)
unfolding each_place
each_place-set g [] v x = refl
each_place-set g (y ∷ xs) zero x = refl
each_place-set g (y ∷ xs) (suc v) x = ap (λ t. g 0 y ∷ t) (each_place-set (λ k. g (suc k)) xs v x)

-- none
pub each_place-none : {A : Type 0} (xs : List A) → xs ≡ each_place (λ k x. x) xs
unfolding each_place
each_place-none [] = refl
each_place-none (x ∷ xs) = ap (λ t. x ∷ t) (each_place-none xs)

-- ---- a loop that writes f k at the place k: the places before k are written
pub record Filled {A : Type 0} (d : A) (n : ℕ) (f : ℕ → A) (xs : List A) (k : ℕ) : Type 0 where
  pub long : length xs ≡ n
  pub at : (v : ℕ) → v < k → get_or xs v d ≡ f v

module _ {A : Type 0} {d : A} {n : ℕ} {f : ℕ → A} where
  pub none_filled : (xs : List A) → length xs ≡ n → UpTo (Filled d n f xs) n 0
  none_filled xs long = begin (record { long = long; at = λ v less. absurd (omega arith) })

  module _ {k : ℕ} {xs : List A} (turn : UpTo (Filled d n f xs) n k) where
    pub one_filled : {x : A} → k < n → x ≡ f k → UpTo (Filled d n f (set xs k x)) n (k + 1)
    one_filled {x} less is =
        advance less
        (record {
          long = length-set xs k x ∙ turn.so_far.long;
          at = λ v below.
              elim (le_or_lt k v) [
                | inl here ↦
                    let e : v ≡ k = omega arith in
                    ap (λ (j : ℕ). get_or (set xs k x) j d) e ∙ get_or-set_same xs k x d (omega (arith, turn.so_far.long)) ∙ is ∙ ap f (sym e)
                | inr before ↦ get_or-set_other xs k v x d (λ e. omega (arith, e)) ∙ turn.so_far.at v before
              ];
        })

    pub all_filled : n ≤ k → xs ≡ listed n f
    all_filled end = let whole = finish turn end in is_listed f d xs whole.long whole.at

-- ---- such lists changed, and one with the same at each place
pub each_place-listed : {A : Type 0} (g : ℕ → A → A) (n : ℕ) (f : ℕ → A) (d : A) → each_place g (listed n f) ≡ listed n (λ k. g k (f k))
each_place-listed g n f d =
    let size = length-listed n f in
    is_listed (λ k. g k (f k)) d (each_place g (listed n f)) (length-each_place g (listed n f) ∙ size)
    (λ k less. each_place-at g (listed n f) d k (omega (arith, size)) ∙ ap (g k) (listed_at n f d k less))

pub listed-replicate : {A : Type 0} (n : ℕ) (x : A) → replicate n x ≡ listed n (λ k. x)
listed-replicate n x = is_listed (λ k. x) x (replicate n x) (length-replicate n x) (λ k less. get_or-replicate n k x x less)
