-- Lists by their places. Assumes nothing.
use Rattle.std.specs.Prelude.{List, [], ◌∷◌, ◌++◌, ℕ, zero, suc}

-- f 0, f 1, … f (n - 1)
unfoldable pub listed : {A : Type 0} → ℕ → (ℕ → A) → List A
listed zero f = []
listed (suc n) f = listed n f ++ (f n ∷ [])

-- what stood at each place k, changed by g k
unfoldable pub each_place : {A : Type 0} → (ℕ → A → A) → List A → List A
each_place g [] = []
each_place g (x ∷ xs) = g 0 x ∷ each_place (λ k. g (suc k)) xs
