-- Which sums and differences of numbers of p binary digits have p digits again: Sterbenz' theorem, the error of a rounded sum, and the steps of Knuth's
-- two-sum by the signs of its two numbers. On naturals, for every p. Assumes nothing.
use mathlib.Core.Path.{◌≡◌, sym, ap, ◌∙◌, subst}
use mathlib.Core.Logic.{inl, inr}
use Prim.Native.Nat.{ℕ, zero, suc, ◌+◌, ◌-◌, ◌*◌, ◌/◌, ◌^◌, ◌≤◌, ◌<◌, ◌∣◌}
use native.Mathlib.Nat.{le_of_lt, lt_of_le_of_lt, not-le_of_lt, mul-one, mul-add, dvd-add, dvd-sub, dvd-mul_left, div-mul_cancel, one-dvd, add-suc, two-pow-succ}
use native.Mathlib.Omega.{arith}
use Rattle.exact.specs.Representable.{Representable}
use Rattle.exact.specs.Nearest.{nearest_units}
use Rattle.exact.proofs.Naturals.{le_or_lt, pow_dvd, distance, distance_dvd}
use Rattle.exact.proofs.Representable.{representable-zero, representable_pow, representable_twice}
use Rattle.exact.proofs.Nearest.{nearest_ge, nearest_le, nearest_lo, nearest_hi, nearest_same, nearest_representable}
use Rattle.exact.proofs.Digits.{nearest_dvd}

-- a whole number of units to p digits
abbrev pub round : ℕ → ℕ → ℕ
round p n = nearest_units p 0 n

-- an equation carries the digits over
pub along : {p a b : ℕ} → a ≡ b → Representable p a → Representable p b
along {p} e r = subst (λ (x : ℕ). Representable p x) e r

module _ (p : ℕ) (P : 0 < p) where
  -- ---- the laws of rounding at l = 0, without its factor 2 ^ 0
  pub round_ge : (n r : ℕ) → Representable p r → r ≤ n → r ≤ round p n
  round_ge n r R h = nearest_ge p P 0 n r R (omega arith)

  pub round_le : (n r : ℕ) → Representable p r → n ≤ r → round p n ≤ r
  round_le n r R h = nearest_le p P 0 n r R (omega arith)

  pub round_lo : (n r : ℕ) → Representable p r → r ≤ n → round p n + r ≤ n + n
  round_lo n r R h = omega (arith, nearest_lo p P 0 n r R (omega arith))

  pub round_hi : (n r : ℕ) → Representable p r → n ≤ r → n + n ≤ round p n + r
  round_hi n r R h = omega (arith, nearest_hi p P 0 n r R (omega arith))

  pub round_same : (n : ℕ) → Representable p n → round p n ≡ n
  round_same n R = nearest_same p P 0 n n R (sym (mul-one n))

  pub round_representable : (n : ℕ) → Representable p (round p n)
  round_representable n = nearest_representable p P 0 n

  -- ---- differences
  -- what every power of two divides that divides x and y, and is no more than either, has no more digits than they
  no_finer : (x y d : ℕ) → Representable p x → Representable p y → ((i : ℕ) → 2 ^ i ∣ x → 2 ^ i ∣ y → 2 ^ i ∣ d) → d ≤ x → d ≤ y → Representable p d
  no_finer x y d X Y f h k =
      elim (le_or_lt X.exp Y.exp) [
        | inl l ↦ record { exp = X.exp; dvd = f X.exp X.dvd (pow_dvd X.exp Y.exp y l Y.dvd); fit = lt_of_le_of_lt h X.fit }
        | inr l ↦ record { exp = Y.exp; dvd = f Y.exp (pow_dvd Y.exp X.exp x (le_of_lt l) X.dvd) Y.dvd; fit = lt_of_le_of_lt k Y.fit }
      ]

  -- numbers within a factor of two of one another
  pub sterbenz : (x y : ℕ) → Representable p x → Representable p y → x ≤ y + y → y ≤ x + x → Representable p (distance x y)
  sterbenz x y X Y h k = no_finer x y (distance x y) X Y (λ i d e. distance_dvd (2 ^ i) x y d e) (omega arith) (omega arith)

  -- a difference no more than what is taken away
  pub less_than_taken : (x y : ℕ) → Representable p x → Representable p y → x - y ≤ y → Representable p (x - y)
  less_than_taken x y X Y h = no_finer x y (x - y) X Y (λ i d e. dvd-sub (2 ^ i) d e) (omega arith) h

  -- ---- what rounding leaves: no more than a or b, since no number of p digits is nearer than the rounded one, and a, b and 0 are such numbers
  pub sum_error : (a b : ℕ) → Representable p a → Representable p b → Representable p (distance (round p (a + b)) (a + b))
  sum_error a b A B =
      let n = a + b in
      no_finer a b (distance (round p n) n) A B
      (λ i d e. distance_dvd (2 ^ i) (round p n) n (nearest_dvd p P n i (dvd-add (2 ^ i) d e)) (dvd-add (2 ^ i) d e))
      (omega (arith, round_lo n b B (omega arith), round_ge n b B (omega arith)))
      (omega (arith, round_lo n a A (omega arith), round_ge n a A (omega arith)))

  pub difference_error : (a b : ℕ) → Representable p a → Representable p b → b ≤ a → Representable p (distance (round p (a - b)) (a - b))
  difference_error a b A B h =
      let n = a - b in
      no_finer a b (distance (round p n) n) A B
      (λ i d e. distance_dvd (2 ^ i) (round p n) n (nearest_dvd p P n i (dvd-sub (2 ^ i) d e)) (dvd-sub (2 ^ i) d e))
      (omega (arith, round_lo n 0 (representable-zero p) (omega arith)))
      (omega (arith, round_hi n a A (omega arith), round_le n a A (omega arith)))

  -- b / 2 ≤ n goes through rounding, though b / 2 need not be a whole number
  pub round_half : (b n : ℕ) → Representable p b → b ≤ n + n → b ≤ round p n + round p n
  round_half b n B h = go B.exp B.dvd B.fit
    where
      go : (e : ℕ) → 2 ^ e ∣ b → b < 2 ^ (p + e) → b ≤ round p n + round p n
      go zero d f =
          elim (le_or_lt (2 ^ (p + 0)) n) [
            | inl l ↦ omega (arith, round_ge n (2 ^ (p + 0)) (representable_pow p P (p + 0)) l)
            | inr l ↦ omega (arith, round_same n (record { exp = 0; dvd = one-dvd n; fit = l }))
          ]
      go (suc e) d f =
          let q = b / 2 ^ suc e in
          let c = q * 2 ^ e in
          let m : c + c ≡ b = sym (mul-add q (2 ^ e) (2 ^ e)) ∙ ap (λ (x : ℕ). q * x) (sym (two-pow-succ e)) ∙ div-mul_cancel (2 ^ suc e) d in
          let u : 2 ^ (p + suc e) ≡ 2 ^ (p + e) + 2 ^ (p + e) = ap (λ (x : ℕ). 2 ^ x) (add-suc p e) ∙ two-pow-succ (p + e) in
          omega (arith, round_ge n c (record { exp = e; dvd = dvd-mul_left (2 ^ e) q; fit = omega arith }) (omega arith))

  -- ---- a rounded sum or difference, and the larger of its two numbers
  pub sum_less_larger : (a b : ℕ) → Representable p a → Representable p b → b ≤ a → Representable p (round p (a + b) - a)
  sum_less_larger a b A B h =
      let x = round p (a + b) in
      let lo : a ≤ x = round_ge (a + b) a A (omega arith) in
      let hi : x ≤ a + a = round_le (a + b) (a + a) (representable_twice p a A) (omega arith) in
      along (omega arith) (sterbenz x a (round_representable (a + b)) A hi (omega arith))

  pub larger_less_difference : (a b : ℕ) → Representable p a → Representable p b → b ≤ a → Representable p (a - round p (a - b))
  larger_less_difference a b A B h =
      let x = round p (a - b) in
      let hi : x ≤ a = round_le (a - b) a A (omega arith) in
      elim (le_or_lt a ((a - b) + (a - b))) [
        | inl l ↦ along (omega arith) (sterbenz a x A (round_representable (a - b)) (round_half a (a - b) A l) (omega arith))
        | inr l ↦ along (omega (arith, round_same (a - b) (less_than_taken a b A B (omega arith)))) B
      ]

  -- ---- two-sum: x being a + b rounded and z being x - a rounded, x - z and b - z have p digits
  -- a and b of one sign
  pub alike_x_less_z : (a b : ℕ) → Representable p a → Representable p b → Representable p (round p (a + b) - round p (round p (a + b) - a))
  alike_x_less_z a b A B = larger_less_difference (round p (a + b)) a (round_representable (a + b)) A (round_ge (a + b) a A (omega arith))

  pub alike_b_less_z : (a b : ℕ) → Representable p a → Representable p b → Representable p (distance b (round p (round p (a + b) - a)))
  alike_b_less_z a b A B =
      let x = round p (a + b) in
      let z = round p (x - a) in
      let x≥a : a ≤ x = round_ge (a + b) a A (omega arith) in
      let x≥b : b ≤ x = round_ge (a + b) b B (omega arith) in
      elim (le_or_lt b a) [
        | inl l ↦ along (omega (arith, round_same (x - a) (sum_less_larger a b A B l))) (sum_error a b A B)
        | inr l ↦
            let x≥2a : a + a ≤ x = round_ge (a + b) (a + a) (representable_twice p a A) (omega arith) in
            let x≤2b : x ≤ b + b = round_le (a + b) (b + b) (representable_twice p b B) (omega arith) in
            let lo : b ≤ z + z = round_half b (x - a) B (omega arith) in
            let hi : z ≤ b + b = round_le (x - a) (b + b) (representable_twice p b B) (omega arith) in
            sterbenz b z B (round_representable (x - a)) lo hi
      ]

  -- a and -b, b no larger: z itself is exact
  pub larger_z : (a b : ℕ) → Representable p a → Representable p b → b ≤ a → round p (a - round p (a - b)) ≡ a - round p (a - b)
  larger_z a b A B h = round_same (a - round p (a - b)) (larger_less_difference a b A B h)

  -- a and -b, a smaller: x and z are negative, and written here by their magnitudes
  pub smaller_x_less_z : (a b : ℕ) → Representable p a → Representable p b → a < b → Representable p (distance (round p (round p (b - a) + a)) (round p (b - a)))
  smaller_x_less_z a b A B h =
      let x = round p (b - a) in
      let X : Representable p x = round_representable (b - a) in
      elim (le_or_lt a x) [
        | inl l ↦ along (omega (arith, round_ge (x + a) x X (omega arith))) (sum_less_larger x a X A l)
        | inr l ↦
            elim (le_or_lt a (b - a)) [
              | inl k ↦ absurd (not-le_of_lt l (round_ge (b - a) a A k))
              | inr k ↦
                  let e : x ≡ b - a = round_same (b - a) (less_than_taken b a B A (le_of_lt k)) in
                  let f : round p (x + a) ≡ b = ap (round p) (omega arith) ∙ round_same b B in
                  along (omega arith) A
            ]
      ]

  pub smaller_b_less_z : (a b : ℕ) → Representable p a → Representable p b → a < b → Representable p (distance (round p (round p (b - a) + a)) b)
  smaller_b_less_z a b A B h =
      let x = round p (b - a) in
      let z = round p (x + a) in
      let x≤b : x ≤ b = round_le (b - a) b B (omega arith) in
      let hi : z ≤ b + b = round_le (x + a) (b + b) (representable_twice p b B) (omega arith) in
      let lo : b ≤ z + z =
      elim (le_or_lt b (a + a)) [
        | inl l ↦ round_half b (x + a) B (omega arith)
        | inr l ↦ round_half b (x + a) B (omega (arith, round_half b (b - a) B (omega arith)))
      ] in
      sterbenz z b (round_representable (x + a)) B hi lo
