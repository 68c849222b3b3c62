-- An integer as a difference of two naturals, so that `omega`, which reads only naturals, decides what is linear in integers.
-- A law over integers a, b is proved by `all _ λ a a'. all _ λ b b'. simp differences (λ h. omega arith)`: each integer is written as a difference,
-- the set moves the operations inside and turns an order or an equation into one of naturals. Assumes nothing.
use mathlib.Core.Path.{◌≡◌, refl, sym, ap, subst}
use mathlib.Core.Logic.{◌↔◌}
use mathlib.Core.Bool.{Bool, true, false, not, cond}
use Prim.Native.Nat.{ℕ, zero, suc, ◌+◌, ◌*◌, ◌-◌, ◌<◌, ◌≤◌}
use native.Mathlib.Omega.{arith}
use lib.Dec.{T, ltb, ltb→lt, nltb→le, leb→le, le→leb, lt→ltb}
use lib.IntN.{ℤ, pos, negsuc, neg_ℤ, sub_ℕ, ◌+ℤ◌, ◌*ℤ◌}
use lib.Signed.{◌≤ℤ◌, ◌<ℤ◌}

-- ---- the two parts of an integer: one of them is 0
unfoldable pub positive : ℤ → ℕ
positive (pos n) = n
positive (negsuc n) = 0

unfoldable pub negative : ℤ → ℕ
negative (pos n) = 0
negative (negsuc n) = suc n

-- a - b, shut, so that `simp` sees it as one thing
pub dif : ℕ → ℕ → ℤ
dif a b = sub_ℕ a b

pub cond_ind : (c : Bool) (x y : ℤ) (P : ℤ → Type 0) → (T c → P x) → (T (not c) → P y) → P (cond c x y)
cond_ind true x y P f g = f tt
cond_ind false x y P f g = g tt

sub_parts : (a b : ℕ) → positive (sub_ℕ a b) + b ≡ a + negative (sub_ℕ a b)
unfolding positive negative
sub_parts a b =
    cond_ind (ltb a b) (negsuc (b - suc a)) (pos (a - b)) (λ z. positive z + b ≡ a + negative z) (λ t. less a b (ltb→lt a b t)) (λ t. more a b (nltb→le a b t))
  where
    less : (a b : ℕ) → a < b → 0 + b ≡ a + suc (b - suc a)
    less a b h = omega arith

    more : (a b : ℕ) → b ≤ a → a - b + b ≡ a + 0
    more a b h = omega arith

dif_parts : (a b : ℕ) → positive (dif a b) + b ≡ a + negative (dif a b)
unfolding dif
dif_parts a b = sub_parts a b

same : (x y : ℤ) → positive x + negative y ≡ positive y + negative x → x ≡ y
unfolding positive negative
same (pos a) (pos b) h = let e : a ≡ b = omega arith in ap pos e
same (pos a) (negsuc b) h = let e : ⊥ = omega arith in absurd e
same (negsuc a) (pos b) h = let e : ⊥ = omega arith in absurd e
same (negsuc a) (negsuc b) h = let e : a ≡ b = omega arith in ap negsuc e

-- ---- the parts of a sum, a product and a negative
sum_parts : (x y : ℤ) → positive (x +ℤ y) + (negative x + negative y) ≡ (positive x + positive y) + negative (x +ℤ y)
unfolding positive negative
sum_parts (pos a) (pos b) = omega arith
sum_parts (pos a) (negsuc b) = omega (arith, sub_parts a (suc b))
sum_parts (negsuc a) (pos b) = omega (arith, sub_parts b (suc a))
sum_parts (negsuc a) (negsuc b) = omega arith

negated_positive : (n : ℕ) → positive (neg_ℤ (pos n)) ≡ 0
unfolding positive
negated_positive zero = refl
negated_positive (suc n) = refl

negated_negative : (n : ℕ) → negative (neg_ℤ (pos n)) ≡ n
unfolding negative
negated_negative zero = refl
negated_negative (suc n) = refl

product_parts : (x y : ℤ) → positive (x *ℤ y) + (positive x * negative y + negative x * positive y) ≡ (positive x * positive y + negative x * negative y) + negative (x *ℤ y)
unfolding positive negative
product_parts (pos a) (pos b) = omega arith
product_parts (pos a) (negsuc b) = omega (arith, negated_positive (a * suc b), negated_negative (a * suc b))
product_parts (negsuc a) (pos b) = omega (arith, negated_positive (suc a * b), negated_negative (suc a * b))
product_parts (negsuc a) (negsuc b) = omega arith

negation_parts : (x : ℤ) → (positive (neg_ℤ x) ≡ negative x) × (negative (neg_ℤ x) ≡ positive x)
unfolding positive negative
negation_parts (pos zero) = (refl, refl)
negation_parts (pos (suc n)) = (refl, refl)
negation_parts (negsuc n) = (refl, refl)

-- ---- the order, by the parts
le_to : {x y : ℤ} → x ≤ℤ y → positive x + negative y ≤ positive y + negative x
unfolding positive negative
le_to {x = pos a} {y = pos b} h = omega (arith, leb→le a b h.le)
le_to {x = pos a} {y = negsuc b} h = absurd h.le
le_to {x = negsuc a} {y = pos b} h = omega arith
le_to {x = negsuc a} {y = negsuc b} h = omega (arith, leb→le b a h.le)

le_of : {x y : ℤ} → positive x + negative y ≤ positive y + negative x → x ≤ℤ y
unfolding positive negative
le_of {x = pos a} {y = pos b} h = record { le = le→leb a b (omega arith) }
le_of {x = pos a} {y = negsuc b} h = let e : ⊥ = omega arith in absurd e
le_of {x = negsuc a} {y = pos b} h = record { le = tt }
le_of {x = negsuc a} {y = negsuc b} h = record { le = le→leb b a (omega arith) }

lt_to : {x y : ℤ} → x <ℤ y → positive x + negative y < positive y + negative x
unfolding positive negative
lt_to {x = pos a} {y = pos b} h = omega (arith, ltb→lt a b h.lt)
lt_to {x = pos a} {y = negsuc b} h = absurd h.lt
lt_to {x = negsuc a} {y = pos b} h = omega arith
lt_to {x = negsuc a} {y = negsuc b} h = omega (arith, ltb→lt b a h.lt)

lt_of : {x y : ℤ} → positive x + negative y < positive y + negative x → x <ℤ y
unfolding positive negative
lt_of {x = pos a} {y = pos b} h = record { lt = lt→ltb a b (omega arith) }
lt_of {x = pos a} {y = negsuc b} h = let e : ⊥ = omega arith in absurd e
lt_of {x = negsuc a} {y = pos b} h = record { lt = tt }
lt_of {x = negsuc a} {y = negsuc b} h = record { lt = lt→ltb b a (omega arith) }

-- ---- the laws of a difference
dif_is : (z : ℤ) (a b : ℕ) → positive z + b ≡ a + negative z → z ≡ dif a b
dif_is z a b h = same z (dif a b) (omega (arith, dif_parts a b))

pub dif_+ : (a b c d : ℕ) → dif a b +ℤ dif c d ≡ dif (a + c) (b + d)
dif_+ a b c d = dif_is _ _ _ (omega (arith, sum_parts (dif a b) (dif c d), dif_parts a b, dif_parts c d))

pub dif_neg : (a b : ℕ) → neg_ℤ (dif a b) ≡ dif b a
dif_neg a b = dif_is _ _ _ (omega (arith, negation_parts (dif a b), dif_parts a b))

pub dif_* : (a b c d : ℕ) → dif a b *ℤ dif c d ≡ dif (a * c + b * d) (a * d + b * c)
dif_* a b c d =
    let x = dif a b in
    let y = dif c d in
    let e = dif_parts a b in
    let f = dif_parts c d in
    dif_is _ _ _
    (omega (arith, product_parts x y, ap (λ (t : ℕ). t * positive y) e, ap (λ (t : ℕ). t * negative y) e, ap (λ (t : ℕ). a * t) f, ap (λ (t : ℕ). b * t) f))

pub dif_≤ : (a b c d : ℕ) → (dif a b ≤ℤ dif c d) ↔ (a + d ≤ c + b)
dif_≤ a b c d = (λ h. omega (arith, le_to h, dif_parts a b, dif_parts c d), λ h. le_of (omega (arith, dif_parts a b, dif_parts c d)))

pub dif_< : (a b c d : ℕ) → (dif a b <ℤ dif c d) ↔ (a + d < c + b)
dif_< a b c d = (λ h. omega (arith, lt_to h, dif_parts a b, dif_parts c d), λ h. lt_of (omega (arith, dif_parts a b, dif_parts c d)))

pub dif_≡ : (a b c d : ℕ) → (dif a b ≡ dif c d) ↔ (a + d ≡ c + b)
dif_≡ a b c d = (λ e. omega (arith, ap positive e, ap negative e, dif_parts a b, dif_parts c d), λ h. dif_is _ _ _ (omega (arith, dif_parts a b)))

-- ---- every integer is one
pub pos_dif : (n : ℕ) → pos n ≡ dif n 0
unfolding positive negative
pos_dif n = dif_is (pos n) n 0 (omega arith)

pub negsuc_dif : (n : ℕ) → negsuc n ≡ dif 0 (suc n)
unfolding positive negative
negsuc_dif n = dif_is (negsuc n) 0 (suc n) (omega arith)

-- `neg_ℤ (pos n)` computes by cases on n, so the laws of `neg_ℤ` and `pos` do not see it
pub negpos_dif : (n : ℕ) → neg_ℤ (pos n) ≡ dif 0 n
negpos_dif n = dif_is _ _ _ (omega (arith, negated_positive n, negated_negative n))

parts : (z : ℤ) → dif (positive z) (negative z) ≡ z
parts z = sym (dif_is z _ _ refl)

pub all : (P : ℤ → Type 0) → ((a b : ℕ) → P (dif a b)) → (z : ℤ) → P z
all P h z = subst P (parts z) (h (positive z) (negative z))

pub ruleset differences = (negpos_dif, pos_dif, negsuc_dif, dif_+, dif_neg, dif_*, dif_≤, dif_<, dif_≡)

-- ---- the same with each product left whole, for laws that are linear in products: multiply out first (`Ring.multiply`)
pub product_positive : ℤ → ℤ → ℕ
product_positive a b = positive (a *ℤ b)

pub product_negative : ℤ → ℤ → ℕ
product_negative a b = negative (a *ℤ b)

pub product_dif : (a b : ℤ) → a *ℤ b ≡ dif (product_positive a b) (product_negative a b)
unfolding product_positive product_negative
product_dif a b = sym (parts (a *ℤ b))

pub ruleset products = (negpos_dif, pos_dif, negsuc_dif, product_dif, dif_+, dif_neg, dif_≤, dif_<, dif_≡)
