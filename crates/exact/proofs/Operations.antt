-- `lib.Ieee`'s sum, difference and product of finite doubles are the exact ones rounded to nearest. Assumes nothing.
-- Nothing above this file unfolds `round`.
use mathlib.Core.Path.{◌≡◌, refl, sym, ap, ◌∙◌, subst}
use mathlib.Core.Bool.{Bool, true, false, not, ◌&&◌, cond}
use Prim.Native.Nat.{ℕ, zero, suc, ◌+◌, ◌-◌, ◌*◌, ◌/◌, ◌^◌, ◌≤◌, ◌<◌}
use native.Mathlib.Nat.{le_trans, le_of_eq, le_of_lt, not-le_of_lt, mul_assoc, mul-mul-mul_comm, mul-one, mul-pos, add-mul, sub-eq-zero_of_le, mul-le-mul_right, le_of_mul-le-mul_right}
use native.Mathlib.Omega.{arith}
use lib.IntN.{ℤ, pos, nat_abs, ◌+ℤ◌, ◌-ℤ◌, ◌*ℤ◌, +ℤ_comm}
use lib.Dec.{T, ltb, ltb→lt, nltb→le}
use lib.Pow.{pow_pos}
use lib.Ieee.{Float, nan, inf, fin, binary64, up, down, unlike, size, odd, units, round, neg, sum, add, sub, mul, fits}
use lib.Ieee.Fits.{core, round_is, down_pos, neg-fits}
use lib.Ieee.Exact.{HasValue, units_val}
use lib.Ieee.Nearest.{closest, closest_same, div_same}
use lib.Ieee.Scale.{finite, overflow}
use Rattle.exact.specs.Value.{magnitude, signed, exact}
use Rattle.exact.specs.Nearest.{nearest_units, to_nearest, below_zero, IsNearest}
use Rattle.exact.specs.Representable.{Representable}
use Rattle.exact.proofs.Difference.{all, differences}
use Rattle.exact.proofs.Naturals.{sub_mul}
use Rattle.exact.proofs.Signed.{signed_abs, signed_+, signed--, signed_*}
use Rattle.exact.proofs.Values.{Whole, whole, exact_is, exact_of, exact-neg, finite-neg, common}
use Rattle.exact.proofs.Nearest.{nearest_zero, to_nearest_signed, to_nearest_same}

-- ---- `round` of a fraction that is N / 2 ^ l units
module _ (l : ℕ) (s : Bool) (num den N : ℕ) (0<den : 0 < den) (is : num * 2 ^ 1074 * 2 ^ l ≡ N * den) where
  abbrev extra : ℕ
  extra = size (N / 2 ^ l) - 53

  abbrev kept : ℕ
  kept = closest N (2 ^ l * 2 ^ (size (N / 2 ^ l) - 53))

  round_units : round binary64 s num den ≡ units binary64 s kept extra
  round_units =
      let n = num * 2 ^ 1074 in
      round_is binary64 s num den
      ∙ ap (λ (x : ℕ). core binary64 s n den (size x - 53)) (div_same n den N (2 ^ l) 0<den (pow_pos l) is)
      ∙ ap (λ (x : ℕ). units binary64 s x extra) (closest_same n (den * 2 ^ extra) N (2 ^ l * 2 ^ extra) (mul-pos 0<den (pow_pos extra)) (mul-pos (pow_pos l) (pow_pos extra)) (further n (2 ^ l) (2 ^ extra) is))
    where
      further : (n a b : ℕ) → n * a ≡ N * den → n * (a * b) ≡ N * (den * b)
      further n a b e = sym (mul_assoc n a b) ∙ ap (λ (x : ℕ). x * b) e ∙ mul_assoc N den b

  pub round_within : nearest_units 53 l N < overflow binary64 → HasValue (round binary64 s num den) s (nearest_units 53 l N) (2 ^ 1074)
  unfolding nearest_units
  round_within h = rw round_units (units_val binary64 s kept extra h)

  pub round_beyond : overflow binary64 ≤ nearest_units 53 l N → round binary64 s num den ≡ inf s
  unfolding nearest_units units
  round_beyond h = round_units ∙ go (ltb (kept * 2 ^ extra) (overflow binary64)) (ltb→lt (kept * 2 ^ extra) (overflow binary64))
    where
      go : (b : Bool) → (T b → kept * 2 ^ extra < overflow binary64) → cond b (odd 54 s kept extra 1074) (inf s) ≡ inf s
      go true k = absurd (not-le_of_lt (k tt) h)
      go false k = refl

  pub round_nearest : IsNearest l (signed s N) (round binary64 s num den)
  round_nearest = record {
    within = λ h.
        let v = exact_of (round binary64 s num den) s (nearest_units 53 l N) (round_within (rw size_is at h)) in
        (v.0, v.1 ∙ sym (to_nearest_signed l s N));
    beyond = λ h. let h' = rw size_is at h in round_beyond h' ∙ ap inf (sign_is s N h');
  }
    where
      size_is : nat_abs (to_nearest l (signed s N)) ≡ nearest_units 53 l N
      size_is = ap nat_abs (to_nearest_signed l s N) ∙ signed_abs s (nearest_units 53 l N)

      -- a result beyond the range is not 0, so it has the sign of its integer
      sign_is : (s : Bool) (n : ℕ) → overflow binary64 ≤ nearest_units 53 l n → s ≡ below_zero (signed s n)
      sign_is false n h = refl
      sign_is true zero h = absurd (not-le_of_lt (pow_pos 2098) (le_trans h (le_of_eq (nearest_zero l))))
      sign_is true (suc n) h = refl

-- ---- the sum of ±A / C and ±B / C, which are ±a and ±b units
difference : (L A B C a b : ℕ) → A * L ≡ a * C → B * L ≡ b * C → (A - B) * L ≡ (a - b) * C
difference L A B C a b ea eb = sub_mul A B L ∙ ap (λ (x : ℕ). x - B * L) ea ∙ ap (λ (x : ℕ). a * C - x) eb ∙ sym (sub_mul a b C)

no_more : (L A B C a b : ℕ) → 0 < C → A * L ≡ a * C → B * L ≡ b * C → A ≤ B → a ≤ b
no_more L A B C a b 0<C ea eb h = le_of_mul-le-mul_right (le_trans (le_of_eq (sym ea)) (le_trans (mul-le-mul_right L h) (le_of_eq eb))) 0<C

sum_nearest : (s : Bool) (A : ℕ) (t : Bool) (B C a b : ℕ) → 0 < C → A * 2 ^ 1074 ≡ a * C → B * 2 ^ 1074 ≡ b * C → IsNearest 0 (signed s a +ℤ signed t b) (sum binary64 s A t B C)
unfolding sum
sum_nearest s A t B C a b 0<C ea eb = go s t
  where
    rounded : (s : Bool) (num n : ℕ) → num * 2 ^ 1074 ≡ n * C → IsNearest 0 (signed s n) (round binary64 s num C)
    rounded s num n e = round_nearest 0 s num C n 0<C (mul-one (num * 2 ^ 1074) ∙ e)

    like : (s : Bool) → IsNearest 0 (signed s a +ℤ signed s b) (round binary64 s (A + B) C)
    like s = rw (signed_+ s a b) (rounded s (A + B) (a + b) (add-mul A B (2 ^ 1074) ∙ ap (λ (x : ℕ). x + B * 2 ^ 1074) ea ∙ ap (λ (x : ℕ). a * C + x) eb ∙ sym (add-mul a b C)))

    -- a difference of 0 is +0, and 0 has no sign
    zero_plus : (s q : Bool) → (T (not q) → a ≤ b) → IsNearest 0 (signed s (a - b)) (round binary64 (s && q) (A - B) C)
    zero_plus false q h = rounded false (A - B) (a - b) (difference (2 ^ 1074) A B C a b ea eb)
    zero_plus true true h = rounded true (A - B) (a - b) (difference (2 ^ 1074) A B C a b ea eb)
    zero_plus true false h =
        let z = sub-eq-zero_of_le (h tt) in
        subst (λ (w : ℤ). IsNearest 0 w (round binary64 false (A - B) C)) (ap pos z ∙ sym (ap (signed true) z)) (rounded false (A - B) (a - b) (difference (2 ^ 1074) A B C a b ea eb))

    unlike_signs : (s t : Bool) → unlike s t ≡ true → unlike t s ≡ true → (q : Bool) → (T q → a ≤ b) → (T (not q) → b ≤ a)
        → IsNearest 0 (signed s a +ℤ signed t b) (cond q (round binary64 t (B - A) C) (round binary64 (s && ltb B A) (A - B) C))
    unlike_signs s t u u' true h k = rw (+ℤ_comm (signed s a) (signed t b), signed-- t s b a u' (h tt)) (rounded t (B - A) (b - a) (difference (2 ^ 1074) B A C b a eb ea))
    unlike_signs s t u u' false h k = rw (signed-- s t a b u (k tt)) (zero_plus s (ltb B A) (λ q. no_more (2 ^ 1074) A B C a b 0<C ea eb (nltb→le B A q)))

    order : (s t : Bool) → unlike s t ≡ true → unlike t s ≡ true → IsNearest 0 (signed s a +ℤ signed t b) (cond (ltb A B) (round binary64 t (B - A) C) (round binary64 (s && ltb B A) (A - B) C))
    order s t u u' = unlike_signs s t u u' (ltb A B) (λ q. no_more (2 ^ 1074) A B C a b 0<C ea eb (le_of_lt (ltb→lt A B q))) (λ q. no_more (2 ^ 1074) B A C b a 0<C eb ea (nltb→le A B q))

    go : (s t : Bool) → IsNearest 0 (signed s a +ℤ signed t b) (sum binary64 s A t B C)
    go false false = like false
    go true true = like true
    go false true = order false true refl refl
    go true false = order true false refl refl

-- ---- the operations
add_whole : (x y : Float) → Whole x → Whole y → IsNearest 0 (exact x +ℤ exact y) (add binary64 x y)
unfolding add
add_whole nan y u v = absurd u.has
add_whole (inf s) y u v = absurd u.has
add_whole (fin s m e) nan u v = absurd v.has
add_whole (fin s m e) (inf t) u v = absurd v.has
add_whole (fin s m e) (fin t n d) u v =
    let c = common s m e t n d u v in
    rw (exact_is (fin s m e), exact_is (fin t n d))
    (sum_nearest s (m * up e * down d) t (n * up d * down e) (down e * down d) (magnitude (fin s m e)) (magnitude (fin t n d)) (mul-pos (down_pos e) (down_pos d)) c.0 c.1)

mul_whole : (x y : Float) → Whole x → Whole y → IsNearest 1074 (exact x *ℤ exact y) (mul binary64 x y)
unfolding mul
mul_whole nan y u v = absurd u.has
mul_whole (inf s) y u v = absurd u.has
mul_whole (fin s m e) nan u v = absurd v.has
mul_whole (fin s m e) (inf t) u v = absurd v.has
mul_whole (fin s m e) (fin t n d) u v =
    rw (exact_is (fin s m e), exact_is (fin t n d), signed_* s t (magnitude (fin s m e)) (magnitude (fin t n d)))
    (round_nearest 1074 (unlike s t) (m * up e * (n * up d)) (down e * down d) (magnitude (fin s m e) * magnitude (fin t n d)) (mul-pos (down_pos e) (down_pos d))
    (product (2 ^ 1074) (m * up e) (down e) (magnitude (fin s m e)) (n * up d) (down d) (magnitude (fin t n d)) u.has.1 v.has.1))
  where
    product : (unit v d a w e b : ℕ) → v * unit ≡ a * d → w * unit ≡ b * e → v * w * unit * unit ≡ a * b * (d * e)
    product unit v d a w e b h k = mul_assoc (v * w) unit unit ∙ mul-mul-mul_comm v w unit unit ∙ ap (λ (x : ℕ). x * (w * unit)) h ∙ ap (λ (x : ℕ). a * d * x) k ∙ mul-mul-mul_comm a d b e

-- a result that is a double's value itself is not changed by rounding
pub exactly : (l : ℕ) (z w : ℤ) (d : Float) → IsNearest l z d → z ≡ w *ℤ pos (2 ^ l) → Representable 53 (nat_abs w) → nat_abs w < overflow binary64 → T (finite d) × (exact d ≡ w)
exactly l z w d N e R b =
    let same : to_nearest l z ≡ w = ap (to_nearest l) e ∙ to_nearest_same l w R in
    let v = N.within (rw same b) in
    (v.0, v.1 ∙ same)

-- at l = 0
pub by_one : (z : ℤ) → z ≡ z *ℤ pos (2 ^ 0)
by_one = all _ λ a a'. simp differences (omega arith)

module _ (a b : Float) (fa : T (finite a)) (fb : T (finite b)) (ha : T (fits binary64 a)) (hb : T (fits binary64 b)) where
  pub add_nearest : IsNearest 0 (exact a +ℤ exact b) (add binary64 a b)
  add_nearest = add_whole a b (whole a fa ha) (whole b fb hb)

  pub sub_nearest : IsNearest 0 (exact a -ℤ exact b) (sub binary64 a b)
  unfolding sub
  sub_nearest = subst (λ (z : ℤ). IsNearest 0 (exact a +ℤ z) (add binary64 a (neg b))) (exact-neg b) (add_whole a (neg b) (whole a fa ha) (whole (neg b) (rw (finite-neg b) fb) (neg-fits binary64 b hb)))

  pub mul_nearest : IsNearest 1074 (exact a *ℤ exact b) (mul binary64 a b)
  mul_nearest = mul_whole a b (whole a fa ha) (whole b fb hb)

  pub add-exact : Representable 53 (nat_abs (exact a +ℤ exact b)) → nat_abs (exact a +ℤ exact b) < overflow binary64 → T (finite (add binary64 a b)) × (exact (add binary64 a b) ≡ exact a +ℤ exact b)
  add-exact = exactly 0 _ _ _ add_nearest (by_one (exact a +ℤ exact b))

  pub sub_exact : Representable 53 (nat_abs (exact a -ℤ exact b)) → nat_abs (exact a -ℤ exact b) < overflow binary64 → T (finite (sub binary64 a b)) × (exact (sub binary64 a b) ≡ exact a -ℤ exact b)
  sub_exact = exactly 0 _ _ _ sub_nearest (by_one (exact a -ℤ exact b))

  pub mul-exact : (z : ℤ) → exact a *ℤ exact b ≡ z *ℤ pos (2 ^ 1074) → Representable 53 (nat_abs z) → nat_abs z < overflow binary64 → T (finite (mul binary64 a b)) × (exact (mul binary64 a b) ≡ z)
  mul-exact z = exactly 1074 (exact a *ℤ exact b) z (mul binary64 a b) mul_nearest
