-- Steps of arithmetic on doubles that are differences of naturals with a common sign. Assumes nothing.
use Rattle.std.proofs.Common.{◌≡◌, ℕ, ◌+◌, ◌*◌, ◌^◌, ◌≤◌, Bool, true, false, ℤ, pos, ◌-ℤ◌, ◌*ℤ◌, nat_abs, sym, ap, ◌∙◌, subst, le_trans, le_of_eq, arith}
use lib.Ieee.{Float, unlike}
use Rattle.exact.specs.Value.{signed}
use Rattle.exact.specs.Representable.{Representable}
use Rattle.exact.proofs.Naturals.{distance}
use Rattle.exact.proofs.Difference.{dif, differences}
use Rattle.exact.proofs.Signed.{nat_abs_dif}
use Rattle.cdouble.specs.Compensated.{◌⊖◌, ◌⊗◌}
use Rattle.error_free.proofs.Steps.{top, HasExact, as_value, IsDouble, is_double, double_as, sub_kept, mul-kept}

-- a - b, or its negative
abbrev pub offset : Bool → ℕ → ℕ → ℤ
offset false a b = dif a b
offset true a b = dif b a

pub offset_signed : (s : Bool) (n : ℕ) → signed s n ≡ offset s n 0
offset_signed false n = simp differences
offset_signed true n = simp differences

pub offset_same : (s : Bool) (a b c d : ℕ) → a + d ≡ c + b → offset s a b ≡ offset s c d
offset_same false a b c d e = simp differences e
offset_same true a b c d e = simp differences (omega arith)

pub offset_sub : (s : Bool) (a b c d : ℕ) → offset s a b -ℤ offset s c d ≡ offset s (a + d) (b + c)
offset_sub false a b c d = simp differences (omega arith)
offset_sub true a b c d = simp differences (omega arith)

pub offset_mul : (s t : Bool) (a b c d : ℕ) → offset s a b *ℤ offset t c d ≡ offset (unlike s t) (a * c + b * d) (a * d + b * c)
offset_mul false false a b c d = simp differences (omega arith)
offset_mul true true a b c d = simp differences (omega arith)
offset_mul true false a b c d = simp differences (omega arith)
offset_mul false true a b c d = simp differences (omega arith)

pub offset_scale : (s : Bool) (a b n : ℕ) → offset s (a * n) (b * n) ≡ offset s a b *ℤ pos n
offset_scale false a b n = simp differences (omega arith)
offset_scale true a b n = simp differences (omega arith)

pub offset_abs : (s : Bool) (a b : ℕ) → nat_abs (offset s a b) ≡ distance a b
offset_abs false a b = nat_abs_dif a b
offset_abs true a b = nat_abs_dif b a ∙ flip b a
  where
    flip : (a b : ℕ) → distance a b ≡ distance b a
    flip a b = omega arith

offset_double : (s : Bool) (a b : ℕ) → Representable 53 (distance a b) → a ≤ top → b ≤ top → IsDouble (offset s a b)
offset_double s a b R c d = is_double (record { digits = subst (λ (n : ℕ). Representable 53 n) (sym (offset_abs s a b)) R; cap = le_trans (le_of_eq (offset_abs s a b)) (apart a b top c d) })
  where
    apart : (a b k : ℕ) → a ≤ k → b ≤ k → distance a b ≤ k
    apart a b k h i = omega arith

-- ---- a difference and a product that come to u - w
module _ (u w : ℕ) (R : Representable 53 (distance u w)) (c : u ≤ top) (d : w ≤ top) where
  pub sub_offset : (s : Bool) (x y : Float) (a b a' b' : ℕ) → HasExact (offset s a b) x → HasExact (offset s a' b') y → a + b' + w ≡ u + (b + a') → HasExact (offset s u w) (x ⊖ y)
  sub_offset s x y a b a' b' X Y e =
      let is = offset_sub s a b a' b' ∙ offset_same s (a + b') (b + a') u w e in
      as_value is (sub_kept X Y (double_as (sym is) (offset_double s u w R c d)))

  pub mul_offset : (s t : Bool) (x y : Float) (a b a' b' : ℕ) → HasExact (offset s a b) x → HasExact (offset t a' b') y
      → a * a' + b * b' ≡ u * 2 ^ 1074 → a * b' + b * a' ≡ w * 2 ^ 1074 → HasExact (offset (unlike s t) u w) (x ⊗ y)
  mul_offset s t x y a b a' b' X Y e f =
      mul-kept X Y (offset (unlike s t) u w)
      (offset_mul s t a b a' b' ∙ ap (λ (n : ℕ). offset (unlike s t) n (a * b' + b * a')) e ∙ ap (λ (n : ℕ). offset (unlike s t) (u * 2 ^ 1074) n) f ∙ offset_scale (unlike s t) u w (2 ^ 1074))
      (offset_double (unlike s t) u w R c d)
