-- A row's tolerance and margin have clear signs, and its room is finite and at least 0. Assumes nothing.
use Rattle.std.proofs.Common.{◌≡◌, ℕ, ◌^◌, Bool, true, false, cond, T, eqb, ◌⊎◌, pos, sym, refl, ap, ◌∙◌, subst, inl, inr, true≢false, lit≤}
use lib.Ieee.{Float, nan, inf, fin, binary64, fits, is_nan, neg, add, sub, mul, lt, le, eq}
use lib.Ieee.Fits.{sub-fits, mul-fits}
use lib.Ieee.Scale.{finite}
use Rattle.exact.specs.Value.{sign, magnitude, exact}
use Rattle.exact.specs.Integers.{◌≼◌}
use Rattle.exact.proofs.Order.{pos_≼}
use Rattle.exact.proofs.Signs.{add_clear, mul_clear, of_int_clear, exact_clear, minus_zero, sub_minus_zero}
use Rattle.doubles.specs.Compare.{larger, smaller}
use Rattle.doubles.proofs.Patterns.{finite_no_nan}
use Rattle.doubles.proofs.Choice.{larger-nan_r, larger_most}
use Rattle.doubles.proofs.Clear.{larger-fits, larger_clear, larger-finite, smaller-fits, smaller_clear}
use Rattle.cdouble.specs.Compensated.{◌⊕◌, ◌⊖◌, ◌⊗◌, as_f64, plus_zero}
use Rattle.cdouble.proofs.RoundedUp.{zero-fits}
use Rattle.tolerances.specs.Tolerances.{roundoff_floor, unit_roundoff, half, two, row_tolerance, slack_margin, slack_tol, trimmed_room}
use Rattle.tolerances.proofs.Parts.{Part, multiple, rest, apart, smaller-part}

-- ---- they are doubles
row_tolerance-fits : (tol magnitude : Float) → T (fits binary64 tol) → T (fits binary64 (row_tolerance tol magnitude))
unfolding row_tolerance
row_tolerance-fits tol magnitude h = larger-fits tol (roundoff_floor ⊗ magnitude) h (mul-fits binary64 roundoff_floor magnitude)

slack_margin-fits : (tol magnitude : Float) (terms : ℕ) → T (fits binary64 (slack_margin tol magnitude terms))
unfolding slack_margin
slack_margin-fits tol magnitude terms = smaller-fits _ _ (mul-fits binary64 ((as_f64 terms ⊕ two) ⊗ unit_roundoff) magnitude) (mul-fits binary64 half (row_tolerance tol magnitude))

pub trimmed_room-fits : (tol magnitude : Float) (terms : ℕ) → T (fits binary64 (trimmed_room tol magnitude terms))
unfolding trimmed_room
trimmed_room-fits tol magnitude terms = larger-fits _ plus_zero (sub-fits binary64 (slack_tol tol magnitude terms) (slack_margin tol magnitude terms)) zero-fits

-- ---- signs
-- the part of the magnitude that the round-off of `terms` terms is
roundoff_clear : (terms : ℕ) → sign ((as_f64 terms ⊕ two) ⊗ unit_roundoff) ≡ false
roundoff_clear terms = mul_clear (as_f64 terms ⊕ two) unit_roundoff (add_clear (as_f64 terms) two (of_int_clear terms) refl) refl

module _ (tol magnitude : Float) (ct : sign tol ≡ false) (cm : sign magnitude ≡ false) where
  -- the larger of two that have one
  pub row_tolerance_clear : sign (row_tolerance tol magnitude) ≡ false
  unfolding row_tolerance
  row_tolerance_clear = larger_clear tol (roundoff_floor ⊗ magnitude) ct (mul_clear roundoff_floor magnitude refl cm)

  -- the smaller of two that have one
  pub slack_margin_clear : (terms : ℕ) → sign (slack_margin tol magnitude terms) ≡ false
  unfolding slack_margin
  slack_margin_clear terms =
      smaller_clear _ _ (mul_clear ((as_f64 terms ⊕ two) ⊗ unit_roundoff) magnitude (roundoff_clear terms) cm) (mul_clear half (row_tolerance tol magnitude) refl row_tolerance_clear)

  -- a difference is −0 only where its first number is, and the row's tolerance is not
  pub no_minus_zero : T (fits binary64 tol) → (terms : ℕ) → slack_tol tol magnitude terms ⊖ slack_margin tol magnitude terms ≡ fin true 0 (pos 0) → ⊥
  unfolding slack_tol
  no_minus_zero h terms e =
      let m = slack_margin tol magnitude terms in
      let hm = slack_margin-fits tol magnitude terms in
      let row = row_tolerance tol magnitude in
      let z : row ⊖ m ≡ minus_zero = sub_minus_zero (slack_tol tol magnitude terms) m (sub-fits binary64 row m) hm e in
      true≢false (sym (ap sign (sub_minus_zero row m (row_tolerance-fits tol magnitude h) hm z)) ∙ row_tolerance_clear)

-- ---- the constants are from 0 to 1
floor_most : exact roundoff_floor ≼ pos (2 ^ 1074)
unfolding exact magnitude
floor_most = (pos_≼ _ _).1 (lit≤ tt)

half_most : exact half ≼ pos (2 ^ 1074)
unfolding exact magnitude
half_most = (pos_≼ _ _).1 (lit≤ tt)

constants_fit : T (fits binary64 roundoff_floor) × T (fits binary64 half)
unfolding fits
constants_fit = (tt, tt)

-- ---- the row's tolerance is finite where the magnitude is no infinity
row_tolerance-finite : (tol magnitude : Float) → T (finite tol) → T (fits binary64 magnitude) → sign magnitude ≡ false → T (finite (row_tolerance tol magnitude)) ⊎ (magnitude ≡ inf false)
unfolding row_tolerance mul
row_tolerance-finite tol nan f h c = inl (subst (λ (x : Float). T (finite x)) (sym (larger-nan_r tol (finite_no_nan tol f))) f)
row_tolerance-finite tol (inf true) f h c = absurd (true≢false c)
row_tolerance-finite tol (inf false) f h c = inr refl
row_tolerance-finite tol (fin s m e) f h c =
    let x = fin s m e in
    inl (larger-finite tol (roundoff_floor ⊗ x) f (multiple x tt h roundoff_floor tt constants_fit.0 (exact_clear roundoff_floor refl) floor_most (exact_clear x c)).is_finite)

-- ---- of an infinite magnitude the tolerance and the margin are infinite, their difference is no number, and the room is 0
row_infinite : (tol : Float) → T (finite tol) → row_tolerance tol (inf false) ≡ inf false
unfolding row_tolerance larger is_nan lt mul
row_infinite nan f = absurd f
row_infinite (inf s) f = absurd f
row_infinite (fin s m e) f = refl

smaller_infinite : (p : Float) → sign p ≡ false → smaller (p ⊗ inf false) (inf false) ≡ inf false
unfolding smaller is_nan lt mul
smaller_infinite nan c = refl
smaller_infinite (inf true) c = absurd (true≢false c)
smaller_infinite (inf false) c = refl
smaller_infinite (fin true m e) c = absurd (true≢false c)
smaller_infinite (fin false m e) c = go (eqb m 0)
  where
    go : (q : Bool) → smaller (cond q nan (inf false)) (inf false) ≡ inf false
    go true = refl
    go false = refl

margin_infinite : (tol : Float) (terms : ℕ) → T (finite tol) → slack_margin tol (inf false) terms ≡ inf false
unfolding slack_margin mul
margin_infinite tol terms f = let p = (as_f64 terms ⊕ two) ⊗ unit_roundoff in ap (λ (x : Float). smaller (p ⊗ inf false) (half ⊗ x)) (row_infinite tol f) ∙ smaller_infinite p (roundoff_clear terms)

no_room : (tol : Float) (terms : ℕ) → T (finite tol) → trimmed_room tol (inf false) terms ≡ plus_zero
unfolding trimmed_room slack_tol sub add neg larger is_nan
no_room tol terms f =
    let m = slack_margin tol (inf false) terms in
    ap (λ (x : Float). larger ((x ⊖ m) ⊖ m) plus_zero) (row_infinite tol f) ∙ ap (λ (x : Float). larger ((inf false ⊖ x) ⊖ x) plus_zero) (margin_infinite tol terms f)

-- ---- the room
abbrev pub IsRoom : Float → Type 0
IsRoom r = T (finite r) × T (le plus_zero r)

module _ (tol magnitude : Float) (ft : T (finite tol)) (ht : T (fits binary64 tol)) (hm : T (fits binary64 magnitude)) (ct : sign tol ≡ false) (cm : sign magnitude ≡ false) (terms : ℕ) where
  -- of a finite row tolerance: the margin is a part of it, and so is what `slack_tol` leaves; the difference of the two is finite
  finite_room : T (finite (row_tolerance tol magnitude)) → IsRoom (trimmed_room tol magnitude terms)
  unfolding slack_margin slack_tol trimmed_room is_nan
  finite_room f =
      let row = row_tolerance tol magnitude in
      let h = row_tolerance-fits tol magnitude ht in
      let c = row_tolerance_clear tol magnitude ct cm in
      let H : Part row (half ⊗ row) = multiple row f h half tt constants_fit.1 (exact_clear half refl) half_most (exact_clear row c) in
      let M : Part row (slack_margin tol magnitude terms) = smaller-part row (half ⊗ row) H (mul_clear half row refl c)
      ((as_f64 terms ⊕ two) ⊗ unit_roundoff ⊗ magnitude) (mul-fits binary64 _ magnitude) (mul_clear ((as_f64 terms ⊕ two) ⊗ unit_roundoff) magnitude (roundoff_clear terms) cm) in
      let d = slack_tol tol magnitude terms ⊖ slack_margin tol magnitude terms in
      let g : T (finite d) = apart row f h (slack_tol tol magnitude terms) (slack_margin tol magnitude terms) (rest row f h (slack_margin tol magnitude terms) M) M in
      (larger-finite d plus_zero g tt, (larger_most d plus_zero (finite_no_nan d g) tt (sub-fits binary64 _ _) zero-fits).1)

  -- the room is finite and at least 0
  pub trimmed_room_law : IsRoom (trimmed_room tol magnitude terms)
  unfolding le lt eq
  trimmed_room_law = elim (row_tolerance-finite tol magnitude ft hm cm) [
    | inl f ↦ finite_room f
    | inr e ↦ subst IsRoom (sym (ap (λ (x : Float). trimmed_room tol x terms) e ∙ no_room tol terms ft)) (tt, tt)
  ]
