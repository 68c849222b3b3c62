-- The one inequality: at every point in the ranges, the kept multipliers times the amounts by which the point misses their rows add up to at
-- least the exact gap. Assumes nothing.
use native.Mathlib.Omega.{arith}
use mathlib.Core.Path.{◌≡◌, refl, sym, ap, ◌∙◌, subst}
use mathlib.Core.Bool.{Bool, true, false, cond}
use mathlib.Core.Option.{Option, none, some}
use Prim.Native.Nat.{ℕ, zero, suc, ◌^◌, ◌≤◌, ◌<◌}
use borrow.Author.Tests.{eqb-true, eqb-false}
use lib.Dec.{eqb}
use lib.IntN.{ℤ, pos, ◌+ℤ◌, ◌*ℤ◌, ◌-ℤ◌, *ℤ_comm, +ℤ_idl, +ℤ_idr, zero-*ℤ}
use lib.ListN.{length, get_or}
use lib.Ieee.{nan}
use Rattle.exact.specs.Value.{exact}
use Rattle.exact.specs.Integers.{◌≼◌, Σ<}
use Rattle.exact.proofs.Difference.{all, differences}
use Rattle.exact.proofs.Ring.{rearrange}
use Rattle.exact.proofs.Sums.{Σ_ext, Σ_swap, Σ-*, combine}
use Rattle.loops.specs.Places.{all_below}
use Rattle.gaps.specs.Rows.{Rows, Ranges, KeptRows, finite_parts}
use Rattle.gaps.specs.Points.{Point, in_units, Lies, row_at, missed}
use Rattle.gaps.specs.ExactGap.{multiplier, entry, coefficient, combined_right_side, value_at, largest_value, less_largest, exact_gap}
use Rattle.gaps.proofs.Sound.{SoundRows}
use Rattle.gaps.proofs.LargestValue.{when_some, in_some, no_more}

-- ---- a sum in which one place counts
nothing_more : (a x : ℤ) → a +ℤ pos 0 *ℤ x ≡ a
nothing_more a x = ap (λ (z : ℤ). a +ℤ z) (zero-*ℤ x) ∙ +ℤ_idr a

module _ (c : ℕ) (a : ℤ) (f : ℕ → ℤ) where
  abbrev at : ℕ → ℤ
  at v = cond (eqb c v) a (pos 0) *ℤ f v

  -- the sum with one place more, by whether that is the place
  with_place : (n : ℕ) (P : ℤ → Type 0) → (c ≡ n → P (Σ< n at +ℤ a *ℤ f n)) → ((c ≡ n → ⊥) → P (Σ< n at)) → P (Σ< n at +ℤ at n)
  with_place n P here other = go (eqb c n) refl
    where
      go : (q : Bool) → eqb c n ≡ q → P (Σ< n at +ℤ cond q a (pos 0) *ℤ f n)
      go true e = here (eqb-true c n e)
      go false e = subst P (sym (nothing_more (Σ< n at) (f n))) (other (eqb-false c n e))

  no_place : (n : ℕ) → n ≤ c → Σ< n at ≡ pos 0
  unfolding Σ<
  no_place zero h = refl
  no_place (suc n) h = with_place n (λ z. z ≡ pos 0) (λ e. absurd (omega arith)) (λ d. no_place n (omega arith))

  one_place : (n : ℕ) → c < n → Σ< n at ≡ a *ℤ f c
  unfolding Σ<
  one_place zero h = absurd (omega arith)
  one_place (suc n) h =
      with_place n (λ z. z ≡ a *ℤ f c)
      (λ e. ap (λ (z : ℤ). z +ℤ a *ℤ f n) (no_place n (omega arith)) ∙ +ℤ_idl (a *ℤ f n) ∙ ap (λ (v : ℕ). a *ℤ f v) (sym e)) (λ d. one_place n (omega arith))

-- ---- a row at a point, by variable
Σ-factor : (n : ℕ) (f : ℕ → ℤ) (z : ℤ) → Σ< n f *ℤ z ≡ Σ< n (λ k. f k *ℤ z)
Σ-factor n f z = *ℤ_comm (Σ< n f) z ∙ Σ-* z n f ∙ Σ_ext n _ _ (λ k h. *ℤ_comm z (f k))

module _ (m : Rows) (sound : SoundRows m) (p : Point) (r : ℕ) (less : r < m.count) where
  row_by_variable : row_at m p r ≡ Σ< m.variables (λ v. entry m r v *ℤ p.numbers v)
  unfolding row_at entry
  row_by_variable =
      let n = length (m.columns r) in
      let place : ℕ → ℕ = λ k. get_or (m.columns r) k 0 in
      let a : ℕ → ℤ = λ k. exact (get_or (m.entries r) k nan) in
      Σ_ext n _ _ (λ k h. sym (one_place (place k) (a k) p.numbers m.variables (sound.inside r less k h)))
      ∙ Σ_swap n m.variables (λ k v. cond (eqb (place k) v) (a k) (pos 0) *ℤ p.numbers v)
      ∙ Σ_ext m.variables _ _ (λ v h. sym (Σ-factor n (λ k. cond (eqb (place k) v) (a k) (pos 0)) (p.numbers v)))

-- ---- the rows that a point misses, combined
-- a sum of y (b d − w), taken apart
one_more : (s t y b d w : ℤ) → s *ℤ d -ℤ t +ℤ y *ℤ (b *ℤ d -ℤ w) ≡ (s +ℤ y *ℤ b) *ℤ d -ℤ (t +ℤ y *ℤ w)
one_more s t y b d w = simp rearrange

none_yet : (d : ℤ) → pos 0 ≡ pos 0 *ℤ d -ℤ pos 0
none_yet = all _ λ d d'. simp differences (omega arith)

apart : (n : ℕ) (y b w : ℕ → ℤ) (d : ℤ) → Σ< n (λ r. y r *ℤ (b r *ℤ d -ℤ w r)) ≡ Σ< n (λ r. y r *ℤ b r) *ℤ d -ℤ Σ< n (λ r. y r *ℤ w r)
unfolding Σ<
apart zero y b w d = none_yet d
apart (suc n) y b w d =
    ap (λ (z : ℤ). z +ℤ y n *ℤ (b n *ℤ d -ℤ w n)) (apart n y b w d) ∙ one_more (Σ< n (λ r. y r *ℤ b r)) (Σ< n (λ r. y r *ℤ w r)) (y n) (b n) d (w n)

module _ (kept : KeptRows) (m : Rows) (sound : SoundRows m) (p : Point) where
  -- the rows combined by their multipliers, at a point, are the combined row there
  combined-at : Σ< m.count (λ r. multiplier (kept r) *ℤ row_at m p r) ≡ value_at kept m p
  unfolding value_at coefficient
  combined-at =
      Σ_ext m.count _ _ (λ r less. ap (λ (z : ℤ). multiplier (kept r) *ℤ z) (row_by_variable m sound p r less))
      ∙ combine m.count m.variables (λ r. multiplier (kept r)) p.numbers (entry m)

  pub missed-combined : Σ< m.count (λ r. multiplier (kept r) *ℤ missed m p r) ≡ combined_right_side kept m *ℤ pos p.denominator -ℤ value_at kept m p
  unfolding missed combined_right_side
  missed-combined =
      apart m.count (λ r. multiplier (kept r)) (λ r. exact (m.right_sides r)) (row_at m p) (pos p.denominator)
      ∙ ap (λ (z : ℤ). Σ< m.count (λ r. multiplier (kept r) *ℤ exact (m.right_sides r)) *ℤ pos p.denominator -ℤ z) combined-at

-- ---- the inequality
pub gap_parts : (kept : KeptRows) (m : Rows) (g : Ranges) (z : ℤ) → exact_gap kept m g ≡ some z
    → (largest : ℤ) × (largest_value kept m g ≡ some largest) × (z ≡ in_units (combined_right_side kept m) -ℤ largest)
unfolding exact_gap
gap_parts kept m g z e = go (largest_value kept m g) refl (when_some (all_below m.count (λ r. finite_parts (kept r))) (less_largest (combined_right_side kept m) (largest_value kept m g)) z e).1
  where
    go : (l : Option ℤ) → largest_value kept m g ≡ l → less_largest (combined_right_side kept m) l ≡ some z
        → (largest : ℤ) × (largest_value kept m g ≡ some largest) × (z ≡ in_units (combined_right_side kept m) -ℤ largest)
    go none is e = let n : ◌≡◌ {A = ℕ} 0 1 = cc in absurd (omega arith)
    go (some largest) is e = (largest, is, sym (in_some _ _ e))

rest : (b v largest d u : ℤ) → v *ℤ u ≼ largest *ℤ d → (b *ℤ u -ℤ largest) *ℤ d ≼ (b *ℤ d -ℤ v) *ℤ u
rest = all _ λ b b'. all _ λ v v'. all _ λ l l'. all _ λ d d'. all _ λ u u'. simp differences (λ h. omega arith)

pub inequality : (kept : KeptRows) (m : Rows) (g : Ranges) → SoundRows m → (z : ℤ) → exact_gap kept m g ≡ some z → (p : Point) → Lies g m.variables p
    → z *ℤ pos p.denominator ≼ in_units (Σ< m.count (λ r. multiplier (kept r) *ℤ missed m p r))
unfolding in_units
inequality kept m g sound z e p lies =
    let h = gap_parts kept m g z e in
    subst (λ (x : ℤ). x *ℤ pos p.denominator ≼ in_units (Σ< m.count (λ r. multiplier (kept r) *ℤ missed m p r))) (sym h.2)
    (subst (λ (x : ℤ). (in_units (combined_right_side kept m) -ℤ h.0) *ℤ pos p.denominator ≼ in_units x) (sym (missed-combined kept m sound p))
    (rest (combined_right_side kept m) (value_at kept m p) h.0 (pos p.denominator) (pos (2 ^ 1074)) (no_more kept m g h.0 h.1 p lies)))
