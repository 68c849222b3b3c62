-- The combined row's largest value is one: no point in the ranges gives more, and one gives as much. Assumes nothing.
use native.Mathlib.Omega.{arith}
use mathlib.Core.Path.{◌≡◌, refl, sym, ap, ◌∙◌, subst}
use mathlib.Core.Logic.{inl, inr}
use mathlib.Core.Bool.{Bool, true, false, cond}
use mathlib.Core.Option.{Option, none, some}
use Prim.Native.Nat.{ℕ, ◌^◌, ◌<◌}
use lib.Dec.{T}
use lib.IntN.{ℤ, pos, ◌*ℤ◌, *ℤ_comm}
use lib.Pow.{pow_pos}
use lib.Ieee.{Float, nan, inf, fin}
use lib.Ieee.Scale.{finite}
use Rattle.exact.specs.Value.{exact}
use Rattle.exact.specs.Integers.{◌≼◌, Σ<}
use Rattle.exact.proofs.Ring.{*ℤ_assoc}
use Rattle.exact.proofs.Order.{≼_refl, ≼_of_≺, ≼_or_≺, ≺_not_≼, *_mono, *_anti}
use Rattle.exact.proofs.Compare.{le-exact}
use Rattle.exact.proofs.Sums.{Σ_ext, Σ-*, Σ_mono}
use Rattle.cdouble.specs.Compensated.{plus_zero}
use Rattle.loops.specs.Places.{all_below}
use Rattle.loops.proofs.All.{all_at}
use Rattle.gaps.specs.Rows.{Rows, Ranges, KeptRows}
use Rattle.gaps.specs.Points.{Point, in_units, IsBelow, IsAbove, Lies}
use Rattle.gaps.specs.ExactGap.{coefficient, value_at, taken, taken_at, largest_value}
use Rattle.gaps.proofs.Sound.{SoundRange, SoundRanges}
use Rattle.gaps.proofs.Sides.{scale_mono}
use Rattle.gaps.proofs.TakenEdge.{pick, taken_ind, times_zero}

-- ---- an optional number that is there
pub when_some : {A : Type 0} (b : Bool) (x : Option A) (z : A) → cond b x none ≡ some z → (b ≡ true) × (x ≡ some z)
when_some true x z e = (refl, e)
when_some false x z e = let n : ◌≡◌ {A = ℕ} 0 1 = cc in absurd (omega arith)

pub in_some : {A : Type 0} (x z : A) → some x ≡ some z → x ≡ z
in_some x z e = cc

-- ---- units
pub units_scale : (a b : ℤ) → in_units (a *ℤ b) ≡ a *ℤ in_units b
unfolding in_units
units_scale a b = *ℤ_assoc a b (pos (2 ^ 1074))

units_Σ : (n : ℕ) (f : ℕ → ℤ) → in_units (Σ< n f) ≡ Σ< n (λ i. in_units (f i))
unfolding in_units
units_Σ n f = *ℤ_comm (Σ< n f) (pos (2 ^ 1074)) ∙ Σ-* (pos (2 ^ 1074)) n f ∙ Σ_ext n _ _ (λ i h. *ℤ_comm (pos (2 ^ 1074)) (f i))

-- a sum over a denominator
Σ-over : (n : ℕ) (f : ℕ → ℤ) (d : ℤ) → Σ< n (λ i. f i *ℤ d) ≡ Σ< n f *ℤ d
Σ-over n f d = Σ_ext n _ _ (λ i h. *ℤ_comm (f i) d) ∙ sym (Σ-* d n f) ∙ *ℤ_comm d (Σ< n f)

-- ---- no point gives more
-- a number that is not above a finite edge, and one that is not below it
not_above : (p : Point) (v : ℕ) (x : Float) → T (finite x) → (IsAbove p v x → ⊥) → in_units (p.numbers v) ≼ exact x *ℤ pos p.denominator
unfolding IsAbove
not_above p v nan t h = absurd t
not_above p v (inf s) t h = absurd t
not_above p v (fin s m e) t h =
    elim (≼_or_≺ (in_units (p.numbers v)) (exact (fin s m e) *ℤ pos p.denominator)) [ inl o ↦ o | inr o ↦ absurd (h o) ]

not_below : (p : Point) (v : ℕ) (x : Float) → T (finite x) → (IsBelow p v x → ⊥) → exact x *ℤ pos p.denominator ≼ in_units (p.numbers v)
unfolding IsBelow
not_below p v nan t h = absurd t
not_below p v (inf s) t h = absurd t
not_below p v (fin s m e) t h =
    elim (≼_or_≺ (exact (fin s m e) *ℤ pos p.denominator) (in_units (p.numbers v))) [ inl o ↦ o | inr o ↦ absurd (h o) ]

module _ (g : Ranges) (n : ℕ) (p : Point) (lies : Lies g n p) (v : ℕ) (less : v < n) (c : ℤ) where
  at_most : T (finite (taken c (g.low v) (g.high v))) → in_units (c *ℤ p.numbers v) ≼ (c *ℤ exact (taken c (g.low v) (g.high v))) *ℤ pos p.denominator
  at_most t =
      rw (units_scale, *ℤ_assoc c (exact (taken c (g.low v) (g.high v))) (pos p.denominator))
      (taken_ind (λ _ x. T (finite x) → c *ℤ in_units (p.numbers v) ≼ c *ℤ (exact x *ℤ pos p.denominator)) c (g.low v) (g.high v) plus_zero
      (λ above f. *_mono c _ _ (≼_of_≺ above) (not_above p v (g.high v) f (lies.not_above v less)))
      (λ below f. *_anti c _ _ (≼_of_≺ below) (not_below p v (g.low v) f (lies.not_below v less)))
      (λ zero f. subst (λ (z : ℤ). c *ℤ in_units (p.numbers v) ≼ z) (times_zero c (in_units (p.numbers v)) (exact plus_zero *ℤ pos p.denominator) zero) (≼_refl _)) t)

-- ---- one gives as much: at the edges taken, and within the range where the coefficient is 0
-- a number of units that a range has
abbrev Has : Float → Float → ℤ → Type 0
Has low high z = (T (finite low) → exact low ≼ z) × (T (finite high) → z ≼ exact high)

abbrev inner : Float → Float → Float
inner low high = cond (finite low) low (cond (finite high) high plus_zero)

module _ (low high : Float) (range : SoundRange low high) where
  has_high : T (finite high) → Has low high (exact high)
  has_high f = (λ t. (le-exact low high t f range.low_fits range.high_fits).0 range.ordered, λ t. ≼_refl (exact high))

  has_low : T (finite low) → Has low high (exact low)
  has_low f = (λ t. ≼_refl (exact low), λ t. (le-exact low high f t range.low_fits range.high_fits).0 range.ordered)

  has_inner : Has low high (exact (inner low high))
  has_inner = go (finite low) (finite high) (λ t. has_low t) (λ t. has_high t) (λ t. t) (λ t. t)
    where
      go : (p q : Bool) → (T p → Has low high (exact low)) → (T q → Has low high (exact high)) → (T (finite low) → T p) → (T (finite high) → T q)
          → Has low high (exact (cond p low (cond q high plus_zero)))
      go true q a b f h = a tt
      go false true a b f h = b tt
      go false false a b f h = (λ t. absurd (f t), λ t. absurd (h t))

  chosen_law : (c : ℤ) → T (finite (taken c low high)) → Has low high (exact (pick c low high (inner low high))) × (c *ℤ exact (pick c low high (inner low high)) ≡ c *ℤ exact (taken c low high))
  chosen_law c t =
      taken_ind (λ x y. T (finite y) → Has low high (exact x) × (c *ℤ exact x ≡ c *ℤ exact y)) c low high (inner low high) (λ _ f. (has_high f, refl)) (λ _ f. (has_low f, refl))
      (λ zero f. (has_inner, times_zero c (exact (inner low high)) (exact plus_zero) zero)) t

-- a point whose numbers are whole numbers of units
at_units : (ℕ → ℤ) → Point
at_units f = record { numbers = f; denominator = 2 ^ 1074; positive = pow_pos 1074 }

units_mono : (a b : ℤ) → a ≼ b → (a *ℤ pos (2 ^ 1074) ≼ in_units b) × (in_units a ≼ b *ℤ pos (2 ^ 1074))
unfolding in_units
units_mono a b h = let o = scale_mono (2 ^ 1074) a b h in (o, o)

module _ (f : ℕ → ℤ) (v : ℕ) (low high : Float) (range : SoundRange low high) (has : Has low high (f v)) where
  lies_above : IsBelow (at_units f) v low → ⊥
  unfolding IsBelow at_units
  lies_above = go low range.low_not_top has.0
    where
      go : (x : Float) → (x ≡ inf false → ⊥) → (T (finite x) → exact x ≼ f v) → IsBelow (at_units f) v x → ⊥
      go nan t h below = below
      go (inf true) t h below = below
      go (inf false) t h below = t refl
      go (fin s m e) t h below = ≺_not_≼ below (units_mono (exact (fin s m e)) (f v) (h tt)).0

  lies_below : IsAbove (at_units f) v high → ⊥
  unfolding IsAbove at_units
  lies_below = go high range.high_not_bottom has.1
    where
      go : (x : Float) → (x ≡ inf true → ⊥) → (T (finite x) → f v ≼ exact x) → IsAbove (at_units f) v x → ⊥
      go nan t h above = above
      go (inf true) t h above = t refl
      go (inf false) t h above = above
      go (fin s m e) t h above = ≺_not_≼ above (units_mono (f v) (exact (fin s m e)) (h tt)).1

module _ (kept : KeptRows) (m : Rows) (g : Ranges) (largest : ℤ) (is : largest_value kept m g ≡ some largest) where
  there : (all_below m.variables (λ v. finite (taken_at kept m g v)) ≡ true) × (Σ< m.variables (λ v. coefficient kept m v *ℤ exact (taken_at kept m g v)) ≡ largest)
  unfolding largest_value
  there = let h = when_some _ _ largest is in (h.0, in_some _ _ h.1)

  taken-finite : (v : ℕ) → v < m.variables → T (finite (taken_at kept m g v))
  taken-finite v less = subst T (sym (all_at (λ v. finite (taken_at kept m g v)) m.variables there.0 v less)) tt

  -- "no point in the ranges gives more, …
  pub no_more : (p : Point) → Lies g m.variables p → in_units (value_at kept m p) ≼ largest *ℤ pos p.denominator
  unfolding value_at
  no_more p lies =
      let n = m.variables in
      let most : ℕ → ℤ = λ v. coefficient kept m v *ℤ exact (taken_at kept m g v) in
      subst (λ (z : ℤ). in_units (Σ< n (λ v. coefficient kept m v *ℤ p.numbers v)) ≼ z *ℤ pos p.denominator) there.1
      (subst (λ (z : ℤ). in_units (Σ< n (λ v. coefficient kept m v *ℤ p.numbers v)) ≼ z) (Σ-over n most (pos p.denominator))
      (rw units_Σ (Σ_mono n _ _ (λ v less. at_most g n p lies v less (coefficient kept m v) (taken-finite v less)))))

  -- … and one gives as much"
  chosen : ℕ → Float
  chosen v = pick (coefficient kept m v) (g.low v) (g.high v) (inner (g.low v) (g.high v))

  module _ (sound : SoundRanges m.variables g) where
    chosen_at : (v : ℕ) → v < m.variables → Has (g.low v) (g.high v) (exact (chosen v)) × (coefficient kept m v *ℤ exact (chosen v) ≡ coefficient kept m v *ℤ exact (taken_at kept m g v))
    unfolding chosen
    chosen_at v less = chosen_law (g.low v) (g.high v) (sound v less) (coefficient kept m v) (taken-finite v less)

    pub as_much : (p : Point) × Lies g m.variables p × (in_units (value_at kept m p) ≡ largest *ℤ pos p.denominator)
    unfolding value_at in_units at_units
    as_much = (
      at_units (λ v. exact (chosen v)),
      record {
        not_below = λ v less. lies_above (λ v. exact (chosen v)) v (g.low v) (g.high v) (sound v less) (chosen_at v less).0;
        not_above = λ v less. lies_below (λ v. exact (chosen v)) v (g.low v) (g.high v) (sound v less) (chosen_at v less).0;
      },
      ap (λ (z : ℤ). z *ℤ pos (2 ^ 1074)) (Σ_ext m.variables _ _ (λ v less. (chosen_at v less).1) ∙ there.1),
    )
