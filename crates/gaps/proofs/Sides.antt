-- Rounding outward to one side, and sums that keep to it: what is proved of a side holds of rounding down and of rounding up. Assumes nothing.
use mathlib.Core.Path.{◌≡◌, refl, sym, ap, ◌∙◌, subst}
use mathlib.Core.Bool.{Bool, true, false, not, true≢false}
use Prim.Native.Nat.{ℕ, zero, suc, ◌+◌, ◌^◌, ◌<◌}
use native.Mathlib.Nat.{zero-add}
use native.Mathlib.Omega.{arith}
use lib.IntN.{ℤ, pos, neg_ℤ, ◌+ℤ◌, ◌*ℤ◌, *ℤ_comm, +ℤ_idr, +ℤ_assoc, zero-*ℤ}
use lib.Dec.{T}
use lib.Pow.{pow-add}
use lib.Ieee.{Float, nan, inf, fin, binary64, fits, is_nan, neg, le}
use lib.Ieee.Fits.{inf-fits, neg-fits}
use lib.Ieee.Scale.{finite}
use Rattle.exact.specs.Value.{sign, exact, exact_at, magnitude}
use Rattle.exact.specs.Integers.{◌≼◌, Σ<}
use Rattle.exact.proofs.Difference.{differences}
use Rattle.exact.proofs.Ring.{*ℤ_distr, *ℤ_assoc}
use Rattle.exact.proofs.Order.{≼_refl, ≼_trans, +_mono, *_mono, neg-≼, *_cancel}
use Rattle.exact.proofs.Values.{exact_at-neg}
use Rattle.exact.proofs.Compare.{le_no_nan}
use Rattle.doubles.specs.Directed.{round_up, round_down, sum_with, product_with}
use Rattle.doubles.proofs.Directed.{round_up_law}
use Rattle.doubles.proofs.Mirror.{round_down_law}
use Rattle.doubles.proofs.Bounding.{product_finite}
use Rattle.cdouble.specs.Compensated.{plus_zero}
use Rattle.gaps.specs.Steps.{Operation}
use Rattle.gaps.proofs.InOrder.{bottom, top, between, ways}

-- d is a bound of z units of 2 ^ -(1074 + l): in order with them if finite, and otherwise the infinity of its side
pub record IsBound (order : ℤ → ℤ → Type 0) (other : Bool) (l : ℕ) (z : ℤ) (d : Float) : Type 0 where
  pub fit : T (fits binary64 d)
  pub no_nan : T (not (is_nan d))
  pub no_other : d ≡ inf other → ⊥
  pub bound : T (finite d) → order (exact_at l d) z

-- a side: the order that its roundings keep, the infinity that they never give, and the laws of the order
pub record Side : Type 1 where
  pub order : ℤ → ℤ → Type 0
  pub other : Bool
  pub rounded : ℕ → ℤ → Float
  pub rounds : (l : ℕ) (z : ℤ) → IsBound order other l z (rounded l z)
  pub same : (a : ℤ) → order a a
  pub follows : {a b c : ℤ} → order a b → order b c → order a c
  pub adds : (a b c d : ℤ) → order a b → order c d → order (a +ℤ c) (b +ℤ d)
  pub scales : (n : ℕ) (a b : ℤ) → order a b → order (a *ℤ pos n) (b *ℤ pos n)

-- ---- the two
pub scale_mono : (n : ℕ) (a b : ℤ) → a ≼ b → a *ℤ pos n ≼ b *ℤ pos n
scale_mono n a b h = rw (*ℤ_comm a (pos n), *ℤ_comm b (pos n)) (*_mono (pos n) a b (nonneg n) h)
  where
    nonneg : (n : ℕ) → pos 0 ≼ pos n
    nonneg n = simp differences (omega arith)

pub scale_cancel : (n : ℕ) (a b : ℤ) → 0 < n → a *ℤ pos n ≼ b *ℤ pos n → a ≼ b
scale_cancel n a b h o = *_cancel n a b h (rw (*ℤ_comm (pos n) a, *ℤ_comm (pos n) b) o)

abbrev pub downward : Side
downward = record {
  order = λ a b. a ≼ b;
  other = false;
  rounded = round_down;
  rounds = λ l z. let R = round_down_law l z in record { fit = R.fit; no_nan = R.no_nan; no_other = R.no_other; bound = R.not_above };
  same = ≼_refl;
  follows = ≼_trans;
  adds = +_mono;
  scales = scale_mono;
}

abbrev pub upward : Side
upward = record {
  order = λ a b. b ≼ a;
  other = true;
  rounded = round_up;
  rounds = λ l z. let R = round_up_law l z in record { fit = R.fit; no_nan = R.no_nan; no_other = R.no_other; bound = R.not_below };
  same = ≼_refl;
  follows = λ h k. ≼_trans k h;
  adds = λ a b c d h k. +_mono b a d c h k;
  scales = λ n a b h. scale_mono n b a h;
}

-- ---- sums and products of a side
module _ (s : Side) where
  abbrev pub Bounds : ℕ → ℤ → Float → Type 0
  Bounds = IsBound s.order s.other

  abbrev pub sum : Operation
  sum = sum_with (s.rounded 0)

  abbrev pub product : Operation
  product = product_with (s.rounded 1074)

  pub bounds_zero : (l : ℕ) → Bounds l (pos 0) plus_zero
  unfolding exact magnitude fits is_nan
  bounds_zero l = record { fit = tt; no_nan = tt; no_other = λ e. subst (λ (x : Float). T (finite x)) e tt; bound = λ t. rw (zero-*ℤ (pos (2 ^ l))) (s.same (pos 0)) }

  pub bounds_product : (a b : Float) → T (finite a) → T (finite b) → Bounds 1074 (exact a *ℤ exact b) (product a b)
  bounds_product a b f g = subst (Bounds 1074 (exact a *ℤ exact b)) (product_finite (s.rounded 1074) a b f g) (s.rounds 1074 (exact a *ℤ exact b))

  -- an infinity that is not the other bounds everything
  infinite : (t : Bool) (l : ℕ) (z : ℤ) → (inf t ≡ inf s.other → ⊥) → Bounds l z (inf t)
  unfolding is_nan
  infinite t l z h = record { fit = inf-fits binary64 t; no_nan = tt; no_other = h; bound = λ f. absurd f }

  -- the same bound in smaller units
  pub bounds_finer : (l n : ℕ) {z : ℤ} {d : Float} → Bounds l z d → Bounds (l + n) (z *ℤ pos (2 ^ n)) d
  bounds_finer l n {z} {d} D = record {
    fit = D.fit;
    no_nan = D.no_nan;
    no_other = D.no_other;
    bound = λ f. rw (split (exact d)) (s.scales (2 ^ n) (exact_at l d) z (D.bound f));
  }
    where
      split : (a : ℤ) → a *ℤ pos (2 ^ (l + n)) ≡ a *ℤ pos (2 ^ l) *ℤ pos (2 ^ n)
      split a = ap (λ (x : ℕ). a *ℤ pos x) (pow-add 2 l n) ∙ sym (*ℤ_assoc a (pos (2 ^ l)) (pos (2 ^ n)))

  -- a bound of one number bounds another that is in order with it
  pub bounds_by : (l : ℕ) {z w : ℤ} {d : Float} → s.order z w → Bounds l z d → Bounds l w d
  bounds_by l h D = record { fit = D.fit; no_nan = D.no_nan; no_other = D.no_other; bound = λ f. s.follows (D.bound f) h }

  pub bounds_sum : (l : ℕ) (z w : ℤ) (a b : Float) → Bounds l z a → Bounds l w b → Bounds l (z +ℤ w) (sum a b)
  unfolding sum_with is_nan
  bounds_sum l z w nan b A B = absurd A.no_nan
  bounds_sum l z w (inf t) b A B = infinite t l (z +ℤ w) A.no_other
  bounds_sum l z w (fin t m e) nan A B = absurd B.no_nan
  bounds_sum l z w (fin t m e) (inf r) A B = infinite r l (z +ℤ w) B.no_other
  bounds_sum l z w (fin t m e) (fin r n d) A B =
      let a = fin t m e in
      let b = fin r n d in
      let y = exact a +ℤ exact b in
      bounds_by l (s.adds (exact_at l a) z (exact_at l b) w (A.bound tt) (B.bound tt))
      (rw (*ℤ_distr (exact a) (exact b) (pos (2 ^ l))) at (rw (zero-add l) at (bounds_finer 0 l (s.rounds 0 y))))

  -- a running sum that starts as a bound and whose steps keep it one is a bound at its end
  pub bounds_run : (l : ℕ) (run : ℕ → Float) (added : ℕ → ℤ) (z : ℤ) (n : ℕ) → Bounds l z (run 0)
      → ((k : ℕ) → k < n → (w : ℤ) → Bounds l w (run k) → Bounds l (w +ℤ added k) (run (suc k))) → Bounds l (z +ℤ Σ< n added) (run n)
  unfolding Σ<
  bounds_run l run added z zero start step = rw +ℤ_idr start
  bounds_run l run added z (suc n) start step =
      rw (+ℤ_assoc z (Σ< n added) (added n)) at (step n (omega arith) (z +ℤ Σ< n added) (bounds_run l run added z n start (λ k h. step k (omega arith))))

-- ---- from one side to the other
-- the negative of a bound from above is a bound of the negative from below
pub bounds_neg : (l : ℕ) (z : ℤ) (d : Float) → Bounds upward l z d → Bounds downward l (neg_ℤ z) (neg d)
unfolding neg is_nan
bounds_neg l z nan D = absurd D.no_nan
bounds_neg l z (inf true) D = absurd (D.no_other refl)
bounds_neg l z (inf false) D = infinite downward true l (neg_ℤ z) (λ i. true≢false (ap sign i))
bounds_neg l z (fin s m e) D =
    let d = fin s m e in
    record {
      fit = neg-fits binary64 d D.fit;
      no_nan = tt;
      no_other = λ i. subst (λ (x : Float). T (finite x)) i tt;
      bound = λ f. subst (λ (w : ℤ). w ≼ neg_ℤ z) (sym (exact_at-neg l d)) ((neg-≼ z (exact_at l d)).0 (D.bound f));
    }

-- what is not below a bound from above is one
pub bounds_above : (l : ℕ) (z : ℤ) (d e : Float) → Bounds upward l z d → T (le d e) → T (fits binary64 e) → Bounds upward l z e
bounds_above l z d e D o h = elim (ways d e (record { first_fits = D.fit; second_fits = h; order = o })) [
  | bottom i ↦ absurd (D.no_other i)
  | top i ↦ subst (Bounds upward l z) (sym i) (infinite upward false l z (λ j. true≢false (sym (ap sign j))))
  | between f g k ↦ record {
    fit = h;
    no_nan = (le_no_nan d e o).1;
    no_other = λ i. subst (λ (x : Float). T (finite x)) i g;
    bound = λ t. ≼_trans (D.bound f) (scale_mono (2 ^ l) (exact d) (exact e) k);
  }
]
