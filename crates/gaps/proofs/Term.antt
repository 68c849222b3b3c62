-- A variable that is limited, and its term: the largest of its products with the finite edges. Assumes nothing.
use mathlib.Core.Path.{◌≡◌, refl, sym, ap, ◌∙◌, subst}
use mathlib.Core.Logic.{◌⊎◌, inl, inr}
use mathlib.Core.Bool.{Bool, true, false, not, cond, ◌&&◌, ◌||◌, true≢false}
use lib.Dec.{T}
use lib.IntN.{ℤ, pos}
use lib.Ieee.{Float, nan, inf, fin, binary64, fits, is_nan, lt, le, eq}
use lib.Ieee.Bits.{is_true}
use lib.Ieee.Scale.{finite}
use Rattle.exact.specs.Value.{exact}
use Rattle.exact.specs.Integers.{◌≼◌, ◌≺◌}
use Rattle.exact.proofs.Order.{≼_trans, ≼_antisym, ≼_or_≺}
use Rattle.exact.proofs.Compare.{lt_of, lt_to, eq_exact, le_same, le_trans}
use Rattle.doubles.specs.Compare.{larger}
use Rattle.doubles.specs.Directed.{product_up}
use Rattle.doubles.proofs.Ends.{product_up_law}
use Rattle.doubles.proofs.Choice.{larger_most}
use Rattle.doubles.proofs.Rounding.{finite_or}
use Rattle.cdouble.specs.Compensated.{plus_zero}
use Rattle.cdouble.proofs.RoundedUp.{exact-zero, zero-fits}
use Rattle.loops.proofs.All.{and_left, and_right}
use Rattle.gaps.specs.Steps.{skipped, unlimited, limited, at_edge, term}
use Rattle.gaps.proofs.Sound.{SoundRange}

-- ---- tests
not_unlimited : (s w : Bool) → (s || not w) ≡ true → s ≡ false → w ≡ false
not_unlimited true w e f = absurd (true≢false f)
not_unlimited false true e f = absurd (true≢false (sym e))
not_unlimited false false e f = refl

or_not : (s w : Bool) → (s ≡ false → w ≡ false) → (s || not w) ≡ true
or_not true w f = refl
or_not false w f = ap not (f refl)

neither : (a b : Bool) → (a || b) ≡ false → (a ≡ false) × (b ≡ false)
neither true b e = absurd (true≢false e)
neither false b e = (refl, e)

neither_of : (a b : Bool) → a ≡ false → b ≡ false → (a || b) ≡ false
neither_of a b e f = ap (λ (x : Bool). x || b) e ∙ f

not_both : (a b : Bool) → (a && b) ≡ false → a ≡ true → b ≡ true → ⊥
not_both true true n e f = true≢false n
not_both true false n e f = true≢false (sym f)
not_both false b n e f = true≢false (sym e)

not_both_of : (a b : Bool) → (a ≡ true → b ≡ true → ⊥) → (a && b) ≡ false
not_both_of true true h = absurd (h refl refl)
not_both_of true false h = refl
not_both_of false b h = refl

T_not : (b : Bool) → T b → T (not b) → ⊥
T_not true t n = n
T_not false t n = t

eq_infinite : (s : Bool) (x : Float) → x ≡ inf s → eq x (inf s) ≡ true
unfolding eq
eq_infinite true x e = ap (λ (y : Float). eq y (inf true)) e
eq_infinite false x e = ap (λ (y : Float). eq y (inf false)) e

eq_finite : (s : Bool) (x : Float) → T (finite x) → eq x (inf s) ≡ true → ⊥
unfolding eq
eq_finite s nan t e = absurd t
eq_finite s (inf r) t e = absurd t
eq_finite s (fin r m d) t e = true≢false (sym e)

-- ---- what is a number, and the larger of two
pub record Number (x : Float) : Type 0 where
  pub fit : T (fits binary64 x)
  pub no_nan : T (not (is_nan x))

pub product_number : (a b : Float) → T (finite a) → T (finite b) → Number (product_up a b)
product_number a b f g = let law = product_up_law a b f g in record { fit = law.fit; no_nan = law.no_nan }

larger_ind : (P : Float → Type 0) (a b : Float) → P a → P b → P (larger a b)
unfolding larger
larger_ind P a b p q = go (is_nan a) (lt a b)
  where
    go : (n less : Bool) → P (cond n b (cond less b a))
    go true less = q
    go false true = q
    go false false = p

larger-number : (a b : Float) → Number a → Number b → Number (larger a b)
larger-number a b p q = larger_ind Number a b p q

most : (a b : Float) → Number a → Number b → T (le a (larger a b)) × T (le b (larger a b))
most a b p q = larger_most a b p.no_nan q.no_nan p.fit q.fit

-- ---- the ends of a limited variable are finite
pub limited-ends : (l u low high : Float) → limited l u low high ≡ true → T (finite l) × T (finite u)
unfolding limited
limited-ends l u low high e =
    let ends = and_left (finite l && finite u) (skipped l u || not (unlimited l u low high)) e in
    (subst T (sym (and_left (finite l) (finite u) ends)) tt, subst T (sym (and_right (finite l) (finite u) ends)) tt)

module _ (l u low high : Float) (f : T (finite l)) (k : T (finite u)) (a : T (fits binary64 l)) (b : T (fits binary64 u)) (range : SoundRange low high) where
  -- ---- what limited comes to
  within_limits : limited l u low high ≡ true → skipped l u ≡ false → unlimited l u low high ≡ false
  unfolding limited
  within_limits e = not_unlimited (skipped l u) (unlimited l u low high) (and_right (finite l && finite u) (skipped l u || not (unlimited l u low high)) e)

  pub high_finite : limited l u low high ≡ true → skipped l u ≡ false → pos 0 ≺ exact u → T (finite high)
  high_finite e n above =
      let over = is_true (lt plus_zero u) (lt_of plus_zero u tt k zero-fits b (subst (λ (z : ℤ). z ≺ exact u) (sym exact-zero) above)) in
      elim (finite_or false high range.high_no_nan range.high_not_bottom) [
        | inl t ↦ t
        | inr i ↦ absurd (not_both (lt plus_zero u) (eq high (inf false))
            (neither (lt plus_zero u && eq high (inf false)) (lt l plus_zero && eq low (inf true)) (within_limits e n)).0 over (eq_infinite false high i))
      ]

  pub low_finite : limited l u low high ≡ true → skipped l u ≡ false → exact l ≺ pos 0 → T (finite low)
  low_finite e n below =
      let under = is_true (lt l plus_zero) (lt_of l plus_zero f tt a zero-fits (subst (λ (z : ℤ). exact l ≺ z) (sym exact-zero) below)) in
      elim (finite_or true low range.low_no_nan range.low_not_top) [
        | inl t ↦ t
        | inr i ↦ absurd (not_both (lt l plus_zero) (eq low (inf true))
            (neither (lt plus_zero u && eq high (inf false)) (lt l plus_zero && eq low (inf true)) (within_limits e n)).1 under (eq_infinite true low i))
      ]

  pub limited_of : (skipped l u ≡ false → (pos 0 ≺ exact u → T (finite high)) × (exact l ≺ pos 0 → T (finite low))) → limited l u low high ≡ true
  unfolding limited
  limited_of h =
      ap (λ (t : Bool). t && finite u && (skipped l u || not (unlimited l u low high))) (is_true (finite l) f)
      ∙ ap (λ (t : Bool). t && (skipped l u || not (unlimited l u low high))) (is_true (finite u) k)
      ∙ or_not (skipped l u) (unlimited l u low high) (λ n. neither_of (lt plus_zero u && eq high (inf false)) (lt l plus_zero && eq low (inf true)) (over n) (under n))
    where
      over : skipped l u ≡ false → (lt plus_zero u && eq high (inf false)) ≡ false
      over n =
          not_both_of (lt plus_zero u) (eq high (inf false)) λ e i.
          eq_finite false high ((h n).0 (subst (λ (z : ℤ). z ≺ exact u) exact-zero (lt_to plus_zero u tt k zero-fits b (subst T (sym e) tt)))) i

      under : skipped l u ≡ false → (lt l plus_zero && eq low (inf true)) ≡ false
      under n =
          not_both_of (lt l plus_zero) (eq low (inf true)) λ e i.
          eq_finite true low ((h n).1 (subst (λ (z : ℤ). exact l ≺ z) exact-zero (lt_to l plus_zero f tt a zero-fits (subst T (sym e) tt)))) i

  -- ---- what skipped comes to
  pub skipped-zero : skipped l u ≡ true → (exact l ≡ pos 0) × (exact u ≡ pos 0)
  skipped-zero e = (zero l f a (and_left (eq l plus_zero) (eq u plus_zero) e), zero u k b (and_right (eq l plus_zero) (eq u plus_zero) e))
    where
      zero : (x : Float) → T (finite x) → T (fits binary64 x) → eq x plus_zero ≡ true → exact x ≡ pos 0
      zero x t h e = (eq_exact x plus_zero t tt h zero-fits).0 (subst T (sym e) tt) ∙ exact-zero

  not_skipped : skipped l u ≡ false → exact l ≡ pos 0 → exact u ≡ pos 0 → ⊥
  not_skipped n e g = not_both (eq l plus_zero) (eq u plus_zero) n (zero l f a e) (zero u k b g)
    where
      zero : (x : Float) → T (finite x) → T (fits binary64 x) → exact x ≡ pos 0 → eq x plus_zero ≡ true
      zero x t h e = is_true (eq x plus_zero) ((eq_exact x plus_zero t tt h zero-fits).1 (e ∙ sym exact-zero))

  -- one of the two ends is on its side of 0, and needs its edge
  pub some_edge : limited l u low high ≡ true → skipped l u ≡ false → exact l ≼ exact u → T (finite low) ⊎ T (finite high)
  some_edge e n o =
      elim (≼_or_≺ (exact u) (pos 0)) [
        | inr above ↦ inr (high_finite e n above)
        | inl not_above ↦
            elim (≼_or_≺ (pos 0) (exact l)) [
              | inr below ↦ inl (low_finite e n below)
              | inl not_below ↦ absurd (not_skipped n (≼_antisym (≼_trans o not_above) not_below) (≼_antisym not_above (≼_trans not_below o)))
            ]
      ]

  -- ---- the term is one of the products with finite edges, and the largest
  at-number : (edge : Float) → T (finite edge) → Number (at_edge l u edge)
  at-number edge t = larger-number (product_up l edge) (product_up u edge) (product_number l edge f t) (product_number u edge k t)

  term_ind : (P : Float → Type 0) → T (finite low) ⊎ T (finite high) → (T (finite low) → T (not (finite high)) → P (at_edge l u low)) → (T (not (finite low)) → T (finite high) → P (at_edge l u high))
      → (T (finite low) → T (finite high) → P (larger (at_edge l u low) (at_edge l u high))) → P (term l u low high)
  unfolding term
  term_ind P some at_low at_high at_both = go (finite low) (finite high) some at_low at_high at_both
    where
      go : (p q : Bool) → T p ⊎ T q → (T p → T (not q) → P (at_edge l u low)) → (T (not p) → T q → P (at_edge l u high)) → (T p → T q → P (larger (at_edge l u low) (at_edge l u high)))
          → P (cond p (cond q (larger (at_edge l u low) (at_edge l u high)) (at_edge l u low)) (at_edge l u high))
      go true true some x y z = z tt tt
      go true false some x y z = x tt tt
      go false true some x y z = y tt tt
      go false false (inl t) x y z = absurd t
      go false false (inr t) x y z = absurd t

  term_number : T (finite low) ⊎ T (finite high) → Number (term l u low high)
  term_number some =
      term_ind Number some (λ p _. at-number low p) (λ _ q. at-number high q) (λ p q. larger-number _ _ (at-number low p) (at-number high q))

  pub term_fits : T (finite low) ⊎ T (finite high) → T (fits binary64 (term l u low high))
  term_fits some = (term_number some).fit

  -- where x is at least what an edge gives, it is at least both products there
  both : (edge x : Float) → T (finite edge) → T (fits binary64 x) → T (le (at_edge l u edge) x) → T (le (product_up l edge) x) × T (le (product_up u edge) x)
  both edge x t h o =
      let p = product_number l edge f t in
      let q = product_number u edge k t in
      let m = most (product_up l edge) (product_up u edge) p q in
      let n = at-number edge t in
      (le_trans (product_up l edge) (at_edge l u edge) x p.fit n.fit h m.0 o, le_trans (product_up u edge) (at_edge l u edge) x q.fit n.fit h m.1 o)

  pub low_in_term : T (finite low) → T (le (product_up l low) (term l u low high)) × T (le (product_up u low) (term l u low high))
  low_in_term t =
      let n = at-number low t in
      both low (term l u low high) t (term_fits (inl t))
      (term_ind (λ x. T (le (at_edge l u low) x)) (inl t) (λ p q. le_same (at_edge l u low) n.no_nan n.fit) (λ p q. absurd (T_not (finite low) t p)) (λ p q. (most _ _ n (at-number high q)).0))

  pub high_in_term : T (finite high) → T (le (product_up l high) (term l u low high)) × T (le (product_up u high) (term l u low high))
  high_in_term t =
      let n = at-number high t in
      both high (term l u low high) t (term_fits (inr t))
      (term_ind (λ x. T (le (at_edge l u high) x)) (inr t) (λ p q. absurd (T_not (finite high) t q)) (λ p q. le_same (at_edge l u high) n.no_nan n.fit) (λ p q. (most _ _ (at-number low p) n).1))

  -- and what is at least each of them is at least the term
  pub term_least : (x : Float) → T (finite low) ⊎ T (finite high) → (T (finite low) → T (le (product_up l low) x) × T (le (product_up u low) x))
      → (T (finite high) → T (le (product_up l high) x) × T (le (product_up u high) x))
      → T (le (term l u low high) x)
  term_least x some at_low at_high =
      let by : (edge : Float) → T (le (product_up l edge) x) × T (le (product_up u edge) x) → T (le (at_edge l u edge) x) =
      λ edge h. larger_ind (λ z. T (le z x)) (product_up l edge) (product_up u edge) h.0 h.1 in
      term_ind (λ z. T (le z x)) some (λ p _. by low (at_low p)) (λ _ q. by high (at_high q))
      (λ p q. larger_ind (λ z. T (le z x)) (at_edge l u low) (at_edge l u high) (by low (at_low p)) (by high (at_high q)))
