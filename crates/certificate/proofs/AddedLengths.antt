-- The lists keep their lengths, and the counts grow by no more than a row's entries. Assumes nothing.
use native.Mathlib.Omega.{arith}
use mathlib.Core.Path.{◌≡◌, refl, ◌∙◌}
use mathlib.Core.Bool.{Bool, true, false, cond}
use mathlib.Core.List.{List, [], ◌∷◌}
use Prim.Native.Nat.{ℕ, zero, suc, ◌+◌, ◌≤◌}
use lib.ListN.{length, get_or, set, length-set}
use lib.Ieee.{Float, nan, eq}
use Rattle.cdouble.specs.declared.CDouble.{CDouble}
use Rattle.cdouble.specs.Compensated.{◌⊕◌, ◌⊗◌, plus_zero, value}
use Rattle.doubles.specs.Compare.{absolute}
use Rattle.questions.specs.Flags.{is_set}
use Rattle.certificate.specs.declared.adding.Sums.{Sums}
use Rattle.multipliers.specs.declared.weighing.Multiplier.{Multiplier}
use Rattle.multipliers.specs.declared.weighing.Multiplier.TheVariants.{Zeroed, Dropped, Kept}
use Rattle.std.proofs.Common.{Option, Some, None}
use Rattle.certificate.specs.Added.{after_terms, kept_into, after_errors, spread_into, summed}
use Rattle.certificate.specs.AddedReads.{Long}
use Rattle.sheet.specs.Outputs.{Lists}

-- ---- lengths
pub record Same (l k : Lists) : Type 0 where
  pub high_same : length k.high ≡ length l.high
  pub low_same : length k.low ≡ length l.low
  pub magnitudes_same : length k.magnitudes ≡ length l.magnitudes
  pub terms_same : length k.terms ≡ length l.terms

pub same : (l : Lists) → Same l l
same l = record { high_same = refl; low_same = refl; magnitudes_same = refl; terms_same = refl }

pub then : {l k j : Lists} → Same l k → Same k j → Same l j
then a b =
    record {
      high_same = b.high_same ∙ a.high_same;
      low_same = b.low_same ∙ a.low_same;
      magnitudes_same = b.magnitudes_same ∙ a.magnitudes_same;
      terms_same = b.terms_same ∙ a.terms_same;
    }

pub after_terms_same : (y : CDouble) (columns : List ℕ) (entries : List Float) (n : ℕ) (l : Lists) → Same l (after_terms y columns entries n l)
unfolding after_terms
after_terms_same y columns entries zero l = same l
after_terms_same y columns entries (suc n) l =
    let b = after_terms_same y columns entries n l in
    record {
      high_same = simp length-set b.high_same;
      low_same = simp length-set b.low_same;
      magnitudes_same = simp length-set b.magnitudes_same;
      terms_same = simp length-set b.terms_same;
    }

pub kept_same : (m : Multiplier) (columns : List ℕ) (entries : List Float) (l : Lists) → Same l (kept_into m columns entries l)
unfolding kept_into
kept_same (Zeroed y) columns entries l = same l
kept_same Dropped columns entries l = same l
kept_same (Kept y) columns entries l = after_terms_same y columns entries (length columns) l

set_if : {A : Type 0} (b : Bool) (xs : List A) (v : ℕ) (x : A) → length (cond b (set xs v x) xs) ≡ length xs
set_if true xs v x = length-set xs v x
set_if false xs v x = refl

pub after_errors_same : (distance : Float) (basic columns : List ℕ) (entries : List Float) (n : ℕ) (errors : List Float) → length (after_errors distance basic columns entries n errors) ≡ length errors
unfolding after_errors
after_errors_same distance basic columns entries zero errors = refl
after_errors_same distance basic columns entries (suc n) errors =
    let v = get_or columns n 0 in
    let e = after_errors distance basic columns entries n errors in
    set_if (is_set (get_or basic v 0)) e v (get_or e v nan ⊕ distance ⊗ absolute (get_or entries n nan)) ∙ after_errors_same distance basic columns entries n errors

pub spread_same : (s : Option Float) (basic columns : List ℕ) (entries errors : List Float) → length (spread_into s basic columns entries errors) ≡ length errors
unfolding spread_into
spread_same None basic columns entries errors = refl
spread_same (Some distance) basic columns entries errors = after_errors_same distance basic columns entries (length columns) errors

pub long_same : {count : ℕ} {l k : Lists} → Same l k → Long count l → Long count k
long_same s long =
    record {
      in_high = omega (arith, s.high_same, long.in_high);
      in_low = omega (arith, s.low_same, long.in_low);
      in_magnitudes = omega (arith, s.magnitudes_same, long.in_magnitudes);
      in_terms = omega (arith, s.terms_same, long.in_terms);
    }

-- ---- counts
-- an element that is raised by one is raised by at most one
raised : (t : List ℕ) (j i : ℕ) → get_or (set t j (get_or t j 0 + 1)) i 0 ≤ get_or t i 0 + 1
raised [] j i = omega arith
raised (x ∷ t) zero zero = omega arith
raised (x ∷ t) zero (suc i) = omega arith
raised (x ∷ t) (suc j) zero = omega arith
raised (x ∷ t) (suc j) (suc i) = raised t j i

pub after_terms_few : (y : CDouble) (columns : List ℕ) (entries : List Float) (n : ℕ) (l : Lists) (v : ℕ) → get_or (after_terms y columns entries n l).terms v 0 ≤ get_or l.terms v 0 + n
unfolding after_terms
after_terms_few y columns entries zero l v = omega arith
after_terms_few y columns entries (suc n) l v =
    omega (arith, after_terms_few y columns entries n l v, raised (after_terms y columns entries n l).terms (get_or columns n 0) v)

pub kept_few : (m : Multiplier) (columns : List ℕ) (entries : List Float) (l : Lists) (v : ℕ) → get_or (kept_into m columns entries l).terms v 0 ≤ get_or l.terms v 0 + length columns
unfolding kept_into
kept_few (Zeroed y) columns entries l v = omega arith
kept_few Dropped columns entries l v = omega arith
kept_few (Kept y) columns entries l v = after_terms_few y columns entries (length columns) l v

-- the sums' counts
pub record Grown (n : ℕ) (c d : Sums) : Type 0 where
  pub terms_grown : d.terms ≤ c.terms + 1 + n
  pub rows_grown : d.rows ≤ c.rows + 1
  pub zeroed_grown : d.zeroed ≤ c.zeroed + 1

one_or_same : (b : Bool) (n : ℕ) → cond b n (n + 1) ≤ n + 1
one_or_same true n = omega arith
one_or_same false n = omega arith

pub summed_grown : (m : Multiplier) (right_side : Float) (n : ℕ) (c : Sums) → Grown n c (summed m right_side n c)
unfolding summed
summed_grown (Zeroed y) right_side n c = record { terms_grown = omega arith; rows_grown = omega arith; zeroed_grown = one_or_same (eq (value y) plus_zero) c.zeroed }
summed_grown Dropped right_side n c = record { terms_grown = omega arith; rows_grown = omega arith; zeroed_grown = omega arith }
summed_grown (Kept y) right_side n c = record { terms_grown = omega arith; rows_grown = omega arith; zeroed_grown = omega arith }
