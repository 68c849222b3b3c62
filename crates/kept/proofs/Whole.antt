-- The parts put together: what is lent afterwards, and the kept numbers, from what the calls gave. Assumes nothing.
use native.Mathlib.Omega.{arith}
use mathlib.Core.Path.{◌≡◌, refl, ap, sym, subst, ◌∙◌}
use mathlib.Core.Bool.{Bool, true, false, cond}
use mathlib.Core.List.{List}
use Prim.Native.Nat.{ℕ, zero, suc, ◌<◌, ◌≤◌}
use borrow.Author.Tests.{eq-eqb}
use lib.ListN.{length, get_or, drop, length-append}
use lib.Ieee.{Float, nan}
use Rattle.cdouble.specs.Compensated.{plus_zero}
use Rattle.loops.proofs.Branches.{when_true, when_false}
use Rattle.questions.specs.Flags.{is_set}
use Rattle.sheet.specs.Sheet.{Sheet, variables}
use Rattle.sheet.specs.Answers.{Accepted, first_no}
use Rattle.edges.specs.Model.{Model, model_with}
use Rattle.edges.specs.Edges.{leaving_variable}
use Rattle.edges.specs.Ranges.{magnitude_in}
use Rattle.certificate.specs.declared.adding.Sums.{Sums}
use Rattle.multipliers.specs.declared.weighing.Multiplier.{Multiplier}
use Rattle.multipliers.specs.declared.weighing.Multiplier.TheVariants.{Dropped}
use Rattle.loops.specs.Listed.{listed}
use Rattle.loops.proofs.Listed.{length-listed, listed_at}
use Rattle.certificate.specs.System.{System, system_of, multiplier_at}
use Rattle.certificate.specs.Certificate.{Certificate, certificate, combined, over, written}
use Rattle.certificate.specs.Reads.{Lent, Weighed}
use Rattle.certificate.proofs.Readable.{rows_with}
use Rattle.walk.specs.declared.states.Coefficient.{Coefficient}
use Rattle.walk.specs.Step.{coefficient_at, step}
use Rattle.walk.specs.Walk.{onward, walk_over}
use Rattle.judgement.specs.declared.gap.Proof.{Proof}
use Rattle.judgement.specs.Reads.{JudgeFits}
use Rattle.judgement.specs.Judgement.{judged, judgement}
use Rattle.sheet.specs.declared.numbers.Refusal.{Refusal}
use Rattle.sheet.specs.Numbers.{number_of}
use Rattle.sheet.specs.Outputs.{Lists, outputs, lent, Lent as KeptLent}
use Rattle.sheet.proofs.RefusalNumbers.{not_zero}
use Rattle.kept.specs.Kept.{WorkedOut, certificate_of, filled_in, after}
use Rattle.kept.proofs.Places.{place_written}
use Rattle.kept.proofs.Fits.{certificate_fits, combined-lent, judge_fits}
use Rattle.kept.proofs.Measured.{magnitudes_known}

-- ---- what is written over the lent lists, below count
over-long : {A : Type 0} (count : ℕ) (xs ys : List A) → count ≤ length xs → count ≤ length (over count xs ys)
over-long count xs ys long = omega (arith, length-append xs (drop count ys))

module _ (estimated : Bool) {count : ℕ} (c : Certificate) (l : Lists) (e : List Float) (long : Lent count c.lists_of c.errors) where
  error_written : (b : Bool) (v : ℕ) → v < count → cond b (get_or (cond b (over count c.errors e) e) v nan) plus_zero ≡ cond b (get_or c.errors v nan) plus_zero
  error_written true v less = place_written c.errors e nan long.in_errors v less
  error_written false v less = refl

  coefficient-written : (v : ℕ) → v < count
      → coefficient_at estimated (written estimated count c l e).lists_of (written estimated count c l e).errors v ≡ coefficient_at estimated c.lists_of c.errors v
  unfolding written
  coefficient-written v less =
      rw (
        place_written c.lists_of.high l.high nan long.long.in_high v less,
        place_written c.lists_of.low l.low nan long.long.in_low v less,
        place_written c.lists_of.magnitudes l.magnitudes nan long.long.in_magnitudes v less,
        place_written c.lists_of.terms l.terms 0 long.long.in_terms v less,
        error_written estimated v less,
      )
      refl

  walk-written : (m : Model) (leaving n : ℕ) → n ≤ count → walk_over m leaving estimated (written estimated count c l e) n ≡ walk_over m leaving estimated c n
  unfolding walk_over written
  walk-written m leaving zero at = refl
  walk-written m leaving (suc n) at =
      ap (λ (x : Coefficient). onward (step m leaving n x) (walk_over m leaving estimated (written estimated count c l e) n)) (coefficient-written n (omega arith))
      ∙ ap (onward (step m leaving n (coefficient_at estimated c.lists_of c.errors n))) (walk-written m leaving n (omega arith))

  judgement-written : (m : Model) (leaving : ℕ) → judgement m leaving estimated count (written estimated count c l e) ≡ judgement m leaving estimated count c
  unfolding judgement written
  judgement-written m leaving = ap (judged m leaving c.sums_of) (walk-written m leaving count (omega arith))

  errors_long : (b : Bool) → count ≤ length e → count ≤ length (cond b (over count c.errors e) e)
  errors_long true at = over-long count c.errors e long.in_errors
  errors_long false at = at

  written-long : count ≤ length e → Lent count (written estimated count c l e).lists_of (written estimated count c l e).errors
  unfolding written
  written-long at =
      record {
        long =
            record {
              in_high = over-long count c.lists_of.high l.high long.long.in_high;
              in_low = over-long count c.lists_of.low l.low long.long.in_low;
              in_magnitudes = over-long count c.lists_of.magnitudes l.magnitudes long.long.in_magnitudes;
              in_terms = over-long count c.lists_of.terms l.terms long.long.in_terms;
            };
        in_errors = errors_long estimated at;
      }

-- ---- an accepted sheet, of which this was worked out before
abbrev pub with_bounds : Sheet → Bool → System
with_bounds s b = rows_with s b (is_set s.leaving_up)

module _ (s : Sheet) {estimated : Bool} {leaving : ℕ} {multipliers : List Multiplier} (found : WorkedOut s estimated leaving multipliers) where
  -- a row's multiplier stands in the list
  pub multiplier-found : (r : ℕ) → r < s.rows → get_or multipliers r Dropped ≡ multiplier_at (system_of s) r
  multiplier-found r less =
      ap (λ (xs : List Multiplier). get_or xs r Dropped) found.multipliers_are ∙ listed_at s.rows (multiplier_at (system_of s)) Dropped r less

  pub multipliers_long : length multipliers ≡ s.rows
  multipliers_long = ap length found.multipliers_are ∙ length-listed s.rows (multiplier_at (system_of s))

  pub weighed : Weighed (with_bounds s estimated) s.rows multipliers
  weighed =
      record {
        long = omega (arith, multipliers_long);
        at = λ r less. multiplier-found r less ∙ ap (λ (b : Bool). multiplier_at (with_bounds s b) r) (sym found.estimated_is);
      }

  module _ (accepted : Accepted s) (l : Lists) (e : List Float) (lends : s.outputs ≡ outputs l e) {k : Lists} {f : List Float} {c : Sums}
      (is : certificate k f c ≡ written estimated (variables s) (combined (with_bounds s estimated) s.rows (variables s)) l e) where
    writes : certificate k f c ≡ written (system_of s).estimated (variables s) (certificate_of s) l e
    unfolding certificate_of
    writes = is ∙ ap (λ (b : Bool). written b (variables s) (combined (with_bounds s b) s.rows (variables s)) l e) found.estimated_is

    pub filled_in_lem : lent k f ≡ filled_in s (lent l e)
    unfolding filled_in
    filled_in_lem = ap (λ (x : Certificate). lent x.lists_of x.errors) writes

    -- with the magnitudes that are written of the terms counted
    pub judge_asks : (widened : ℕ → Bool → Bool) {list : List Float} → list ≡ listed s.rows (magnitude_in (model_with s widened) k.terms)
        → JudgeFits (model_with s widened) list (variables s) leaving k f c
    unfolding written
    judge_asks widened {list} magnitudes =
        let up = is_set s.leaving_up in
        subst (λ (v : ℕ). JudgeFits (model_with s widened) list (variables s) v k f c) (sym found.leaving_is)
        (judge_fits s accepted estimated up widened list k f
        (subst (λ (x : Certificate). Lent (variables s) x.lists_of x.errors) (sym is)
        (written-long estimated (combined (with_bounds s estimated) s.rows (variables s)) l e (combined-lent s accepted estimated up)
        (certificate_fits s accepted l e lends estimated up).lent.in_errors))
        (ap (λ (x : Certificate). x.sums_of) is)
        (magnitudes_known s (lent l e) filled_in_lem widened magnitudes))

    -- the judgement of the sheet, with what is said of the widened variables
    pub kept_is : {widened said : ℕ → Bool → Bool} {p : Proof} → widened ≡ said
        → p ≡ judgement (model_with s widened) leaving estimated (variables s) (certificate k f c)
        → p ≡ judgement (model_with s said) (leaving_variable s) (system_of s).estimated (variables s) (certificate_of s)
    unfolding certificate_of
    kept_is {said = said} same judges =
        judges
        ∙ ap (λ (w : ℕ → Bool → Bool). judgement (model_with s w) leaving estimated (variables s) (certificate k f c)) same
        ∙ ap (λ (v : ℕ). judgement (model_with s said) v estimated (variables s) (certificate k f c)) found.leaving_is
        ∙ ap (λ (b : Bool). judgement (model_with s said) (leaving_variable s) b (variables s) (certificate k f c)) found.estimated_is
        ∙ ap (judgement (model_with s said) (leaving_variable s) (system_of s).estimated (variables s)) writes
        ∙ judgement-written (system_of s).estimated (certificate_of s) l e
        (combined-lent s accepted (system_of s).estimated (is_set s.leaving_up)) (model_with s said) (leaving_variable s)

-- ---- what is lent afterwards, where no question refuses and where one does
module _ (s : Sheet) (before : KeptLent) where
  pub after_full : {now : KeptLent} → 0 ≡ first_no s → now ≡ filled_in s before → now ≡ after s before
  unfolding after
  after_full none filled = when_true before filled (eq-eqb (first_no s) 0 (sym none))

  pub after_refused : (refusal : Refusal) → number_of refusal ≡ first_no s → before ≡ after s before
  unfolding after
  after_refused refusal is = when_false (filled_in s before) refl (not_zero refusal is)
