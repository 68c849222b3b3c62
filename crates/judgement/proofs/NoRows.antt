-- What document 01 promises of a certificate without rows: "Zero rows kept never hold". Assumes nothing.
use native.Mathlib.Omega.{arith}
use mathlib.Core.Path.{◌≡◌, refl, ap, ◌∙◌}
use mathlib.Core.Bool.{Bool, true, false}
use mathlib.Core.List.{List}
use Prim.Native.Nat.{ℕ, zero, suc, ◌≤◌, ◌<◌}
use lib.ListN.{length, get_or-replicate}
use lib.Ieee.{Float, nan, add, sub, mul, div, lt, eq, is_nan, of_int}
use Rattle.doubles.specs.Compare.{larger}
use Rattle.cdouble.specs.declared.CDouble.{CDouble}
use Rattle.cdouble.specs.Compensated.{add_up, compensated_error, pair, plus, plus_product, plus_scaled, plus_zero, product_error, split, two_product, two_sum, upper, value}
use Rattle.multipliers.specs.declared.weighing.Multiplier.{Multiplier}
use Rattle.multipliers.specs.declared.weighing.Multiplier.TheVariants.{Zeroed, Dropped, Kept}
use Rattle.certificate.specs.declared.adding.Sums.{Sums}
use Rattle.certificate.specs.System.{System, multiplier_at, right_side_at, row_columns, row_entries}
use Rattle.certificate.specs.Certificate.{Certificate, after_rows, combined, empty, with_row}
use Rattle.certificate.specs.Added.{kept_into, pair_at, summed}
use Rattle.edges.specs.Model.{Model}
use Rattle.walk.specs.declared.states.End.TheVariants.{Through}
use Rattle.walk.specs.declared.states.Walked.{Walked}
use Rattle.walk.specs.Step.{coefficient_at, step}
use Rattle.walk.specs.Walk.{onward, started, walk_over}
use Rattle.walk.specs.States.{walked}
use Rattle.std.proofs.lemmas.Bool.{cond_both}
use Rattle.walk.proofs.Laws.{skipped}
use Rattle.judgement.specs.declared.weighed.GapSum.{GapSum}
use Rattle.judgement.specs.declared.weighed.GapSum.TheVariants.{Finite}
use Rattle.judgement.specs.declared.weighed.Weight.{Weight}
use Rattle.judgement.specs.Cut.{cut_at}
use Rattle.judgement.specs.Gap.{finite_sum, gap_of, gap_sum, weigh, weighed_apart, weighed_plain}
use Rattle.judgement.specs.Judgement.{judged, judgement}
use Rattle.sheet.specs.Outputs.{Lists}

-- ---- where no row was kept
-- the sums that the gap rests on are still 0
record NoneSummed (c : Sums) : Type 0 where
  beta_zero : c.beta ≡ pair plus_zero plus_zero
  magnitude-zero : c.magnitude ≡ plus_zero
  terms_zero : c.terms ≡ 0

-- only a kept multiplier changes the lists and these sums, and it raises the rows
row_left : (y : Multiplier) (columns : List ℕ) (entries : List Float) (right_side : Float) (n : ℕ) (l : Lists) (c : Sums) → (summed y right_side n c).rows ≡ 0
    → (c.rows ≡ 0) × (kept_into y columns entries l ≡ l) × (NoneSummed c → NoneSummed (summed y right_side n c))
unfolding summed kept_into
row_left (Zeroed y) columns entries right_side n l c none =
    (none, refl, λ s. record { beta_zero = s.beta_zero; magnitude-zero = s.magnitude-zero; terms_zero = s.terms_zero })
row_left Dropped columns entries right_side n l c none = (none, refl, λ s. s)
row_left (Kept y) columns entries right_side n l c none = absurd (omega (arith, none))

rows_left : (y : System) (count n : ℕ) → (after_rows y n (empty count)).sums_of.rows ≡ 0
    → ((after_rows y n (empty count)).lists_of ≡ (empty count).lists_of) × NoneSummed (after_rows y n (empty count)).sums_of
unfolding after_rows with_row
rows_left y count zero none = (refl, record { beta_zero = refl; magnitude-zero = refl; terms_zero = refl })
rows_left y count (suc n) none =
    let before = after_rows y n (empty count) in
    let here = row_left (multiplier_at y n) (row_columns y n) (row_entries y n) (right_side_at y n) (length (row_columns y n)) before.lists_of before.sums_of none in
    let left = rows_left y count n here.0 in
    (here.1 ∙ left.0, here.2 left.1)

-- ---- the walk skips every variable
pub value-zero : eq (value (pair plus_zero plus_zero)) plus_zero ≡ true
unfolding value add eq
value-zero = refl

module _ (m : Model) (leaving count : ℕ) (estimated : Bool) (c : Certificate) (none : c.lists_of ≡ (empty count).lists_of) where
  coefficient-zero : (v : ℕ) → v < count → pair_at c.lists_of.high c.lists_of.low v ≡ pair plus_zero plus_zero
  coefficient-zero v less =
      ap (λ (l : Lists). pair_at l.high l.low v) none ∙ ap (λ (x : Float). pair x x) (get_or-replicate count v plus_zero nan less)

  all_skipped : (n : ℕ) → n ≤ count → walk_over m leaving estimated c n ≡ walked (started c.sums_of) Through
  unfolding walk_over onward
  all_skipped zero within = refl
  all_skipped (suc n) within =
      let here = coefficient_at estimated c.lists_of c.errors n in
      ap (onward (step m leaving n here)) (all_skipped n (omega arith))
      ∙ skipped m leaving n here (started c.sums_of) (ap (λ (p : CDouble). eq (value p) plus_zero) (coefficient-zero n (omega arith)) ∙ value-zero)

-- ---- the gap is 0, and so is what the others have room for
gap_zero : gap_sum (pair plus_zero plus_zero) (pair plus_zero plus_zero) Through ≡ Finite (pair plus_zero plus_zero)
unfolding gap_sum finite_sum plus_scaled plus_product plus two_product product_error split two_sum value sub mul
gap_zero = refl

not_above : lt (add_up plus_zero (compensated_error 0 0 plus_zero)) (value (pair plus_zero plus_zero)) ≡ false
unfolding add_up upper two_sum value compensated_error larger of_int sub mul div lt is_nan
not_above = refl

weigh_fails : (pairs : CDouble) (others leavingRoom cut : Float) → lt others (value pairs) ≡ false → (weigh (Finite pairs) others leavingRoom cut).holds ≡ false
unfolding weigh weighed_apart weighed_plain
weigh_fails pairs others leavingRoom cut fails =
    cond_both (lt cut leavingRoom) _ _ (λ (w : Weight). w.holds ≡ false) (λ apart. rw fails refl) (λ plain. fails)

judged_fails : (m : Model) (leaving : ℕ) (c : Sums) → c.rows ≡ 0 → NoneSummed c → (judged m leaving c (walked (started c) Through)).holds ≡ false
unfolding judged
judged_fails m leaving c none s =
    let zeros = pair plus_zero plus_zero in
    let gap = gap_sum c.beta zeros Through in
    let errorOfSums = compensated_error c.terms c.rows c.magnitude in
    let cut = cut_at m leaving plus_zero errorOfSums (gap_of gap) in
    ap (λ (g : GapSum). (weigh g (add_up plus_zero errorOfSums) plus_zero cut).holds) (ap (λ (b : CDouble). gap_sum b zeros Through) s.beta_zero ∙ gap_zero)
    ∙ weigh_fails zeros (add_up plus_zero errorOfSums) plus_zero cut (rw (s.terms_zero, none, s.magnitude-zero) not_above)

-- "Zero rows kept never hold"
pub no_rows_not_held : (m : Model) (y : System) (leaving rows count : ℕ) (estimated : Bool) → (combined y rows count).sums_of.rows ≡ 0
    → (judgement m leaving estimated count (combined y rows count)).holds ≡ false
unfolding judgement combined
no_rows_not_held m y leaving rows count estimated none =
    let c = after_rows y rows (empty count) in
    let left = rows_left y count rows none in
    ap (λ (w : Walked). (judged m leaving c.sums_of w).holds) (all_skipped m leaving count estimated c left.0 count (omega arith))
    ∙ judged_fails m leaving c.sums_of none left.1
