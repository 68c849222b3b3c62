-- `first_no` meets its contract. Assumes nothing.
use native.Mathlib.Omega.{arith}
use mathlib.Core.Bool.{Bool}
use mathlib.Core.Path.{◌≡◌, sym, subst, ◌∙◌}
use mathlib.Core.List.{[]}
use Prim.Native.Nat.{ℕ}
use Rattle.std.specs.Prelude.{Ok}
use Rattle.sheet.specs.Lengths.{lengths_fine}
use Rattle.questions.specs.Rows.{RowsLie}
use Rattle.questions.specs.RowQuestions.{starts_fine}
use Rattle.questions.specs.Questions.{sizes_fine}
use Rattle.sheet.specs.declared.numbers.Refusal.TheVariants.{Sizes, Lengths, RowStarts, Columns, Entries, Bounds, Tolerances, Basis, Values, Widened, LeavingRow}
use Rattle.sheet.specs.Sheet.{Sheet}
use Rattle.sheet.specs.Lent.{lent_sheet}
use Rattle.sheet.specs.Answers.{answer_to, first_no}
use Rattle.sheet.proofs.InOrder.{no, yes, passed, last}
use Rattle.sheet.proofs.Accepted.{SizesHold, LengthsHold, sizes_hold, lengths_hold, rows_lie}
use Rattle.sheet.proofs.in_order.first_no.Goals as goal

-- what the first three questions have shown where the answers were yes
module _ (s : Sheet) {r : Bool} {x : Unit {0}} where
  sizes : Ok x ≡ answer_to r Sizes → r ≡ sizes_fine s.rows s.structurals s.entry_count → SizesHold s.rows s.structurals s.entry_count
  sizes is asked = sizes_hold s.rows s.structurals s.entry_count (passed Sizes is asked)

  lengths : Ok x ≡ answer_to r Lengths → r ≡ lengths_fine s → LengthsHold s
  lengths is asked = lengths_hold s (passed Lengths is asked)

  lie : LengthsHold s → Ok x ≡ answer_to r RowStarts → r ≡ starts_fine s.rows s.entry_count s.starts → RowsLie s.rows s.entry_count s.starts
  lie long is asked = rows_lie s.rows s.entry_count s.starts (passed RowStarts is asked) long.by_row.starts_long

pub returns-in_err-refuse_unless : goal.returns-in_err-refuse_unless
unfolding first_no
returns-in_err-refuse_unless c =
    λ widened says.
    no Sizes c.from_residual.result _ c.from_residual.ensures.1 c.in_err-refuse_unless.ensures c.sizes_fine.ensures

pub lengths_fine-requires : goal.lengths_fine-requires
lengths_fine-requires c =
    let h = sizes (lent_sheet c.args.s.now [] c.args.outputs) c.in_ok-refuse_unless.ensures c.sizes_fine.ensures in (h.rows_most, h.structurals_most)

pub returns-in_err-refuse_unless-2 : goal.returns-in_err-refuse_unless-2
unfolding first_no
returns-in_err-refuse_unless-2 c =
    λ widened says.
    yes Sizes c.in_ok-refuse_unless.ensures c.sizes_fine.ensures
    (no Lengths c.from_residual-in_err-refuse_unless-2.result _ c.from_residual-in_err-refuse_unless-2.ensures.1 c.in_err-refuse_unless-2.ensures (c.lengths_fine.ensures widened))

pub starts_fine-requires : goal.starts_fine-requires
starts_fine-requires c =
    (lengths (lent_sheet c.args.s.now [] c.args.outputs) c.in_ok-refuse_unless-2.ensures (c.lengths_fine.ensures [])).by_row.starts_long

pub returns-in_err-refuse_unless-3 : goal.returns-in_err-refuse_unless-3
unfolding first_no
returns-in_err-refuse_unless-3 c =
    λ widened says.
    yes Sizes c.in_ok-refuse_unless.ensures c.sizes_fine.ensures
    (yes Lengths c.in_ok-refuse_unless-2.ensures (c.lengths_fine.ensures widened)
    (no RowStarts c.from_residual-in_err-refuse_unless-3.result _ c.from_residual-in_err-refuse_unless-3.ensures.1 c.in_err-refuse_unless-3.ensures c.starts_fine.ensures))

pub columns_fine-requires-clause-rows_lie : goal.columns_fine-requires-clause-rows_lie
columns_fine-requires-clause-rows_lie c =
    let long = lengths (lent_sheet c.args.s.now [] c.args.outputs) c.in_ok-refuse_unless-2.ensures (c.lengths_fine.ensures []) in
    subst (λ (n : ℕ). RowsLie c.args.s.now.rows n c.args.s.now.starts.now) (sym long.by_row.columns_long)
    (lie (lent_sheet c.args.s.now [] c.args.outputs) long c.in_ok-refuse_unless-3.ensures c.starts_fine.ensures)

pub columns_fine-requires-clause-rows_bound : goal.columns_fine-requires-clause-rows_bound
columns_fine-requires-clause-rows_bound c =
    let h = sizes (lent_sheet c.args.s.now [] c.args.outputs) c.in_ok-refuse_unless.ensures c.sizes_fine.ensures in omega (arith, h.rows_most, h.structurals_most)

pub returns-in_err-refuse_unless-4 : goal.returns-in_err-refuse_unless-4
unfolding first_no
returns-in_err-refuse_unless-4 c =
    λ widened says.
    yes Sizes c.in_ok-refuse_unless.ensures c.sizes_fine.ensures
    (yes Lengths c.in_ok-refuse_unless-2.ensures (c.lengths_fine.ensures widened)
    (yes RowStarts c.in_ok-refuse_unless-3.ensures c.starts_fine.ensures
    (no Columns c.from_residual-in_err-refuse_unless-4.result _ c.from_residual-in_err-refuse_unless-4.ensures.1 c.in_err-refuse_unless-4.ensures c.columns_fine.ensures)))

pub entries_fine-requires : goal.entries_fine-requires
entries_fine-requires c =
    let long = lengths (lent_sheet c.args.s.now [] c.args.outputs) c.in_ok-refuse_unless-2.ensures (c.lengths_fine.ensures []) in
    subst (λ (n : ℕ). RowsLie c.args.s.now.rows n c.args.s.now.starts.now) (sym long.by_row.entries_long)
    (lie (lent_sheet c.args.s.now [] c.args.outputs) long c.in_ok-refuse_unless-3.ensures c.starts_fine.ensures)

pub returns-in_err-refuse_unless-5 : goal.returns-in_err-refuse_unless-5
unfolding first_no
returns-in_err-refuse_unless-5 c =
    λ widened says.
    yes Sizes c.in_ok-refuse_unless.ensures c.sizes_fine.ensures
    (yes Lengths c.in_ok-refuse_unless-2.ensures (c.lengths_fine.ensures widened)
    (yes RowStarts c.in_ok-refuse_unless-3.ensures c.starts_fine.ensures
    (yes Columns c.in_ok-refuse_unless-4.ensures c.columns_fine.ensures
    (no Entries c.from_residual-in_err-refuse_unless-5.result _ c.from_residual-in_err-refuse_unless-5.ensures.1 c.in_err-refuse_unless-5.ensures c.entries_fine.ensures))))

pub bounds_fine-requires : goal.bounds_fine-requires
bounds_fine-requires c =
    let long = lengths (lent_sheet c.args.s.now [] c.args.outputs) c.in_ok-refuse_unless-2.ensures (c.lengths_fine.ensures []) in long.by_variable.maxs_long ∙ sym long.by_variable.mins_long

pub returns-in_err-refuse_unless-6 : goal.returns-in_err-refuse_unless-6
unfolding first_no
returns-in_err-refuse_unless-6 c =
    λ widened says.
    yes Sizes c.in_ok-refuse_unless.ensures c.sizes_fine.ensures
    (yes Lengths c.in_ok-refuse_unless-2.ensures (c.lengths_fine.ensures widened)
    (yes RowStarts c.in_ok-refuse_unless-3.ensures c.starts_fine.ensures
    (yes Columns c.in_ok-refuse_unless-4.ensures c.columns_fine.ensures
    (yes Entries c.in_ok-refuse_unless-5.ensures c.entries_fine.ensures
    (no Bounds c.from_residual-in_err-refuse_unless-6.result _ c.from_residual-in_err-refuse_unless-6.ensures.1 c.in_err-refuse_unless-6.ensures c.bounds_fine.ensures)))))

pub returns-in_err-refuse_unless-7 : goal.returns-in_err-refuse_unless-7
unfolding first_no
returns-in_err-refuse_unless-7 c =
    λ widened says.
    yes Sizes c.in_ok-refuse_unless.ensures c.sizes_fine.ensures
    (yes Lengths c.in_ok-refuse_unless-2.ensures (c.lengths_fine.ensures widened)
    (yes RowStarts c.in_ok-refuse_unless-3.ensures c.starts_fine.ensures
    (yes Columns c.in_ok-refuse_unless-4.ensures c.columns_fine.ensures
    (yes Entries c.in_ok-refuse_unless-5.ensures c.entries_fine.ensures
    (yes Bounds c.in_ok-refuse_unless-6.ensures c.bounds_fine.ensures
    (no Tolerances c.from_residual-in_err-refuse_unless-7.result _ c.from_residual-in_err-refuse_unless-7.ensures.1 c.in_err-refuse_unless-7.ensures c.tolerances_fine.ensures))))))

pub basis_fine-requires : goal.basis_fine-requires
basis_fine-requires c =
    let long = lengths (lent_sheet c.args.s.now [] c.args.outputs) c.in_ok-refuse_unless-2.ensures (c.lengths_fine.ensures []) in
    ((sizes (lent_sheet c.args.s.now [] c.args.outputs) c.in_ok-refuse_unless.ensures c.sizes_fine.ensures).rows_most, long.by_variable.places_long ∙ sym long.by_variable.basic_long)

pub returns-in_err-refuse_unless-8 : goal.returns-in_err-refuse_unless-8
unfolding first_no
returns-in_err-refuse_unless-8 c =
    λ widened says.
    yes Sizes c.in_ok-refuse_unless.ensures c.sizes_fine.ensures
    (yes Lengths c.in_ok-refuse_unless-2.ensures (c.lengths_fine.ensures widened)
    (yes RowStarts c.in_ok-refuse_unless-3.ensures c.starts_fine.ensures
    (yes Columns c.in_ok-refuse_unless-4.ensures c.columns_fine.ensures
    (yes Entries c.in_ok-refuse_unless-5.ensures c.entries_fine.ensures
    (yes Bounds c.in_ok-refuse_unless-6.ensures c.bounds_fine.ensures
    (yes Tolerances c.in_ok-refuse_unless-7.ensures c.tolerances_fine.ensures
    (no Basis c.from_residual-in_err-refuse_unless-8.result _ c.from_residual-in_err-refuse_unless-8.ensures.1 c.in_err-refuse_unless-8.ensures c.basis_fine.ensures)))))))

pub returns-in_err-refuse_unless-9 : goal.returns-in_err-refuse_unless-9
unfolding first_no
returns-in_err-refuse_unless-9 c =
    λ widened says.
    yes Sizes c.in_ok-refuse_unless.ensures c.sizes_fine.ensures
    (yes Lengths c.in_ok-refuse_unless-2.ensures (c.lengths_fine.ensures widened)
    (yes RowStarts c.in_ok-refuse_unless-3.ensures c.starts_fine.ensures
    (yes Columns c.in_ok-refuse_unless-4.ensures c.columns_fine.ensures
    (yes Entries c.in_ok-refuse_unless-5.ensures c.entries_fine.ensures
    (yes Bounds c.in_ok-refuse_unless-6.ensures c.bounds_fine.ensures
    (yes Tolerances c.in_ok-refuse_unless-7.ensures c.tolerances_fine.ensures
    (yes Basis c.in_ok-refuse_unless-8.ensures c.basis_fine.ensures
    (no Values c.from_residual-in_err-refuse_unless-9.result _ c.from_residual-in_err-refuse_unless-9.ensures.1 c.in_err-refuse_unless-9.ensures c.all_finite.ensures))))))))

pub returns-in_err-refuse_unless-10 : goal.returns-in_err-refuse_unless-10
unfolding first_no
returns-in_err-refuse_unless-10 c =
    λ widened says.
    let fine = says (passed Sizes c.in_ok-refuse_unless.ensures c.sizes_fine.ensures) in
    yes Sizes c.in_ok-refuse_unless.ensures c.sizes_fine.ensures
    (yes Lengths c.in_ok-refuse_unless-2.ensures (c.lengths_fine.ensures widened)
    (yes RowStarts c.in_ok-refuse_unless-3.ensures c.starts_fine.ensures
    (yes Columns c.in_ok-refuse_unless-4.ensures c.columns_fine.ensures
    (yes Entries c.in_ok-refuse_unless-5.ensures c.entries_fine.ensures
    (yes Bounds c.in_ok-refuse_unless-6.ensures c.bounds_fine.ensures
    (yes Tolerances c.in_ok-refuse_unless-7.ensures c.tolerances_fine.ensures
    (yes Basis c.in_ok-refuse_unless-8.ensures c.basis_fine.ensures
    (yes Values c.in_ok-refuse_unless-9.ensures c.all_finite.ensures
    (no Widened c.from_residual-in_err-refuse_unless-10.result _ c.from_residual-in_err-refuse_unless-10.ensures.1 c.in_err-refuse_unless-10.ensures fine)))))))))

pub returns : goal.returns
unfolding first_no
returns c =
    λ widened says.
    let fine = says (passed Sizes c.in_ok-refuse_unless.ensures c.sizes_fine.ensures) in
    yes Sizes c.in_ok-refuse_unless.ensures c.sizes_fine.ensures
    (yes Lengths c.in_ok-refuse_unless-2.ensures (c.lengths_fine.ensures widened)
    (yes RowStarts c.in_ok-refuse_unless-3.ensures c.starts_fine.ensures
    (yes Columns c.in_ok-refuse_unless-4.ensures c.columns_fine.ensures
    (yes Entries c.in_ok-refuse_unless-5.ensures c.entries_fine.ensures
    (yes Bounds c.in_ok-refuse_unless-6.ensures c.bounds_fine.ensures
    (yes Tolerances c.in_ok-refuse_unless-7.ensures c.tolerances_fine.ensures
    (yes Basis c.in_ok-refuse_unless-8.ensures c.basis_fine.ensures
    (yes Values c.in_ok-refuse_unless-9.ensures c.all_finite.ensures
    (yes Widened c.in_ok-refuse_unless-10.ensures fine
    (last LeavingRow c.refuse_unless-11.ensures c.leaving_row_fine.ensures))))))))))
