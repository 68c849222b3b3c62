-- The rows and the ranges of an accepted sheet are sound. Assumes nothing.
use native.Mathlib.Omega.{arith}
use mathlib.Core.Path.{◌≡◌, refl, sym, subst, ◌∙◌}
use mathlib.Core.Bool.{true, false}
use mathlib.Core.List.{List, [], ◌∷◌}
use Prim.Native.Nat.{ℕ, ◌+◌, ◌-◌, ◌<◌}
use lib.Dec.{T}
use lib.ListN.{length, get_or, drop}
use lib.Seq.{get_or-take, get_or-drop}
use lib.Ieee.{Float, nan, inf, fin, le, lt, eq}
use lib.Ieee.Scale.{finite}
use Rattle.loops.specs.Places.{all_below}
use Rattle.questions.specs.Rows.{part}
use Rattle.questions.specs.Questions.{all_finite}
use Rattle.questions.specs.RowQuestions.{slack_entry_fine_at, entries_fine}
use Rattle.loops.proofs.All.{each}
use Rattle.sheet.specs.Sheet.{Sheet, variables, Doubles}
use Rattle.sheet.specs.Answers.{Accepted}
use Rattle.sheet.proofs.Accepted.{AllYes, all_yes}
use Rattle.sheet.proofs.Consequences.{by_row, finite_at_lem, right_side-finite, range_at_lem}
use Rattle.edges.specs.Edges.{leaving_variable}
use Rattle.edges.proofs.Laws.{edge-fits, edge_outer, edge_no_nan, low_le_high}
use Rattle.certificate.specs.System.{system_of, row_columns, row_entries}
use Rattle.certificate.proofs.Lengths.{part-long}
use Rattle.certificate.proofs.Readable.{lie, row_within}
use Rattle.gaps.specs.Rows.{rows_of, ranges_of}
use Rattle.gaps.proofs.Sound.{SoundRows, SoundRanges}

-- nothing is above +infinity, and nothing below −infinity
top_only : (x : Float) → T (le (inf false) x) → x ≡ inf false
unfolding le lt eq
top_only nan t = absurd t
top_only (inf true) t = absurd t
top_only (inf false) t = refl
top_only (fin s m e) t = absurd t

bottom_only : (x : Float) → T (le x (inf true)) → x ≡ inf true
unfolding le lt eq
bottom_only nan t = absurd t
bottom_only (inf true) t = refl
bottom_only (inf false) t = absurd t
bottom_only (fin s m e) t = absurd t

part_at : {A : Type 0} (starts : List ℕ) (r : ℕ) (xs : List A) (k : ℕ) (d : A) → k < get_or starts (r + 1) 0 - get_or starts r 0 → get_or (part starts r xs) k d ≡ get_or xs (get_or starts r 0 + k) d
unfolding part
part_at starts r xs k d less = get_or-take (get_or starts (r + 1) 0 - get_or starts r 0) (drop (get_or starts r 0) xs) k d less ∙ get_or-drop (get_or starts r 0) xs k d

module _ (s : Sheet) (accepted : Accepted s) where
  all : AllYes s
  all = all_yes s accepted

  entries_finite : all_finite s.entries ≡ true
  unfolding entries_fine
  entries_finite =
      (each (all_finite s.entries) (all_finite s.right_sides ∷ all_below s.rows (slack_entry_fine_at s.starts s.entries) ∷ []) all.entries_are_fine).0

  entry-finite : (r : ℕ) → r < s.rows → (k : ℕ) → k < length (row_columns (system_of s) r) → T (finite (get_or (row_entries (system_of s) r) k nan))
  entry-finite r less k below =
      let rises = (lie s accepted).rises r less in
      let inside = (lie s accepted).inside r less in
      let size = part-long s.starts r s.columns rises (omega (arith, inside, (by_row s all).columns_long)) in
      let short : k < get_or s.starts (r + 1) 0 - get_or s.starts r 0 = omega (arith, size, below) in
      subst (λ (x : Float). T (finite x)) (sym (part_at s.starts r s.entries k nan short))
      (finite_at_lem s.entries entries_finite (get_or s.starts r 0 + k) (omega (arith, rises, inside, (by_row s all).entries_long)))

  pub sound_rows : SoundRows (rows_of s)
  sound_rows = record { inside = row_within s accepted; entry-finite = entry-finite; right_side-finite = right_side-finite s all }

  pub sound_ranges : Doubles s → SoundRanges (variables s) (ranges_of s)
  sound_ranges doubles v less =
      let leaving = leaving_variable s in
      let range = range_at_lem s all v less in
      record {
        low_fits = edge-fits s accepted doubles leaving v less false;
        high_fits = edge-fits s accepted doubles leaving v less true;
        low_no_nan = edge_no_nan s accepted doubles leaving v less false;
        high_no_nan = edge_no_nan s accepted doubles leaving v less true;
        low_not_top = λ e. range.min_not_top (top_only (get_or s.mins v nan) (subst (λ (x : Float). T (le x (get_or s.mins v nan))) e (edge_outer s accepted doubles leaving v less false)));
        high_not_bottom = λ e. range.max_not_bottom (bottom_only (get_or s.maxs v nan) (subst (λ (x : Float). T (le (get_or s.maxs v nan) x)) e (edge_outer s accepted doubles leaving v less true)));
        ordered = low_le_high s accepted doubles v less;
      }
