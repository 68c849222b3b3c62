-- The edges of the variables of an accepted sheet whose numbers are doubles. Assumes nothing.
use native.Mathlib.Omega.{arith}
use mathlib.Core.Path.{◌≡◌, refl, ap, sym, ◌∙◌, subst}
use mathlib.Core.Logic.{inl, inr}
use mathlib.Core.Bool.{Bool, true, false, not, cond, true≢false}
use mathlib.Core.List.{List}
use Prim.Native.Nat.{ℕ, zero, suc, ◌+◌, ◌-◌, ◌≤◌, ◌<◌}
use borrow.Author.Tests.{ltb-false}
use lib.IntN.{pos}
use lib.Dec.{T, eqb, ltb}
use lib.ListN.{length, get_or}
use lib.Ieee.{Float, nan, fin, binary64, fits, is_nan, lt, le, eq}
use lib.Ieee.Bits.{is_true}
use lib.Ieee.Fits.{cond-fits, add-fits, mul-fits}
use lib.Ieee.Scale.{finite}
use Rattle.exact.specs.Value.{sign}
use Rattle.exact.proofs.Naturals.{le_or_lt}
use Rattle.exact.proofs.Compare.{le_same, le_trans, le-exact}
use Rattle.exact.proofs.Signs.{add_clear, mul_clear, exact_clear}
use Rattle.doubles.specs.Compare.{absolute}
use Rattle.doubles.proofs.Patterns.{finite_no_nan}
use Rattle.doubles.proofs.Clear.{absolute-fits, absolute_clear}
use Rattle.cdouble.specs.Compensated.{◌⊕◌, ◌⊖◌, ◌⊗◌, plus_zero}
use Rattle.cdouble.proofs.RoundedUp.{exact-zero, zero-fits}
use Rattle.sheet.specs.Sheet.{Sheet, variables, Doubles}
use Rattle.questions.specs.Rows.{part, RowsLie}
use Rattle.questions.specs.BasisPlaces.{holds_place}
use Rattle.questions.specs.WidenedList.{is_widened}
use Rattle.sheet.specs.Answers.{Accepted}
use Rattle.sheet.proofs.Accepted.{AllYes, SizesHold, all_yes, rows_lie, sizes_hold}
use Rattle.sheet.proofs.Consequences.{Plain, lengths, by_variable, by_row, range_at_lem, low_plain, high_plain, feasibility_plain, scale_plain, product_finite, Holds, holder, one_holder, leaving_lt}
use Rattle.tolerances.specs.Tolerances.{toward, slack_margin, slack_tol}
use Rattle.tolerances.specs.BandEdge.{band_edge}
use Rattle.tolerances.proofs.Room.{trimmed_room-fits, trimmed_room_law, no_minus_zero}
use Rattle.tolerances.proofs.BandEdge.{band_edge_law, band_edge-fits}
use Rattle.edges.specs.declared.activity.Activity.{Activity}
use Rattle.edges.specs.Model.{model_of, bound_of, tols_of}
use Rattle.edges.specs.Activity.{activity, with_entry, after_entries, row_activity, row_terms, slack_room}
use Rattle.edges.specs.Rooms.{magnitude_at, rooms, slack_room_at, widening_room}
use Rattle.edges.specs.Edges.{leaving_variable, edge, low_edge, high_edge}
use Rattle.edges.specs.Variables.{holds_on_bounds, holder_from}
use Rattle.edges.specs.RoomReads.{RowAtValues, RowReadable, Readable}

-- ---- what is to hold of an edge, whichever way it is chosen
pub record EdgeHolds (bound : Float) (up : Bool) (e : Float) : Type 0 where
  pub fit : T (fits binary64 e)
  pub outer : T (cond up (le bound e) (le e bound))
  pub same_finite : finite e ≡ finite bound
  pub no_nan : T (not (is_nan e))

-- of a room: it is a double, finite, and at least 0
abbrev pub RoomHolds : Float → Type 0
RoomHolds w = T (fits binary64 w) × T (finite w) × T (le plus_zero w)

-- a bound that is its own edge
stays : (bound : Float) (up : Bool) → T (fits binary64 bound) → T (not (is_nan bound)) → EdgeHolds bound up bound
stays bound up h t = record { fit = h; outer = either up (le bound bound) (le_same bound t h); same_finite = refl; no_nan = t }
  where
    either : (up b : Bool) → T b → T (cond up b b)
    either true b o = o
    either false b o = o

-- a finite bound and a room
banded : (bound w : Float) (up : Bool) → T (fits binary64 bound) → T (finite bound) → RoomHolds w → EdgeHolds bound up (band_edge bound w up)
banded bound w up h f room =
    let law = band_edge_law bound w up h room.0 f room.2 in
    let e = band_edge bound w up in
    let g : T (finite e) = law.keeps_finite room.1 in
    record { fit = band_edge-fits bound w up; outer = law.outer; same_finite = is_true (finite e) g ∙ sym (is_true (finite bound) f); no_nan = finite_no_nan e g }

-- a plain number is a room
plain_room : (x : Float) → T (fits binary64 x) → Plain x → RoomHolds x
plain_room x h p = (h, p.0, (le-exact plus_zero x tt p.0 zero-fits h).1 (rw exact-zero (exact_clear x p.1)))

-- ---- the magnitude of a row: a double with a clear sign
abbrev pub Clear : Float → Type 0
Clear x = T (fits binary64 x) × (sign x ≡ false)

-- one entry more keeps it so
entry_clear : (structurals : ℕ) (values : List Float) (v : ℕ) (coeff : Float) (a : Activity) → Clear a.magnitude → Clear (with_entry structurals values v coeff a).magnitude
entry_clear structurals values v coeff a h = go (ltb v structurals)
  where
    go : (b : Bool) → Clear (cond b (activity (a.lhs ⊕ coeff ⊗ get_or values v nan) (a.magnitude ⊕ absolute (coeff ⊗ get_or values v nan))) a).magnitude
    go true = (add-fits binary64 a.magnitude _, add_clear a.magnitude (absolute (coeff ⊗ get_or values v nan)) h.1 (absolute_clear (coeff ⊗ get_or values v nan)))
    go false = h

entries_clear : (structurals : ℕ) (values : List Float) (columns : List ℕ) (entries : List Float) (n : ℕ) (a : Activity) → Clear a.magnitude
    → Clear (after_entries structurals values columns entries n a).magnitude
unfolding after_entries
entries_clear structurals values columns entries zero a h = h
entries_clear structurals values columns entries (suc n) a h =
    entry_clear structurals values (get_or columns n 0) (get_or entries n nan) (after_entries structurals values columns entries n a) (entries_clear structurals values columns entries n a h)

pub magnitude_clear : (structurals : ℕ) (right_side : Float) (columns : List ℕ) (entries values : List Float) → T (fits binary64 right_side)
    → Clear (row_activity structurals right_side columns entries values).magnitude
unfolding row_activity
magnitude_clear structurals right_side columns entries values h =
    entries_clear structurals values columns entries (length columns) (activity plus_zero (absolute right_side)) (absolute-fits right_side h, absolute_clear right_side)

-- ---- the first holder of a place, where there is one
module _ (basic places : List ℕ) (p : ℕ) where
  first_holder : (n v w : ℕ) → v ≤ w → w < v + n → Holds basic places p w → (holder_from basic places p v n < v + n) × Holds basic places p (holder_from basic places p v n)
  unfolding holder_from
  first_holder zero v w low high here = absurd (omega arith)
  first_holder (suc n) v w low high here = go (first_holder n (suc v) w) (holds_place basic places p v) refl
    where
      go : (suc v ≤ w → w < suc v + n → Holds basic places p w → (holder_from basic places p (suc v) n < suc v + n) × Holds basic places p (holder_from basic places p (suc v) n))
          → (b : Bool) → holds_place basic places p v ≡ b → (cond b v (holder_from basic places p (suc v) n) < v + suc n) × Holds basic places p (cond b v (holder_from basic places p (suc v) n))
      go later true at = (omega arith, at)
      go later false at =
          elim (le_or_lt w v) [
            | inl same ↦ let e : w ≡ v = omega arith in absurd (true≢false (sym here ∙ ap (holds_place basic places p) e ∙ at))
            | inr beyond ↦ let h = later beyond (omega arith) here in (omega (arith, h.0), h.1)
          ]

-- ---- the numbers of a row r that its slack's room rests on
abbrev pub tol_at : Sheet → ℕ → Float
tol_at s r = s.feasibility ⊗ get_or s.scales r nan

abbrev pub terms_at : Sheet → ℕ → ℕ
terms_at s r = row_terms (part s.starts r s.columns)

-- ---- an accepted sheet
module _ (s : Sheet) (accepted : Accepted s) where
  all : AllYes s
  all = all_yes s accepted

  sizes : SizesHold s.rows s.structurals s.entry_count
  sizes = sizes_hold s.rows s.structurals s.entry_count all.sizes_are_fine

  lie : RowsLie s.rows s.entry_count s.starts
  lie = rows_lie s.rows s.entry_count s.starts all.starts_are_fine (by_row s all).starts_long

  -- ---- what the code reads lies within the slices
  entries_same : length s.entries ≡ length s.columns
  entries_same = (by_row s all).entries_long ∙ sym (by_row s all).columns_long

  row_readable : (r : ℕ) → r < s.rows → RowReadable (model_of s) r
  row_readable r less =
      record {
        in_starts = omega (arith, (by_row s all).starts_long);
        rises = lie.rises r less;
        inside = omega (arith, lie.inside r less, (by_row s all).columns_long);
        in_right_sides = omega (arith, (by_row s all).right_sides_long);
        in_scales = omega (arith, (by_row s all).scales_long);
      }

  pub row_at_values : (r : ℕ) → r < s.rows → RowAtValues s.structurals s.starts s.columns s.entries s.right_sides s.scales s.values r
  row_at_values r less = record { row = row_readable r less; entries_long = entries_same; values_long = omega (arith, (by_variable s all).values_long) }

  pub readable : (v : ℕ) → v < variables s → Readable (model_of s) v
  readable v less =
      record {
        has_mark = omega (arith, sizes.rows_most, sizes.structurals_most);
        in_mins = omega (arith, (by_variable s all).mins_long);
        in_maxs = omega (arith, (by_variable s all).maxs_long);
        in_low = omega (arith, (by_variable s all).low_long);
        in_high = omega (arith, (by_variable s all).high_long);
        integers = omega (arith, (lengths s all).integer_long);
        minimums = omega (arith, (by_variable s all).mins_long);
        maximums = omega (arith, (by_variable s all).maxs_long);
        values_long = omega (arith, (by_variable s all).values_long);
        entries_long = entries_same;
        row = λ slack. row_readable (v - s.structurals) (omega arith);
      }

  -- ---- the leaving variable holds the leaving row's place, and no other does
  pub leaving_holds : (leaving_variable s < variables s) × Holds s.basic s.places s.leaving_row (leaving_variable s)
  leaving_holds =
      let h = holder s all s.leaving_row (leaving_lt s all) in
      let f = first_holder s.basic s.places s.leaving_row (length s.basic) 0 h.0 (omega arith) (omega (arith, h.1, (by_variable s all).basic_long)) h.2 in
      (omega (arith, f.0, (by_variable s all).basic_long), f.1)

  pub leaving_unique : (v : ℕ) → v < variables s → Holds s.basic s.places s.leaving_row v → v ≡ leaving_variable s
  leaving_unique v less here = one_holder s all s.leaving_row (leaving_lt s all) v (leaving_variable s) less leaving_holds.0 here leaving_holds.1

-- ---- an accepted sheet whose numbers are doubles
module _ (s : Sheet) (accepted : Accepted s) (doubles : Doubles s) where
  -- ---- rooms
  row_clear : (r : ℕ) → r < s.rows → Clear (tol_at s r) × Clear (magnitude_at (model_of s) r)
  row_clear r less = (
    (mul-fits binary64 s.feasibility (get_or s.scales r nan), mul_clear s.feasibility (get_or s.scales r nan) (feasibility_plain s (all s accepted)).1 (scale_plain s (all s accepted) r less).1),
    magnitude_clear s.structurals (get_or s.right_sides r nan) (part s.starts r s.columns) (part s.starts r s.entries) s.values (doubles.right_sides_fit.fit_at r),
  )

  -- the argument of the `max` in `slack_room` is never −0
  pub room_no_minus_zero : (r : ℕ) → r < s.rows → let x = magnitude_at (model_of s) r in
      slack_tol (tol_at s r) x (terms_at s r) ⊖ slack_margin (tol_at s r) x (terms_at s r) ≡ fin true 0 (pos 0) → ⊥
  room_no_minus_zero r less = let c = row_clear r less in no_minus_zero (tol_at s r) (magnitude_at (model_of s) r) c.0.1 c.1.1 c.0.0 (terms_at s r)

  slack_room_lem : (r : ℕ) → r < s.rows → RoomHolds (slack_room_at (model_of s) r)
  unfolding slack_room
  slack_room_lem r less =
      let c = row_clear r less in
      let law = trimmed_room_law (tol_at s r) (magnitude_at (model_of s) r) (product_finite s (all s accepted) r less) c.0.0 c.1.0 c.0.1 c.1.1 (terms_at s r) in
      (trimmed_room-fits (tol_at s r) (magnitude_at (model_of s) r) (terms_at s r), law.0, law.1)

  tolerance_room : (v : ℕ) → v < variables s → (up : Bool) → RoomHolds (toward (tols_of (model_of s) v) up)
  unfolding toward
  tolerance_room v less true = plain_room (get_or s.high_tolerances v nan) (doubles.high_fit.fit_at v) (high_plain s (all s accepted) v less)
  tolerance_room v less false = plain_room (get_or s.low_tolerances v nan) (doubles.low_fit.fit_at v) (low_plain s (all s accepted) v less)

  same_rooms : (room : Float) → RoomHolds room → (up : Bool) → RoomHolds (toward (rooms room room) up)
  unfolding toward
  same_rooms room h true = h
  same_rooms room h false = h

  -- 0 where the item is widened, else a tolerance or what `slack_room` answers
  pub room_law : (v : ℕ) → v < variables s → (up : Bool) → RoomHolds (widening_room (model_of s) v up)
  unfolding widening_room le lt eq
  room_law v less up = go (is_widened s.widened v up) (ltb v s.structurals) refl
    where
      room : Float
      room = slack_room_at (model_of s) (v - s.structurals)

      go : (b t : Bool) → ltb v s.structurals ≡ t → RoomHolds (cond b plus_zero (toward (cond t (tols_of (model_of s) v) (rooms room room)) up))
      go true t e = (zero-fits, tt, tt)
      go false true e = tolerance_room v less up
      go false false e = same_rooms room (slack_room_lem (v - s.structurals) (omega (arith, ltb-false v s.structurals e))) up

  -- ---- edges
  module _ (leaving v : ℕ) (less : v < variables s) (up : Bool) where
    abbrev bound : Float
    bound = bound_of (model_of s) v up

    bound_fits : T (fits binary64 bound)
    bound_fits = cond-fits binary64 up (get_or s.maxs v nan) (get_or s.mins v nan) (doubles.maxs_fit.fit_at v) (doubles.mins_fit.fit_at v)

    bound_no_nan : T (not (is_nan bound))
    bound_no_nan = go up
      where
        go : (up : Bool) → T (not (is_nan (bound_of (model_of s) v up)))
        go true = (range_at_lem s (all s accepted) v less).max_no_nan
        go false = (range_at_lem s (all s accepted) v less).min_no_nan

    edge-holds : EdgeHolds bound up (edge (model_of s) leaving v up)
    unfolding edge
    edge-holds = go (finite bound) (eqb v leaving) (holds_on_bounds s.structurals s.integer s.mins s.maxs v) refl
      where
        go : (f l h : Bool) → finite bound ≡ f
            → EdgeHolds bound up (cond f (cond l (band_edge bound (toward (tols_of (model_of s) v) up) up) (cond h bound (band_edge bound (widening_room (model_of s) v up) up))) bound)
        go false l h e = stays bound up bound_fits bound_no_nan
        go true true h e = banded bound (toward (tols_of (model_of s) v) up) up bound_fits (subst T (sym e) tt) (tolerance_room v less up)
        go true false true e = stays bound up bound_fits bound_no_nan
        go true false false e = banded bound (widening_room (model_of s) v up) up bound_fits (subst T (sym e) tt) (room_law v less up)

    -- it is a double
    pub edge-fits : T (fits binary64 (edge (model_of s) leaving v up))
    edge-fits = edge-holds.fit

    -- it lies on the outer side of the bound or on it
    pub edge_outer : T (cond up (le (bound_of (model_of s) v up) (edge (model_of s) leaving v up)) (le (edge (model_of s) leaving v up) (bound_of (model_of s) v up)))
    edge_outer = edge-holds.outer

    -- an edge is infinite exactly where its bound is
    pub edge-finite : finite (edge (model_of s) leaving v up) ≡ finite (bound_of (model_of s) v up)
    edge-finite = edge-holds.same_finite

    -- it is no NaN
    pub edge_no_nan : T (not (is_nan (edge (model_of s) leaving v up)))
    edge_no_nan = edge-holds.no_nan

  -- the widened range is not empty: low ≤ min ≤ max ≤ high
  pub low_le_high : (v : ℕ) → v < variables s → T (le (low_edge s v) (high_edge s v))
  low_le_high v less =
      let min = get_or s.mins v nan in
      let max = get_or s.maxs v nan in
      let fit = edge-fits (leaving_variable s) v less in
      let outer = edge_outer (leaving_variable s) v less in
      le_trans (low_edge s v) min (high_edge s v) (fit false) (doubles.mins_fit.fit_at v) (fit true) (outer false)
      (le_trans min max (high_edge s v) (doubles.mins_fit.fit_at v) (doubles.maxs_fit.fit_at v) (fit true) (range_at_lem s (all s accepted) v less).ordered (outer true))
