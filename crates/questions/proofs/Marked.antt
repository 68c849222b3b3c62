-- The widened list as marks: what they say is what the list says. Assumes nothing.
use native.Mathlib.Omega.{arith}
use mathlib.Core.Path.{◌≡◌, refl, ap, sym, ◌∙◌, ap₂}
use mathlib.Core.Bool.{Bool, true, false, not, ◌&&◌, ◌||◌, beq, and-true, and-false, or-true, or-false, or_assoc, true≢false}
use mathlib.Core.List.{List, [], ◌∷◌}
use Prim.Native.Nat.{ℕ, ◌+◌, ◌*◌, ◌<◌, ◌≤◌}
use borrow.Author.Tests.{eqb-true, eqb-false, eq-eqb, ne_eqb, ltb-true}
use lib.Dec.{eqb, ltb}
use lib.ListN.{length, get_or, set, length-set, length-replicate}
use lib.Seq.{get_or-set_same, get_or-set_other}
use Rattle.questions.specs.Limits.{most_variables}
use Rattle.questions.specs.Flags.{is_set}
use Rattle.questions.specs.declared.widened.Widened.{Widened}
use Rattle.questions.specs.declared.widened.Marks.{Marks}
use Rattle.questions.specs.WidenedList.{is_item, is_widened, widened_fine}
use Rattle.questions.specs.Marks.{marks, mark_of, holds, no_marks, noted, marks_from, marks_of}
use Rattle.questions.proofs.Tallies.{get_d_replicate}

-- ---- one mark more, of the variable v: the mark of the variable w on the same side, and on the other
same_side : (places : List Bool) (v w b : ℕ) → 2 * v + b < length places
    → get_or (set places (2 * v + b) true) (2 * w + b) false ≡ (get_or places (2 * w + b) false || eqb v w)
same_side places v w b less = go (eqb v w) refl
  where
    go : (t : Bool) → eqb v w ≡ t → get_or (set places (2 * v + b) true) (2 * w + b) false ≡ (get_or places (2 * w + b) false || t)
    go true e = rw (sym (eqb-true v w e)) (get_or-set_same places (2 * v + b) true false less ∙ sym (or-true (get_or places (2 * v + b) false)))
    go false e =
        get_or-set_other places (2 * v + b) (2 * w + b) true false (λ same. eqb-false v w e (omega (arith, same)))
        ∙ sym (or-false (get_or places (2 * w + b) false))

other_side : (places : List Bool) (v w b d : ℕ) → b ≤ 1 → d ≤ 1 → (b ≡ d → ⊥)
    → get_or (set places (2 * v + b) true) (2 * w + d) false ≡ (get_or places (2 * w + d) false || (eqb v w && false))
other_side places v w b d first second differ =
    get_or-set_other places (2 * v + b) (2 * w + d) true false (λ same. differ (omega (arith, same)))
    ∙ sym (ap (λ (t : Bool). get_or places (2 * w + d) false || t) (and-false (eqb v w)) ∙ or-false (get_or places (2 * w + d) false))

-- one mark more, of (v, up): the mark of (w, side)
set_mark : (places : List Bool) (v : ℕ) (up : Bool) (w : ℕ) (side : Bool) → mark_of v up < length places
    → get_or (set places (mark_of v up) true) (mark_of w side) false ≡ (get_or places (mark_of w side) false || (eqb v w && beq up side))
set_mark places v true w true less = same_side places v w 1 less ∙ ap (λ (t : Bool). get_or places (mark_of w true) false || t) (sym (and-true (eqb v w)))
set_mark places v true w false less = other_side places v w 1 0 (omega arith) (omega arith) (λ e. omega (arith, e))
set_mark places v false w true less = other_side places v w 0 1 (omega arith) (omega arith) (λ e. omega (arith, e))
set_mark places v false w false less = same_side places v w 0 less ∙ ap (λ (t : Bool). get_or places (mark_of w false) false || t) (sym (and-true (eqb v w)))

-- there is a mark for each variable and side
mark_below : (count v : ℕ) (up : Bool) → v < count → mark_of v up < 2 * count
mark_below count v true less = omega arith
mark_below count v false less = omega arith

-- ---- an item read
module _ (count : ℕ) (w : Widened) (m : Marks) where
  pub not_noted : (m.fine && ltb w.variable count) ≡ false → noted count w m ≡ marks m.places false
  unfolding noted
  not_noted fails = rw fails refl

  -- marks that are not fine stay as they are
  noted_stays : m.fine ≡ false → noted count w m ≡ m
  noted_stays refused = not_noted (rw refused refl) ∙ sym (ap (marks m.places) refused)

  -- an item that names no variable, or comes again
  nameless_refused : ltb w.variable count ≡ false → (noted count w m).fine ≡ false
  nameless_refused nameless = ap (λ (n : Marks). n.fine) (not_noted (rw nameless (and-false m.fine)))

  again_refused : m.fine ≡ true → ltb w.variable count ≡ true → holds m w.variable (is_set w.up) ≡ true → (noted count w m).fine ≡ false
  unfolding noted
  again_refused fine names again = rw (fine, names, again) refl

  -- any other
  pub new_noted : m.fine ≡ true → ltb w.variable count ≡ true → noted count w m ≡ marks (set m.places (mark_of w.variable (is_set w.up)) true) (not (holds m w.variable (is_set w.up)))
  unfolding noted
  new_noted fine names = rw (fine, names) refl

pub from_stays : (count : ℕ) (m : Marks) → m.fine ≡ false → (list : List Widened) → marks_from count m list ≡ m
unfolding marks_from
from_stays count m refused [] = refl
from_stays count m refused (w ∷ ws) = rw (noted_stays count w m refused) (from_stays count m refused ws)

-- ---- what a list adds to marks
-- whether no item of the list is marked
unfoldable none_held : Marks → List Widened → Bool
none_held m [] = true
none_held m (w ∷ ws) = not (holds m w.variable (is_set w.up)) && none_held m ws

-- whether a list passes, and what is marked after it
record Says (count : ℕ) (m : Marks) (ws : List Widened) (after : Marks) : Type 0 where
  fine : after.fine ≡ (widened_fine count ws && none_held m ws)
  each : (widened_fine count ws && none_held m ws) ≡ true → (v : ℕ) (up : Bool) → holds after v up ≡ (holds m v up || is_widened ws v up)

nothing_says : (count : ℕ) (m : Marks) → m.fine ≡ true → Says count m [] m
unfolding widened_fine none_held
nothing_says count m fine = record { fine = fine; each = λ passes v up. sym (or-false (holds m v up)) }

refused_says : (count : ℕ) (m : Marks) (ws : List Widened) (after : Marks) → after.fine ≡ false → (widened_fine count ws && none_held m ws) ≡ false → Says count m ws after
refused_says count m ws after refused fails =
    record { fine = refused ∙ sym fails; each = λ passes. absurd (true≢false (sym passes ∙ fails)) }

beq_sym : (a b : Bool) → beq a b ≡ beq b a
beq_sym true true = refl
beq_sym true false = refl
beq_sym false true = refl
beq_sym false false = refl

eqb_sym : (a b : ℕ) → eqb a b ≡ eqb b a
eqb_sym a b = go (eqb a b) refl
  where
    go : (t : Bool) → eqb a b ≡ t → t ≡ eqb b a
    go true e = sym (eq-eqb b a (sym (eqb-true a b e)))
    go false e = sym (ne_eqb b a (λ same. eqb-false a b e (sym same)))

-- an item is the other where the other is it
item_sym : (w x : Widened) → is_item x.variable (is_set x.up) w ≡ is_item w.variable (is_set w.up) x
item_sym w x = ap₂ ◌&&◌ (eqb_sym w.variable x.variable) (beq_sym (is_set w.up) (is_set x.up))

-- after one more mark, of the item w
module _ (m after : Marks) (w : Widened) (more : (v : ℕ) (up : Bool) → holds after v up ≡ (holds m v up || is_item v up w)) where
  none_more : (ws : List Widened) → none_held after ws ≡ (not (is_widened ws w.variable (is_set w.up)) && none_held m ws)
  unfolding none_held
  none_more [] = refl
  none_more (x ∷ xs) =
      rw (more x.variable (is_set x.up), item_sym w x, none_more xs)
      (apart (holds m x.variable (is_set x.up)) (is_item w.variable (is_set w.up) x) (is_widened xs w.variable (is_set w.up)) (none_held m xs))
    where
      apart : (held is among none : Bool) → (not (held || is) && (not among && none)) ≡ (not (is || among) && (not held && none))
      apart true true among none = refl
      apart true false among none = sym (and-false (not among))
      apart false true among none = refl
      apart false false among none = refl

  -- the items after it add to both
  more_says : (count : ℕ) (ws : List Widened) (end : Marks) → ltb w.variable count ≡ true → holds m w.variable (is_set w.up) ≡ false
      → Says count after ws end → Says count m (w ∷ ws) end
  unfolding widened_fine none_held
  more_says count ws end names new says =
      let among : Bool = is_widened ws w.variable (is_set w.up) in
      let same : (widened_fine count (w ∷ ws) && none_held m (w ∷ ws)) ≡ (widened_fine count ws && none_held after ws) =
      rw (names, new, none_more ws) (sorted among (widened_fine count ws) (none_held m ws)) in
      record {
        fine = says.fine ∙ sym same;
        each = λ passes v up. says.each (sym same ∙ passes) v up ∙ rw (more v up) (or_assoc (holds m v up) (is_item v up w) (is_widened ws v up));
      }
    where
      sorted : (among passes none : Bool) → ((true && not among && passes) && (not false && none)) ≡ (passes && (not among && none))
      sorted true passes none = sym (and-false passes)
      sorted false passes none = refl

module _ (count : ℕ) (few : count ≤ most_variables) where
  -- marks of the largest size
  abbrev Long : Marks → Type 0
  Long m = length m.places ≡ 2 * most_variables

  module _ (w : Widened) (m : Marks) (fine : m.fine ≡ true) (long : Long m) where
    item_says : (ws : List Widened) → ((noted count w m).fine ≡ true → Long (noted count w m) → Says count (noted count w m) ws (marks_from count (noted count w m) ws))
        → Says count m (w ∷ ws) (marks_from count (noted count w m) ws)
    unfolding widened_fine none_held
    item_says ws rest = go (ltb w.variable count) refl (holds m w.variable (is_set w.up)) refl
      where
        refused : (noted count w m).fine ≡ false → (widened_fine count (w ∷ ws) && none_held m (w ∷ ws)) ≡ false
            → Says count m (w ∷ ws) (marks_from count (noted count w m) ws)
        refused stops fails =
            refused_says count m (w ∷ ws) (marks_from count (noted count w m) ws)
            (ap (λ (n : Marks). n.fine) (from_stays count (noted count w m) stops ws) ∙ stops) fails

        go : (names : Bool) → ltb w.variable count ≡ names → (again : Bool) → holds m w.variable (is_set w.up) ≡ again
            → Says count m (w ∷ ws) (marks_from count (noted count w m) ws)
        go false nameless again e = refused (nameless_refused count w m nameless) (rw nameless refl)
        go true names true again = refused (again_refused count w m fine names again) (rw again (and-false _))
        go true names false new =
            let is = new_noted count w m fine names in
            let inside : mark_of w.variable (is_set w.up) < length m.places =
            omega (arith, long, few, mark_below count w.variable (is_set w.up) (ltb-true w.variable count names)) in
            more_says m (noted count w m) w
            (λ v up. ap (λ (n : Marks). holds n v up) is ∙ set_mark m.places w.variable (is_set w.up) v up inside)
            count ws _ names new
            (rest (ap (λ (n : Marks). n.fine) is ∙ rw new refl) (ap (λ (n : Marks). length n.places) is ∙ length-set m.places (mark_of w.variable (is_set w.up)) true ∙ long))

  says : (m : Marks) → m.fine ≡ true → Long m → (ws : List Widened) → Says count m ws (marks_from count m ws)
  unfolding marks_from
  says m fine long [] = nothing_says count m fine
  says m fine long (w ∷ ws) = item_says w m fine long ws (λ fine long. says (noted count w m) fine long ws)

  -- ---- a list from its first item on
  none_held_yet : (ws : List Widened) → none_held no_marks ws ≡ true
  unfolding none_held
  none_held_yet [] = refl
  none_held_yet (w ∷ ws) =
      rw (get_d_replicate (2 * most_variables) false (mark_of w.variable (is_set w.up)), none_held_yet ws) refl

  list_says : (list : List Widened) → Says count no_marks list (marks_of count list)
  unfolding marks_of
  list_says list = says no_marks refl (length-replicate (2 * most_variables) false) list

  pub marks_fine : (list : List Widened) → (marks_of count list).fine ≡ widened_fine count list
  marks_fine list = (list_says list).fine ∙ rw (none_held_yet list) (and-true (widened_fine count list))

  pub marks_hold : (list : List Widened) → widened_fine count list ≡ true → (v : ℕ) (up : Bool) → holds (marks_of count list) v up ≡ is_widened list v up
  marks_hold list fine v up =
      (list_says list).each (rw (fine, none_held_yet list) refl) v up
      ∙ rw (get_d_replicate (2 * most_variables) false (mark_of v up)) refl

  pub marks_are : (list : List Widened) → widened_fine count list ≡ true → holds (marks_of count list) ≡ is_widened list
  marks_are list fine = λ i v up. marks_hold list fine v up i
