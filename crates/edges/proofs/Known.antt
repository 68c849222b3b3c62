-- The magnitudes that are written: of each row whose slack has terms counted the row's, from which its slack's room comes. Assumes nothing.
use native.Mathlib.Omega.{arith}
use mathlib.Core.Path.{◌≡◌, refl, ap, ◌∙◌}
use mathlib.Core.Bool.{false}
use mathlib.Core.List.{List}
use Prim.Native.Nat.{ℕ, ◌+◌, ◌-◌, ◌<◌, ◌≤◌}
use borrow.Author.Tests.{le-ltb}
use lib.Dec.{eqb}
use lib.ListN.{length, get_or}
use lib.Ieee.{Float, nan}
use Rattle.cdouble.specs.Compensated.{◌⊗◌}
use Rattle.loops.specs.Listed.{listed}
use Rattle.loops.proofs.Branches.{when_false}
use Rattle.loops.proofs.Listed.{length-listed, listed_at}
use Rattle.tolerances.specs.Tolerances.{trimmed_room}
use Rattle.edges.specs.Activity.{row_terms, slack_room}
use Rattle.edges.specs.Model.{Model}
use Rattle.edges.specs.Ranges.{magnitude_in}
use Rattle.edges.specs.RoomReads.{Known}
use Rattle.edges.specs.Rooms.{own_rooms, rooms, row_of}
use Rattle.edges.specs.Row.{Row}

-- the list that is written has the magnitude of a row whose slack has terms
pub known_counted : (m : Model) (terms : List ℕ) (rows : ℕ) {list : List Float} → list ≡ listed rows (magnitude_in m terms)
    → (v : ℕ) → v < m.structurals + rows → eqb (get_or terms v 0) 0 ≡ false → Known m list v
known_counted m terms rows {list} written v less has =
    λ slack.
    let r = v - m.structurals in
    let at : m.structurals + r ≡ v = omega arith in
    let inside : r < rows = omega arith in (
      omega (arith, ap (λ (xs : List Float). length xs) written, length-listed rows (magnitude_in m terms)),
      ap (λ (xs : List Float). get_or xs r nan) written
          ∙ listed_at rows (magnitude_in m terms) nan r inside
          ∙ rw (at, has) refl,
    )

-- a slack's own rooms, from its row and the magnitude in the list
pub rooms_known : (m : Model) (v : ℕ) (list : List Float) → Known m list v → m.structurals ≤ v → {row : Row} {room : Float} → row ≡ row_of m (v - m.structurals)
    → room ≡ trimmed_room (m.feasibility ⊗ row.scale) (get_or list (v - m.structurals) nan) (row_terms row.columns) → rooms room room ≡ own_rooms m v
unfolding slack_room
rooms_known m v list known slack {row} {room} is comes =
    let r = v - m.structurals in
    when_false _
    (ap (λ (x : Float). rooms x x)
    (comes
    ∙ ap (λ (x : Row). trimmed_room (m.feasibility ⊗ x.scale) (get_or list r nan) (row_terms x.columns)) is
    ∙ ap (λ (x : Float). trimmed_room (m.feasibility ⊗ (row_of m r).scale) x (row_terms (row_of m r).columns)) (known slack).1))
    (le-ltb v m.structurals slack)
