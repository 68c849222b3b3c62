-- The edges of a variable that is not leaving, from its bounds and from the rooms of both sides. Assumes nothing.
use mathlib.Core.Path.{◌≡◌, refl, ap, sym, ◌∙◌}
use mathlib.Core.Bool.{Bool, true, false, cond}
use Prim.Native.Nat.{ℕ}
use borrow.Author.Tests.{ne_eqb}
use lib.Dec.{eqb}
use lib.Ieee.{Float}
use lib.Ieee.Scale.{finite}
use Rattle.loops.proofs.Branches.{when_true, when_false}
use Rattle.tolerances.specs.Tolerances.{toward}
use Rattle.tolerances.specs.BandEdge.{band_edge}
use Rattle.edges.specs.Model.{Model, bound_of, tols_of}
use Rattle.edges.specs.Variables.{holds_on_bounds}
use Rattle.edges.specs.Rooms.{widening_room}
use Rattle.edges.specs.Edges.{edge}

module _ (m : Model) (leaving v : ℕ) (up : Bool) (other : v ≡ leaving → ⊥) {h : Bool} (held : h ≡ holds_on_bounds m.structurals m.integer m.mins m.maxs v) where
  pub held_edge : h ≡ true → bound_of m v up ≡ edge m leaving v up
  unfolding edge
  held_edge t = go (finite (bound_of m v up))
    where
      go : (f : Bool)
          → bound_of m v up
          ≡ cond f
          (cond (eqb v leaving) (band_edge (bound_of m v up) (toward (tols_of m v) up) up)
          (cond (holds_on_bounds m.structurals m.integer m.mins m.maxs v) (bound_of m v up) (band_edge (bound_of m v up) (widening_room m v up) up)))
          (bound_of m v up)
      go true = when_false _ (when_true _ refl (sym held ∙ t)) (ne_eqb v leaving other)
      go false = refl

  pub moved_edge : {t r : Float} → h ≡ false → t ≡ widening_room m v up → r ≡ cond (finite (bound_of m v up)) (band_edge (bound_of m v up) t up) (bound_of m v up) → r ≡ edge m leaving v up
  unfolding edge
  moved_edge {t} {r} f room e =
      e
      ∙ ap (λ (x : Float). cond (finite (bound_of m v up)) x (bound_of m v up))
      (when_false _ (when_false _ (ap (λ (x : Float). band_edge (bound_of m v up) x up) room) (sym held ∙ f)) (ne_eqb v leaving other))
