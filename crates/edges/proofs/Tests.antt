-- What the branches of `edge` show, from what its calls gave. Assumes nothing.
use mathlib.Core.Path.{◌≡◌, ap, sym, ◌∙◌}
use mathlib.Core.Bool.{Bool, true, false, not}
use Prim.Native.Nat.{ℕ}
use borrow.Author.Tests.{not-true, not-false, eq-eqb, ne_eqb}
use lib.Ieee.{Float}
use lib.Ieee.Scale.{finite}
use Rattle.loops.proofs.Branches.{when_true, when_false}
use Rattle.tolerances.specs.Tolerances.{toward}
use Rattle.tolerances.specs.BandEdge.{band_edge}
use Rattle.edges.specs.Model.{Model, bound_of, tols_of}
use Rattle.edges.specs.Rooms.{widening_room}
use Rattle.edges.specs.Edges.{edge}
use Rattle.edges.specs.Variables.{holds_on_bounds}

-- ---- `edge`, from what its calls gave
module _ (m : Model) (leaving v : ℕ) (up : Bool) {bound : Float} {f : Bool} (at : bound ≡ bound_of m v up) (is : f ≡ finite bound) where
  finite_bound : not f ≡ false → finite (bound_of m v up) ≡ true
  finite_bound passes = ap finite (sym at) ∙ sym is ∙ not-false f passes

  same_band : {t u : Float} → t ≡ u → band_edge bound t up ≡ band_edge (bound_of m v up) u up
  same_band {t} e = ap (λ (b : Float). band_edge b t up) at ∙ ap (λ (x : Float). band_edge (bound_of m v up) x up) e

  pub edge_infinite : not f ≡ true → bound ≡ edge m leaving v up
  unfolding edge
  edge_infinite fails = when_false _ at (ap finite (sym at) ∙ sym is ∙ not-true f fails)

  pub edge_leaving : {t r : Float} → not f ≡ false → v ≡ leaving → t ≡ toward (tols_of m v) up → r ≡ band_edge bound t up → r ≡ edge m leaving v up
  unfolding edge
  edge_leaving passes here tol e = when_true _ (when_true _ (e ∙ same_band tol) (eq-eqb v leaving here)) (finite_bound passes)

  pub edge_on_bounds : {h : Bool} → not f ≡ false → (v ≡ leaving → ⊥) → h ≡ holds_on_bounds m.structurals m.integer m.mins m.maxs v → h ≡ true → bound ≡ edge m leaving v up
  unfolding edge
  edge_on_bounds passes other held t = when_true _ (when_false _ (when_true _ at (sym held ∙ t)) (ne_eqb v leaving other)) (finite_bound passes)

  pub edge_widened : {h : Bool} {t r : Float} → not f ≡ false → (v ≡ leaving → ⊥) → h ≡ holds_on_bounds m.structurals m.integer m.mins m.maxs v → h ≡ false
      → t ≡ widening_room m v up → r ≡ band_edge bound t up → r ≡ edge m leaving v up
  unfolding edge
  edge_widened passes other held free room e =
      when_true _ (when_false _ (when_false _ (e ∙ same_band room) (sym held ∙ free)) (ne_eqb v leaving other)) (finite_bound passes)
