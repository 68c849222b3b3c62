-- `band_edge` meets its contract. Assumes nothing.
use mathlib.Core.Path.{◌≡◌, refl, sym, subst}
use mathlib.Core.Bool.{cond}
use lib.Dec.{T}
use lib.Ieee.{Float, lt, le}
use lib.Ieee.Scale.{finite}
use Rattle.doubles.specs.Neighbours.{next_up, next_down}
use Rattle.doubles.proofs.Tests.{fit}
use Rattle.cdouble.specs.Compensated.{◌⊕◌, ◌⊖◌, plus_zero}
use Rattle.loops.proofs.Branches.{when_false, when_true}
use Rattle.tolerances.specs.BandEdge.{band_start, step_back, band_edge, IsBandEdge}
use Rattle.tolerances.proofs.BandEdge.{band_edge_law, band_edge_is}
use Rattle.tolerances.proofs.band.band_edge.Goals as goal
use Rattle.tolerances.proofs.band.band_edge.Goals.{then-up, else-up}
use Rattle.tolerances.proofs.band.band_edge.Tie as tie
use Rattle.tolerances.proofs.band.band_edge.Reads as reads
use Rattle.tolerances.proofs.band.band_edge.Lts as lts

-- where the code starts
starts : (c : lts.Joined1 tie.the-claims reads.Pre reads.Post) → c.if-up.edge ≡ band_start c.args.bound c.args.tol c.args.up
unfolding band_start
starts c =
    elim c.if-up.branch [ then-up k ↦ when_true (c.args.bound ⊖ c.args.tol) k.edge-is k.if-up.true | else-up k ↦ when_false (c.args.bound ⊕ c.args.tol) k.edge-is k.if-up.false ]

-- what is equal to the definition has its law
answers : (c : lts.After-abs tie.the-claims reads.Pre reads.Post) {r : Float} → r ≡ cond (lt c.args.tol c.abs.result) (step_back c.args.up c.if-up.edge) c.if-up.edge
    → (r ≡ band_edge c.args.bound c.args.tol c.args.up) × (T (finite c.args.bound) → T (le plus_zero c.args.tol) → IsBandEdge c.args.bound c.args.tol c.args.up r)
answers c {r} k =
    let is : r ≡ band_edge c.args.bound c.args.tol c.args.up = band_edge_is c.args.bound c.args.tol c.args.up (starts c.before) c.abs.ensures k in
    let law = band_edge_law c.args.bound c.args.tol c.args.up (fit c.args.bound c.well_formed.0.1) (fit c.args.tol c.well_formed.1.0.1) in
    (is, λ f o. subst (IsBandEdge c.args.bound c.args.tol c.args.up) (sym is) (law f o))

pub returns-then-up-2 : goal.returns-then-up-2
unfolding step_back
returns-then-up-2 c = answers c.before.before.before (when_true c.if-up.edge (when_true (next_up c.if-up.edge) c.next_down.ensures c.if-up-2.true) c.if-abs-tol.true)

pub returns-else-up-2 : goal.returns-else-up-2
unfolding step_back
returns-else-up-2 c = answers c.before.before.before (when_true c.if-up.edge (when_false (next_down c.if-up.edge) c.next_up.ensures c.if-up-2.false) c.if-abs-tol.true)

pub returns-else-abs-tol : goal.returns-else-abs-tol
returns-else-abs-tol c = answers c.before (when_false (step_back c.args.up c.if-up.edge) refl c.if-abs-tol.false)
