-- The magnitudes that are written by the terms counted are the sheet's, and the judgement has them wherever it asks for an edge. Assumes nothing.
use native.Mathlib.Omega.{arith}
use mathlib.Core.Path.{◌≡◌, refl, ap, sym, ◌∙◌}
use mathlib.Core.Bool.{Bool, true, false}
use mathlib.Core.List.{List}
use Prim.Native.Nat.{ℕ, ◌+◌, ◌<◌}
use borrow.Author.Tests.{eqb-true}
use lib.Dec.{eqb}
use lib.ListN.{get_or}
use lib.Ieee.{Float, nan, eq}
use Rattle.cdouble.specs.declared.CDouble.{CDouble}
use Rattle.cdouble.specs.Compensated.{plus_zero, value}
use Rattle.loops.specs.Listed.{listed}
use Rattle.loops.proofs.Listed.{is_listed, length-listed, listed_at}
use Rattle.sheet.specs.Sheet.{Sheet, variables}
use Rattle.sheet.specs.Outputs.{Lent}
use Rattle.edges.specs.Model.{model_of, model_with}
use Rattle.edges.specs.Ranges.{magnitude_in}
use Rattle.edges.specs.RoomReads.{Known}
use Rattle.edges.proofs.Known.{known_counted}
use Rattle.certificate.specs.Added.{pair_at}
use Rattle.certificate.specs.System.{system_of}
use Rattle.certificate.proofs.Uncounted.{pair_zero}
use Rattle.judgement.proofs.NoRows.{value-zero}
use Rattle.kept.specs.Kept.{certificate_of, filled_in, magnitudes_of}
use Rattle.kept.proofs.Places.{counts_stand, pair_stands}

module _ (s : Sheet) (before : Lent) {now : Lent} (filled : now ≡ filled_in s before) where
  -- a variable without terms has a coefficient of value 0
  coefficient_zero : (v : ℕ) → v < variables s → get_or now.lists_of.terms v 0 ≡ 0 → eq (value (pair_at now.lists_of.high now.lists_of.low v)) plus_zero ≡ true
  unfolding certificate_of
  coefficient_zero v less none =
      ap (λ (p : CDouble). eq (value p) plus_zero)
      (pair_stands s before filled v less
      ∙ pair_zero (system_of s) s.rows (variables s) v less (sym ((counts_stand s before filled).0 v less) ∙ none))
      ∙ value-zero

  -- so a variable whose coefficient is not 0 has terms
  has_terms : (v : ℕ) → v < variables s → eq (value (pair_at now.lists_of.high now.lists_of.low v)) plus_zero ≡ false → eqb (get_or now.lists_of.terms v 0) 0 ≡ false
  has_terms v less counts = go (eqb (get_or now.lists_of.terms v 0) 0) refl
    where
      go : (t : Bool) → eqb (get_or now.lists_of.terms v 0) 0 ≡ t → t ≡ false
      go false e = refl
      go true e = sym (coefficient_zero v less (eqb-true (get_or now.lists_of.terms v 0) 0 e)) ∙ counts

  -- and the list its magnitude, if it is a slack
  pub magnitudes_known : (widened : ℕ → Bool → Bool) {list : List Float} → list ≡ listed s.rows (magnitude_in (model_with s widened) now.lists_of.terms)
      → (v : ℕ) → v < variables s → eq (value (pair_at now.lists_of.high now.lists_of.low v)) plus_zero ≡ false → Known (model_with s widened) list v
  magnitudes_known widened written v less counts =
      known_counted (model_with s widened) now.lists_of.terms s.rows written v less (has_terms v less counts)

  -- the lent counts are the certificate's at each slack
  pub magnitudes_are : {list : List Float} → list ≡ listed s.rows (magnitude_in (model_of s) now.lists_of.terms) → list ≡ magnitudes_of s
  magnitudes_are {list} written =
      written
      ∙ is_listed (magnitude_in (model_of s) (certificate_of s).lists_of.terms) nan (listed s.rows (magnitude_in (model_of s) now.lists_of.terms))
      (length-listed s.rows (magnitude_in (model_of s) now.lists_of.terms))
      (λ r less.
      listed_at s.rows (magnitude_in (model_of s) now.lists_of.terms) nan r less
      ∙ rw ((counts_stand s before filled).0 (s.structurals + r) (omega arith)) refl)
