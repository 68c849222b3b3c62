-- What each lent place holds after an accepted sheet: the certificate's number for each variable, beyond them what it held. Assumes nothing.
use native.Mathlib.Omega.{arith}
use mathlib.Core.Path.{◌≡◌, ap, ap₂, ◌∙◌}
use mathlib.Core.Bool.{Bool, false, cond}
use mathlib.Core.List.{List}
use Prim.Native.Nat.{ℕ, ◌+◌, ◌-◌, ◌<◌, ◌≤◌}
use lib.ListN.{length, get_or, drop, length-append, length-replicate, get_or-append}
use lib.Seq.{get_or-append-add, get_or-drop}
use lib.Ieee.{nan}
use Rattle.cdouble.specs.Compensated.{pair, plus_zero}
use Rattle.sheet.specs.Sheet.{Sheet, variables}
use Rattle.sheet.specs.Outputs.{Lent}
use Rattle.certificate.specs.Added.{pair_at}
use Rattle.certificate.specs.System.{system_of}
use Rattle.certificate.specs.Certificate.{Certificate, empty, combined, over, written}
use Rattle.certificate.proofs.Lengths.{after_rows_same}
use Rattle.kept.specs.Kept.{certificate_of, filled_in}

-- the certificate has a place for each variable and no more
pub record Sized (n : ℕ) (c : Certificate) : Type 0 where
  pub high_long : length c.lists_of.high ≡ n
  pub low_long : length c.lists_of.low ≡ n
  pub magnitudes_long : length c.lists_of.magnitudes ≡ n
  pub terms_long : length c.lists_of.terms ≡ n
  pub errors_long : length c.errors ≡ n

pub certificate_sized : (s : Sheet) → Sized (variables s) (certificate_of s)
unfolding certificate_of combined
certificate_sized s =
    let n = variables s in
    let h = after_rows_same (system_of s) s.rows (empty n) in
    record {
      high_long = h.0.high_same ∙ length-replicate n plus_zero;
      low_long = h.0.low_same ∙ length-replicate n plus_zero;
      magnitudes_long = h.0.magnitudes_same ∙ length-replicate n plus_zero;
      terms_long = h.0.terms_same ∙ length-replicate {A = ℕ} n 0;
      errors_long = h.1 ∙ length-replicate n plus_zero;
    }

-- a list of n places over another: its own places first, the other's beyond
pub place_written : {A : Type 0} {n : ℕ} (xs lent : List A) (d : A) → n ≤ length xs → (v : ℕ) → v < n → get_or (over n xs lent) v d ≡ get_or xs v d
place_written {n = n} xs lent d long v less = get_or-append xs (drop n lent) d v (omega arith)

pub place_beyond : {A : Type 0} {n : ℕ} (xs lent : List A) (d : A) → length xs ≡ n → (v : ℕ) → n ≤ v → get_or (over n xs lent) v d ≡ get_or lent v d
place_beyond {n = n} xs lent d long v beyond =
    let e : v ≡ length xs + (v - n) = omega arith in
    let f : n + (v - n) ≡ v = omega arith in
    ap (λ (k : ℕ). get_or (over n xs lent) k d) e
    ∙ get_or-append-add xs (drop n lent) (v - n) d
    ∙ get_or-drop n lent (v - n) d
    ∙ ap (λ (k : ℕ). get_or lent k d) f

-- without error bounds the errors stay as they were
pub errors_untouched : (s : Sheet) (before : Lent) → (system_of s).estimated ≡ false → (filled_in s before).errors ≡ before.errors
unfolding filled_in written
errors_untouched s before none = ap (λ (b : Bool). cond b (over (variables s) (certificate_of s).errors before.errors) before.errors) none

-- ---- a variable's place, of lists that are filled in
module _ (s : Sheet) (before : Lent) {now : Lent} (is : now ≡ filled_in s before) where
  -- so many terms as the certificate counts
  pub counts_stand : ((v : ℕ) → v < variables s → get_or now.lists_of.terms v 0 ≡ get_or (certificate_of s).lists_of.terms v 0) × (variables s ≤ length now.lists_of.terms)
  unfolding filled_in written
  counts_stand =
      let stands : now.lists_of.terms ≡ over (variables s) (certificate_of s).lists_of.terms before.lists_of.terms = ap (λ (x : Lent). x.lists_of.terms) is in
      let long = (certificate_sized s).terms_long in (
        λ v less.
            ap (λ (xs : List ℕ). get_or xs v 0) stands
            ∙ place_written {n = variables s} (certificate_of s).lists_of.terms before.lists_of.terms 0 (omega (arith, long)) v less,
        omega (arith, ap length stands, length-append (certificate_of s).lists_of.terms (drop (variables s) before.lists_of.terms), long),
      )

  -- its coefficient
  pub pair_stands : (v : ℕ) → v < variables s
      → pair_at now.lists_of.high now.lists_of.low v ≡ pair_at (certificate_of s).lists_of.high (certificate_of s).lists_of.low v
  unfolding filled_in written
  pair_stands v less =
      let c = (certificate_of s).lists_of in
      let sized = certificate_sized s in
      ap (λ (x : Lent). pair_at x.lists_of.high x.lists_of.low v) is
      ∙ ap₂ pair (place_written {n = variables s} c.high before.lists_of.high nan (omega (arith, sized.high_long)) v less)
      (place_written {n = variables s} c.low before.lists_of.low nan (omega (arith, sized.low_long)) v less)
