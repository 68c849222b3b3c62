-- What the branches of the questions' functions show. Assumes nothing.
use native.Mathlib.Omega.{arith}
use mathlib.Core.Path.{◌≡◌, refl, sym, ◌∙◌, subst}
use mathlib.Core.Bool.{Bool, true, false}
use Prim.Native.Nat.{ℕ}
use borrow.Author.Tests.{ne_eqb, le-ltb, lt-ltb}
use lib.Dec.{T, ltb}
use lib.Ieee.{Float, nan, inf, fin, binary64, fits, is_nan, to_bits}
use Rattle.rank_arithmetic.specs.Rank.{infinity}
use Rattle.doubles.proofs.Patterns.{pattern, ranked}
use Rattle.questions.specs.Flags.{is_set}
use Rattle.questions.specs.Questions.{plain}

-- a test that passed
pub passes : {b r : Bool} → r ≡ b → r ≡ true → T b
passes {b} e t = subst T (sym t ∙ e) tt

-- ---- `is_plain`: the pattern is below the infinity's
pub plain_bits : (x : Float) → T (fits binary64 x) → ltb (to_bits binary64 x) infinity ≡ plain x
unfolding plain to_bits is_nan
plain_bits nan h = refl
plain_bits (inf true) h = refl
plain_bits (inf false) h = refl
plain_bits (fin true m e) h = le-ltb _ _ (omega (arith, (pattern (fin true m e) tt h).bits))
plain_bits (fin false m e) h = lt-ltb _ _ (omega (arith, (pattern (fin false m e) tt h).bits, (ranked (fin false m e) tt h).small))

-- a flag of 0, and any other
pub flag_clear : (flag : ℕ) → flag ≡ 0 → is_set flag ≡ false
flag_clear flag e = rw e refl

pub flag_set : (flag : ℕ) → (flag ≡ 0 → ⊥) → is_set flag ≡ true
flag_set flag differs = rw (ne_eqb flag 0 differs) refl
