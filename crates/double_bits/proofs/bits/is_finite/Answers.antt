-- `is_finite` meets its contract. Assumes nothing.
use mathlib.Core.Path.{◌≡◌, refl, ap, ◌∙◌}
use Prim.Native.Nat.{ℕ, ◌%◌, ◌^◌}
use lib.Dec.{T, ltb}
use lib.Ieee.{Float, nan, inf, fin, binary64, fits, is_nan, to_bits}
use lib.Ieee.Scale.{finite}
use Rattle.rank_arithmetic.specs.Rank.{infinity}
use Rattle.doubles.proofs.Tests.{fit, finite_test}
use Rattle.double_bits.proofs.bits.is_finite.Goals as goal

finite_bits : (x : Float) → T (fits binary64 x) → ltb (to_bits binary64 x % 2 ^ 63) infinity ≡ finite x
unfolding is_nan to_bits
finite_bits nan h = refl
finite_bits (inf s) h = finite_test (inf s) tt h
finite_bits (fin s m e) h = finite_test (fin s m e) tt h

pub returns : goal.returns
returns c = ap (λ (b : ℕ). ltb (b % 2 ^ 63) infinity) c.f64_to_bits_with_nan.ensures ∙ finite_bits c.args.x (fit c.args.x c.well_formed.0.1)
