-- `AtMost k` is what IEEE 754's comparison of the absolute value with 2 ^ k says. Assumes nothing.
use Rattle.std.proofs.Common.{◌≡◌, ℕ, ◌+◌, ◌*◌, ◌^◌, false, T, ◌↔◌, pos, sym, ap, ◌∙◌, div-one, arith, pow-add}
use lib.Ieee.{Float, nan, inf, fin, binary64, fits, le, lt, eq}
use Rattle.exact.specs.Value.{magnitude, exact}
use Rattle.exact.proofs.Order.{pos_≼}
use Rattle.exact.proofs.Compare.{le-exact}
use Rattle.doubles.specs.Compare.{absolute}
use Rattle.doubles.proofs.Tests.{fits-sign}
use Rattle.doubles.proofs.Choice.{absolute-exact}
use Rattle.cdouble.specs.Exactness.{AtMost}

abbrev power : ℕ → Float
power k = fin false 1 (pos k)

exact_power : (k : ℕ) → exact (power k) ≡ pos (2 ^ (1074 + k))
unfolding exact magnitude
exact_power k = ap pos (div-one (1 * 2 ^ k * 2 ^ 1074) ∙ turn (2 ^ k) (2 ^ 1074) ∙ sym (pow-add 2 1074 k))
  where
    turn : (a b : ℕ) → 1 * a * b ≡ b * a
    turn a b = omega arith

-- a finite double, by exact values; no other is at most a power of two
pub at_most_le : (k : ℕ) (x : Float) → T (fits binary64 x) → T (fits binary64 (power k)) → T (le (absolute x) (power k)) ↔ AtMost k x
unfolding le lt eq absolute
at_most_le k nan h hp = (λ t. absurd t, λ R. absurd R.is_finite)
at_most_le k (inf s) h hp = (λ t. absurd t, λ R. absurd R.is_finite)
at_most_le k (fin s m e) h hp =
    let x = fin s m e in
    let w : exact (absolute x) ≡ pos (magnitude x) = absolute-exact x in
    let c = le-exact (absolute x) (power k) tt tt (fits-sign s false m e h) hp in
    let n = pos_≼ (magnitude x) (2 ^ (1074 + k)) in
    (λ t. record { is_finite = tt; cap = n.0 (rw (w, exact_power k) at (c.0 t)) }, λ R. c.1 (rw (w, exact_power k) (n.1 R.cap)))
