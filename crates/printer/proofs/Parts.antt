-- No answer is longer than 256 bytes, and what is lent afterwards, where it fits. Assumes nothing.
use mathlib.Core.Path.{◌≡◌, ◌∙◌}
use mathlib.Core.Bool.{Bool, true, false}
use mathlib.Core.List.{List}
use Prim.Native.Nat.{ℕ, ◌-◌, ◌≤◌}
use native.Mathlib.Nat.{zero-add, sub-zero}
use native.Mathlib.Omega.{arith}
use borrow.Author.Tests.{le-leb}
use lib.ListN.{length, take, length-append}
use Rattle.std.specs.Prelude.{Result, Ok, Err}
use Rattle.verdict.specs.declared.Verdict.{Verdict}
use Rattle.printer.specs.Stored.{Stored}
use Rattle.printer.specs.Answer.{line, yes_or_no, refusal_line, nine_lines, answer_text, written_if_fits}
use Rattle.printer.proofs.Lengths.{length-hexadecimal, decimal_short}
use Rattle.printer.proofs.Storing.{front}

flag_short : (b : Bool) → length (yes_or_no b) ≤ 3
flag_short true = omega arith
flag_short false = omega arith

pub answer_short : (answer : Result Verdict ℕ) → length (answer_text answer) ≤ 256
unfolding nine_lines refusal_line line
answer_short (Ok v) =
    simp (length-append, length-hexadecimal) (omega (
      arith,
      flag_short v.proof.holds,
      decimal_short v.proof.zero_within_error,
      decimal_short v.proof.multipliers_zeroed,
      decimal_short v.proof.rows,
      flag_short v.declined,
    ))
answer_short (Err number) = simp length-append (omega (arith, decimal_short number))

-- a text put at the front of an array, and from there at the front of a slice that has room for it
pub written : {blank whole text out after : List ℕ} {end next : ℕ} → Stored blank whole 0 end text → end ≤ length blank → Stored out after 0 next (take (end - 0) whole)
    → end ≤ length out → after ≡ written_if_fits text out
written {text = text} {out = out} {end = end} s h t k =
    let e : end ≡ length text = s.place ∙ zero-add _ in
    t.list ∙ rw (sub-zero, front s h) (rw (le-leb (length text) (length out) (rw e at k)))
