-- Texts stored byte by byte, from the front or from the back. Assumes nothing.
use mathlib.Core.Path.{◌≡◌, sym, ◌∙◌}
use mathlib.Core.List.{List, [], ◌∷◌, ◌++◌}
use Prim.Native.Nat.{ℕ, zero, suc, ◌+◌, ◌-◌, ◌/◌, ◌%◌, ◌<◌, ◌≤◌}
use native.Mathlib.Nat.{add-zero, zero-add}
use native.Mathlib.Numerals.{add-one}
use native.Mathlib.Omega.{arith}
use lib.ListN.{length, set, get_or, take, length-append}
use Rattle.std.proofs.lemmas.List.{length-take-le}
use lib.Seq.{sets, set_comm, sets-eq, take-suc, take_at}
use Rattle.repeats.proofs.Stores.{sets_append}
use Rattle.printer.specs.Digits.{digit_byte, digits}
use Rattle.printer.specs.Stored.{Stored}
use Rattle.printer.proofs.Lengths.{length_digits}

-- two texts one after the other
pub then : {x y z a b : List ℕ} {from p q : ℕ} → Stored x y from p a → Stored y z p q b → Stored x z from q (a ++ b)
then {x} {y} {z} {a} {b} {from} {p} {q} s t =
    record {
      place = simp length-append (omega (arith, s.place, t.place));
      list = t.list ∙ rw (s.list, s.place) (sym (sets_append x from a b));
    }

-- the last of a text may be stored first
sets_last : {A : Type 0} (l : List A) (from : ℕ) (d : List A) (c : A) → sets l from (d ++ (c ∷ [])) ≡ sets (set l (from + length d) c) from d
sets_last l from [] c = rw add-zero
sets_last l from (x ∷ d) c =
    let e : suc from + length d ≡ from + suc (length d) = omega arith in
    let n : from ≡ from + suc (length d) → ⊥ = λ z. omega arith in
    sets_last (set l from x) (suc from) d c ∙ rw (e, set_comm l from (from + suc (length d)) x c n)

pub last_digit : (l : List ℕ) (from radix left n : ℕ) → 0 < left
    → sets l from (digits radix left n) ≡ sets (set l (from + (left - 1)) (digit_byte (n % radix))) from (digits radix (left - 1) (n / radix))
unfolding digits
last_digit l from radix zero n h = absurd (omega arith)
last_digit l from radix (suc left) n h =
    let e : suc left - 1 ≡ left = omega arith in
    rw e (sets_last l from (digits radix left (n / radix)) (digit_byte (n % radix)) ∙ rw (length_digits radix left (n / radix)))

-- a byte more of a text stored from its front
pub next_byte : {x y : List ℕ} (before : List ℕ) (from : ℕ) (text : List ℕ) (i : ℕ) → x ≡ sets before from (take i text)
    → y ≡ set x (from + i) (get_or text i 0) → i < length text → y ≡ sets before from (take (i + 1) text)
next_byte {x} {y} before from text i s e h =
    let k : length (take i text) ≡ i = length-take-le i text (omega arith) in
    rw (add-one, take-suc text i 0 h, sets_append before from (take i text) _, ← s, k) e

-- a text that was stored at the front of a list is the list's front
pub front : {before after text : List ℕ} {next : ℕ} → Stored before after 0 next text → next ≤ length before → take next after ≡ text
front {before} {after} {text} {next} s h =
    let e : next ≡ length text = s.place ∙ zero-add _ in
    let k : 0 + length text ≤ length before = omega arith in
    rw (s.list, sets-eq text before 0 k) (take_at text _ next (sym e))
