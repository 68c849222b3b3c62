-- `tables::numbers` reads each number at its place: so far as the loop has come, the numbers are there. Assumes nothing.
use Rattle.std.proofs.Common.{ℕ, ◌≡◌, ◌+◌, ◌*◌, ◌<◌, get_or, length, Some, true}
use Rattle.tables.specs.Table.{digits, spelled}
use Rattle.tables.proofs.numbers.Given as goal

abbrev pub invariant-loop-i : goal.invariant-loop-i
invariant-loop-i g l =
    record {
      long : length l.place-items ≡ l.i-end;
      spelt : spelled l.line l.i ≡ true;
      read : (k : ℕ) → k < l.i → digits l.line 16 0 (2 + 17 * k) ≡ Some (get_or l.place-items k 0);
    }
