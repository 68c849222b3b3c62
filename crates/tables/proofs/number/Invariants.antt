-- `tables::number` reads what the digits spell: the digits that are left, after those that gave `value`, are worth what all are, and
-- `value` is below 16^k after k digits. Assumes nothing.
use Rattle.std.proofs.Common.{◌≡◌, ◌+◌, ◌-◌, ◌<◌, ◌^◌}
use Rattle.tables.specs.Table.{digits}
use Rattle.tables.proofs.number.Given as goal

abbrev pub invariant-loop-byte : goal.invariant-loop-byte
invariant-loop-byte l =
    record {
      spelt : digits l.fn.s 16 0 l.at ≡ digits l.fn.s (16 - l.byte-index) l.value (l.at + l.byte-index);
      small : l.value < 16 ^ l.byte-index;
    }
