-- `put_digits` meets its contract: the digits that are left, put before those that stand, give all. Assumes nothing.
use Rattle.std.proofs.Common.{◌≡◌}
use Rattle.std.proofs.lemmas.List.Edits.{sets}
use Rattle.printer.specs.Digits.{digits}
use Rattle.printer.proofs.numerals.put_digits.Given as goal

abbrev pub invariant-loop-left : goal.invariant-loop-left
invariant-loop-left l = sets l.initial.x l.from (digits l.radix l.width l.n) ≡ sets l.x l.from (digits l.radix l.left l.rest)
