-- `number` reads digits: what those read spell, with those still to be read, is the whole. Assumes nothing.
use mathlib.Core.Path.{◌≡◌}
use Prim.Native.Nat.{◌-◌, ◌<◌, ◌^◌}
use Rattle.text_items.specs.Numbers.{digits}
use Rattle.text_items.proofs.numbers.number.Given as goal

abbrev pub invariant-loop-done : goal.invariant-loop-done
invariant-loop-done l = (digits l.text l.radix l.most 0 l.start ≡ digits l.text l.radix (l.most - l.done) l.value l.next) × (l.value < 16 ^ l.done)
