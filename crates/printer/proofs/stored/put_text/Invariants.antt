-- `put_text` meets its contract: so far as the loop has come, the text stands at its place. Assumes nothing.
use Rattle.std.proofs.Common.{◌≡◌, take}
use Rattle.std.proofs.lemmas.List.Edits.{sets}
use Rattle.printer.proofs.stored.put_text.Given as goal

abbrev pub invariant-loop-i : goal.invariant-loop-i
invariant-loop-i l = l.x ≡ sets l.initial.x l.from (take l.i l.text)
