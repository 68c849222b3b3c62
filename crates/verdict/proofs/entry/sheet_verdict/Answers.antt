-- `sheet_verdict` meets its contract. Assumes nothing.
use mathlib.Core.Path.{ap, ◌∙◌}
use Prim.Native.Nat.{ℕ}
use Rattle.questions.specs.Marks.{marks_of}
use Rattle.verdict.proofs.entry.sheet_verdict.Goals as goal

pub returns-clause-promised : goal.returns-clause-promised
returns-clause-promised c =
    let list = c.args.widened.now in
    c.verdict_on.ensures.promised list (c.search-marks.ensures ∙ ap (λ (count : ℕ). marks_of count list) c.variable_count.ensures)
