-- `from` meets its contract. Assumes nothing.
use mathlib.Core.Path.{ap, sym}
use Rattle.std.specs.Prelude.{Result}
use Rattle.sheet.specs.declared.numbers.Refusal.{Refusal}
use Rattle.sheet.specs.Numbers.{numbered}
use Rattle.verdict.specs.declared.Verdict.{Verdict}
use Rattle.ushnazar_c.specs.Answer.{told}
use Rattle.ushnazar_c.proofs.AnswerFromResultVerdictRefusal.from.Goals as goal

pub returns-in-Ok : goal.returns-in-Ok
returns-in-Ok c = sym (ap (λ (r : Result Verdict Refusal). told (numbered r)) c.in-Ok.is)
