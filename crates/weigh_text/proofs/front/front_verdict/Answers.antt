-- `front_verdict` meets its contract. Assumes nothing.
use Rattle.weigh_text.proofs.front.front_verdict.Goals as goal

pub returns : goal.returns
returns c widened said =
    rw (← c.min-rows.ensures, ← c.min-structurals.ensures, ← c.min-entry_count.ensures) (c.verdict_on.ensures.promised widened said).answer_is
