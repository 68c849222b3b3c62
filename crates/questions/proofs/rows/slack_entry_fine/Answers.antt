-- `slack_entry_fine` meets its contract. Assumes nothing.
use mathlib.Core.Path.{refl}
use lib.Ieee.{of_bits}
use Rattle.questions.specs.RowQuestions.{slack_entry_fine}
use Rattle.questions.proofs.RowTests.{no_entries}
use Rattle.questions.proofs.rows.slack_entry_fine.Goals as goal

pub returns-in-empty : goal.returns-in-empty
returns-in-empty c = no_entries c.args.entries.now c.in-empty.len_below

pub returns-in-len1-up : goal.returns-in-len1-up
unfolding slack_entry_fine of_bits
returns-in-len1-up c = refl
