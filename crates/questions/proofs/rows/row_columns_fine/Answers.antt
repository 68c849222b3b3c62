-- `row_columns_fine` meets its contract. Assumes nothing.
use mathlib.Core.Path.{refl}
use borrow.Author.Tests.{le-leb, lt-leb}
use lib.ListN.{length}
use Rattle.questions.specs.RowQuestions.{row_columns_fine}
use Rattle.questions.proofs.rows.row_columns_fine.Goals as goal

pub returns-in-empty : goal.returns-in-empty
unfolding row_columns_fine
returns-in-empty c = rw (lt-leb 1 (length c.args.columns.now) c.in-empty.len_below) refl

pub returns-in-len1-up : goal.returns-in-len1-up
unfolding row_columns_fine
returns-in-len1-up c = rw (c.ascending.ensures, le-leb 1 (length c.args.columns.now) c.in-len1-up.len_at_least) refl
