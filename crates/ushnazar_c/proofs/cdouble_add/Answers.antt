-- `cdouble_add` meets its contract. Assumes nothing.
use Rattle.ushnazar_c.proofs.cdouble_add.Goals as goal

pub returns : goal.returns
returns c = c.cdouble_add.ensures
