-- `cdouble_add_scaled` meets its contract. Assumes nothing.
use Rattle.ushnazar_c.proofs.cdouble_add_scaled.Goals as goal

pub returns : goal.returns
returns c = c.cdouble_add_scaled.ensures
