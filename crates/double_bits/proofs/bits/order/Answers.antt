-- `order` meets its contract. Assumes nothing.
use Rattle.doubles.proofs.Tests.{fit}
use Rattle.doubles.proofs.Keys.{order_room}
use Rattle.double_bits.proofs.bits.order.Goals as goal

pub overflow_sub-result-else-b-lt-SIGN : goal.overflow_sub-result-else-b-lt-SIGN
overflow_sub-result-else-b-lt-SIGN c = order_room c.args.x c.requires (fit c.args.x c.well_formed.0.1)
