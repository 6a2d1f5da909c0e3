use Rattle.rules.proofs.Orders.{any_order}
use Rattle.rules.proofs.laws.any_order.Goals as goal

pub returns : goal.returns
returns c = any_order
