use Rattle.server_laws.proofs.InOrder.{in_order}
use Rattle.server_laws.proofs.answered_in_order.Goals as goal

pub returns : goal.returns
returns c = λ events. in_order events
