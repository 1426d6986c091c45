use Rattle.server_laws.proofs.Left.{nothing_left}
use Rattle.server_laws.proofs.nothing_is_left.Goals as goal

pub returns : goal.returns
returns c = λ events. nothing_left events
