use Rattle.tree_core.proofs.Closed.{stays_closed}
use Rattle.tree_core.proofs.laws.closing.Goals as goal

pub returns : goal.returns
returns g c = λ m input later h. stays_closed m input later h
