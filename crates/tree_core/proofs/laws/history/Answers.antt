use Rattle.tree_core.proofs.HistoryGrows.{grows}
use Rattle.tree_core.proofs.laws.history.Goals as goal

pub returns : goal.returns
returns g c = λ m input. grows m input
