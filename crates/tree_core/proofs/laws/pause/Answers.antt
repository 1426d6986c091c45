use Rattle.tree_core.proofs.Pausing.{pauses_after_death}
use Rattle.tree_core.proofs.laws.pause.Goals as goal

pub returns : goal.returns
returns g c = λ inputs input sid. pauses_after_death inputs input sid
