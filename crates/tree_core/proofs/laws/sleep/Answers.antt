use Rattle.tree_core.proofs.Sleeping.{sleeps}
use Rattle.tree_core.proofs.laws.sleep.Goals as goal

pub returns : goal.returns
returns g c = λ m input. sleeps m input
