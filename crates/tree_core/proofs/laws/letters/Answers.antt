use Rattle.tree_core.proofs.Spelled.{spells}
use Rattle.tree_core.proofs.laws.letters.Goals as goal

pub returns : goal.returns
returns g c = λ inputs sid. spells inputs sid
