use Rattle.tree_core.proofs.OneByOne.{has_one_life}
use Rattle.tree_core.proofs.laws.one_life.Goals as goal

pub returns : goal.returns
returns g c = λ inputs input sid. has_one_life inputs input sid
