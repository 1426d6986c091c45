use Rattle.tree_core.proofs.RestsOn.{rests_after_failure}
use Rattle.tree_core.proofs.laws.permanent.Goals as goal

pub returns : goal.returns
returns g c = λ inputs input sid. rests_after_failure inputs input sid
