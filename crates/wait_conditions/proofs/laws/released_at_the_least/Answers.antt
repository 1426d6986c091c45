use Rattle.wait_conditions.proofs.Least.{released_at_least}
use Rattle.wait_conditions.proofs.laws.released_at_the_least.Goals as goal

pub returns : goal.returns
returns c a past since v h = released_at_least a past since v h
