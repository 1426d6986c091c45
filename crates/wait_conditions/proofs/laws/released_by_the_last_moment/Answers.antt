use Rattle.wait_conditions.proofs.Least.{released_by_last}
use Rattle.wait_conditions.proofs.laws.released_by_the_last_moment.Goals as goal

pub returns : goal.returns
returns c a past since m v waits h = released_by_last a past since m v waits h
