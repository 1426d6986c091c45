use Rattle.wait_conditions.proofs.Sleeping.{releases_none}
use Rattle.wait_conditions.proofs.laws.none_before_a_deadline.Goals as goal

pub returns : goal.returns
returns c w at early = releases_none w at early
