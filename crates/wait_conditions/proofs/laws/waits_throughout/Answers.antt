use Rattle.wait_conditions.proofs.Least.{waits_at_each}
use Rattle.wait_conditions.proofs.laws.waits_throughout.Goals as goal

pub returns : goal.returns
returns c a past since h k b = waits_at_each a past since h k b
