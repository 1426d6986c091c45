use Rattle.std.proofs.Common.{◌∙◌}
use Rattle.wait_conditions.proofs.Named.{standing_seen}
use Rattle.wait_conditions.proofs.waiter_list.find_standing.Goals as goal

pub returns : goal.returns
returns c = c.find_stored.ensures ∙ standing_seen c.args.id c.args.waiters.now
