use Rattle.std.proofs.Common.{◌≡◌, drop}
use Rattle.wait_conditions.specs.Kept.{standing_stored}
use Rattle.wait_conditions.proofs.waiter_list.find_stored.Given as goal

abbrev pub invariant-loop-waiter : goal.invariant-loop-waiter
invariant-loop-waiter l = standing_stored l.id l.waiters ≡ standing_stored l.id (drop l.waiter-index l.waiters)
