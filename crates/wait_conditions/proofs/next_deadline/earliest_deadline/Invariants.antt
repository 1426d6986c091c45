use Rattle.std.proofs.Common.{◌≡◌, map, take}
use Rattle.wait_conditions.specs.NextDeadline.{earliest, stored_until}
use Rattle.wait_conditions.specs.WaitsFields.{waiters_view}
use Rattle.wait_conditions.proofs.next_deadline.earliest_deadline.Given as goal

abbrev pub invariant-loop-waiter : goal.invariant-loop-waiter
invariant-loop-waiter l = l.next ≡ earliest (map stored_until (waiters_view (take l.waiter-index l.waiters)))
