use Rattle.std.proofs.Common.{take}
use Rattle.wait_conditions.specs.WaitsFields.{waiters_view}
use Rattle.wait_conditions.specs.Watchers.{AreDueFrom}
use Rattle.wait_conditions.proofs.waiter_list.least_deadline.Given as goal

abbrev pub invariant-loop-waiter : goal.invariant-loop-waiter
invariant-loop-waiter l = AreDueFrom l.due (waiters_view (take l.waiter-index l.waiters))
