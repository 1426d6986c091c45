use Rattle.std.proofs.Common.{◌≡◌, map, take}
use Rattle.wait_conditions.specs.WaitsFields.{waiters_view}
use Rattle.wait_conditions.proofs.planning.list_serials.Given as goal

abbrev pub invariant-loop-waiter : goal.invariant-loop-waiter
invariant-loop-waiter g l = l.serials.items ≡ map (λ k. k.id) (waiters_view (take l.waiter-index l.waiters))
