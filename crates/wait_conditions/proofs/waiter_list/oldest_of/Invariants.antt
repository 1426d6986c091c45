use Rattle.std.proofs.Common.{◌≡◌, drop}
use Rattle.wait_conditions.specs.Kept.{oldest_place}
use Rattle.wait_conditions.specs.WaitsFields.{waiters_view}
use Rattle.wait_conditions.specs.Watchers.{BeganInOrder}
use Rattle.wait_conditions.proofs.waiter_list.oldest_of.Given as goal

abbrev pub invariant-loop-waiter : goal.invariant-loop-waiter
invariant-loop-waiter l = record {
  began : BeganInOrder (waiters_view (drop l.waiter-index l.waiters));
  same : oldest_place (waiters_view l.waiters) ≡ oldest_place (waiters_view (drop l.waiter-index l.waiters));
}
