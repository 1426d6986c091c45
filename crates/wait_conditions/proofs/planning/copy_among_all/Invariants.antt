use Rattle.std.proofs.Common.{◌≡◌, All, filter, take}
use Rattle.wait_conditions.specs.WaitsFields.{IsCounted, waiters_view}
use Rattle.wait_conditions.specs.Watchers.{touched_by}
use Rattle.wait_conditions.proofs.planning.copy_among_all.Given as goal

abbrev pub invariant-loop-waiter : goal.invariant-loop-waiter
invariant-loop-waiter g l = record {
  copies : waiters_view l.copies.items ≡ filter (touched_by l.moments) (waiters_view (take l.waiter-index l.waiters));
  counted : All IsCounted l.copies.items;
}
