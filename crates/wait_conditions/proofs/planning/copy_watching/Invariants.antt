use Rattle.std.proofs.Common.{◌≡◌, ◌≤◌, All, filter, take, drop, map, length}
use Rattle.wait_conditions.specs.declared.watchers.Watcher.{Watcher}
use Rattle.wait_conditions.specs.WaitsFields.{IsCounted, waiters_view}
use Rattle.wait_conditions.specs.Watchers.{serials_where, watches}
use Rattle.wait_conditions.proofs.planning.copy_watching.Given as goal

abbrev pub invariant-loop-watcher : goal.invariant-loop-watcher
invariant-loop-watcher g l = record {
  within : l.start ≤ length l.waiters;
  left : map (λ (w : Watcher). w.waiter) (drop l.watcher-index l.watchers)
      ≡ serials_where (watches l.fn.sid) (drop l.start (waiters_view l.waiters));
  copies : waiters_view l.copies.items ≡ filter (watches l.fn.sid) (take l.start (waiters_view l.waiters));
  counted : All IsCounted l.copies.items;
}
