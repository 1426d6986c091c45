use Rattle.std.proofs.Common.{◌≡◌, ◌++◌, All, drop, map}
use Rattle.wait_conditions.specs.Kept.{waiter_view, releases_seen}
use Rattle.wait_conditions.specs.WaitsFields.{IsCounted}
use Rattle.wait_conditions.proofs.planning.release_all.Given as goal

abbrev pub invariant-loop-moment : goal.invariant-loop-moment
invariant-loop-moment g l = record {
  counted : All IsCounted l.waiters;
  released : releases_seen l.moments (map waiter_view l.fn.waiters)
      ≡ l.released.items ++ releases_seen (drop l.moment-index l.moments) (map waiter_view l.waiters);
}
