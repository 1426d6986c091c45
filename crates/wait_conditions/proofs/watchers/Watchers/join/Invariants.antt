use Rattle.std.proofs.Common.{◌≡◌, ◌≤◌, ◌++◌, ℕ, map, length, drop, false}
use Rattle.wait_conditions.specs.declared.watched_service.WatchedService.{WatchedService}
use Rattle.wait_conditions.specs.Refusal.{repeats_serial}
use Rattle.wait_conditions.specs.Watchers.{serials_of}
use Rattle.wait_conditions.proofs.Indexed.{named}
use Rattle.wait_conditions.proofs.watchers.Watchers.join.Given as goal

abbrev pub invariant-loop-service : goal.invariant-loop-service
invariant-loop-service g l = record {
  room : length (drop l.service-index l.service-items) ≤ l.self.spare_capacity;
  apart : repeats_serial (map (λ (w : WatchedService). w.sid) (drop l.service-index l.service-items)) ≡ false;
  same : (sid : ℕ) → serials_of sid l.self.watchers ++ named l.waiter.id sid (drop l.service-index l.service-items)
      ≡ serials_of sid l.fn.self.watchers ++ named l.waiter.id sid l.service-items;
}
