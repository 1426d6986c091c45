-- A step under way, as it is worked out.
use Rattle.std.specs.Prelude.{◌≡◌, ◌≤◌, ℕ, List, [], Bool, ◌++◌, map, length, false}
use Rattle.svscan_core.specs.declared.moves.Moves.{Moves}
use Rattle.svscan_core.specs.declared.pending.Pending.{Pending}
use Rattle.svscan_core.specs.declared.scan.Scanning.{Scanning}
use Rattle.deadlines.specs.declared.timer.TimerChange.{TimerChange}
use Rattle.deadlines.specs.declared.timer.TimerChange.TheVariants.{Clear}
use Rattle.supervise_core.specs.Service.{Supervised}
use Rattle.svscan_core.specs.Limits.{order_limit, service_limit}
use Rattle.svscan_core.specs.Moving.{timers_of}
use Rattle.svscan_core.specs.Table.{charts_of}
use Rattle.svscan_core.specs.Timers.{timer_change_of}
use Rattle.svscan_core.specs.Registry.{PlannedStep, RegistryPrepared}
use Rattle.svscan_core.specs.Scanning.{prepared_services}

-- what the step changes and gives
abbrev pub planned_of : {A : Type 0} → Pending A → PlannedStep
planned_of p = record {
  touched = p.moves.touched.items;
  dropped_names = p.scan.dropped.items;
  added = p.scan.added.items;
  next_sid = p.scan.next_sid;
  events = p.moves.events.items;
  orders = p.moves.orders.items;
  stale = p.stale;
  dropped = p.scan.dropped_sids.items;
  listed = p.scan.listed.items;
  timers = p.timers.items;
}

-- what the step does to the timers: first those of the services that it changes, then of those that leave and of those that come
abbrev pub step_timers : {A : Type 0} → Moves A → Scanning A → List TimerChange
step_timers moves scan = timers_of moves.touched.items
    ++ (map (λ sid. Clear sid) scan.dropped_sids.items ++ map timer_change_of (charts_of scan.added.items))

-- what the step would leave and give, made on these services
abbrev pub prepared_of : {A : Type 0} → List Supervised → Moves A → Scanning A → Bool → RegistryPrepared
prepared_of services moves scan stale = record {
  services = prepared_services services moves.touched.items scan.dropped.items scan.added.items;
  next_sid = scan.next_sid;
  events = moves.events.items;
  orders = moves.orders.items;
  stale = stale;
  dropped = scan.dropped_sids.items;
  listed = scan.listed.items;
  timers = step_timers moves scan;
}

-- a step adds no more services than may stand, and gives no more orders than a step may
pub record KeepsLimits {A : Type 0} (p : Pending A) : Type 0 where
  pub added : length p.scan.added.items ≤ service_limit
  pub most : length p.moves.orders.items ≤ order_limit

-- no service leaves or comes yet, and nothing is said of a listed name
pub record IsEmptyScan {A : Type 0} (s : Scanning A) : Type 0 where
  pub dropped : s.dropped.items ≡ []
  pub dropped_sids : s.dropped_sids.items ≡ []
  pub added : s.added.items ≡ []
  pub listed : s.listed.items ≡ []

-- nothing is worked out yet, and this is the next serial
pub record IsBlank {A : Type 0} (next : ℕ) (p : Pending A) : Type 0 where
  pub touched : p.moves.touched.items ≡ []
  pub events : p.moves.events.items ≡ []
  pub orders : p.moves.orders.items ≡ []
  pub scan : IsEmptyScan p.scan
  pub next_sid : p.scan.next_sid ≡ next
  pub stale : p.stale ≡ false
  pub timers : p.timers.items ≡ []
