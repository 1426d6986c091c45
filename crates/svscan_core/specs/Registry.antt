-- What a contract sees of a registry, and of a step that it worked out.
use Rattle.std.specs.Prelude.{◌≡◌, ◌≤◌, ℕ, List, [], Bool, false, length}
use Rattle.deadlines.specs.declared.timer.TimerChange.{TimerChange}
use Rattle.s6_events.specs.declared.order.Order.{Order}
use Rattle.supervise_core.specs.Service.{Supervised}
use Rattle.svscan_core.specs.declared.entry.Listed.{Listed}
use Rattle.svscan_core.specs.declared.event.Event.{Event}
use Rattle.svscan_core.specs.declared.moves.ChangedService.{ChangedService}
use Rattle.svscan_core.specs.Moving.{KeepNames}
use Rattle.svscan_core.specs.Scanning.{prepared_services}
use Rattle.svscan_core.specs.Sound.{IsSound}
use Rattle.svscan_core.specs.Table.{Table, charts_of}
use Rattle.svscan_core.specs.Work.{WorkResult}

-- a step that is worked out: the services that it changes, those that it drops and adds, and what it gives
pub record PlannedStep : Type 0 where
  pub touched : List ChangedService
  pub dropped_names : List (List ℕ)
  pub added : List Supervised
  pub next_sid : ℕ
  pub events : List Event
  pub orders : List Order
  pub stale : Bool
  pub dropped : List ℕ
  pub listed : List Listed
  pub timers : List TimerChange

-- what it shows, how many more services can be added without more memory, the step that was worked out last, and the number of its plan
pub record RegistryView : Type 0 where
  pub shown : Table
  pub room : ℕ
  pub planned : PlannedStep
  pub number : ℕ

-- what a commit would leave, what is answered, and what it does to the timers
pub record RegistryPrepared : Type 0 where
  pub services : List Supervised
  pub next_sid : ℕ
  pub events : List Event
  pub orders : List Order
  pub stale : Bool
  pub dropped : List ℕ
  pub listed : List Listed
  pub timers : List TimerChange

-- what the step would leave and give, made on these services
abbrev pub registry_prepared : List Supervised → PlannedStep → RegistryPrepared
registry_prepared services plan = record {
  services = prepared_services services plan.touched plan.dropped_names plan.added;
  next_sid = plan.next_sid;
  events = plan.events;
  orders = plan.orders;
  stale = plan.stale;
  dropped = plan.dropped;
  listed = plan.listed;
  timers = plan.timers;
}

-- the table that a commit would leave
abbrev pub table_of : RegistryPrepared → Table
table_of p = record { services = p.services; next_sid = p.next_sid }

-- the states of the services that a commit would leave, and what is answered
abbrev pub result_of : RegistryPrepared → WorkResult
result_of p = record {
  services = charts_of p.services;
  next_sid = p.next_sid;
  events = p.events;
  orders = p.orders;
  stale = p.stale;
  dropped = p.dropped;
  listed = p.listed;
}

-- a step that changes and gives nothing leaves the services as they stand
abbrev pub idle_of : Table → RegistryPrepared
idle_of t = record {
  services = t.services;
  next_sid = t.next_sid;
  events = [];
  orders = [];
  stale = false;
  dropped = [];
  listed = [];
  timers = [];
}

-- the table that a commit would leave is sound
abbrev pub IsSoundTable : RegistryPrepared → Type 0
IsSoundTable p = IsSound p.next_sid (charts_of p.services)

-- the step can be made on the services that stand: each that it changes keeps its name, there is room for those that it adds, and what
-- it leaves is sound
pub record Fits (r : RegistryView) (plan : PlannedStep) : Type 0 where
  pub names : KeepNames r.shown.services plan.touched
  pub room : length plan.added ≤ r.room
  pub sound : IsSoundTable (registry_prepared r.shown.services plan)

-- the plan is that of the step that was worked out last, and this can be made
pub record IsPlanOf (r : RegistryView) (plan : ℕ) : Type 0 where
  pub number : plan ≡ r.number
  pub fits : Fits r r.planned
