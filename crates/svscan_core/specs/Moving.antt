-- A step under way: the services as it has them so far, and what it has given.
use Rattle.std.specs.Prelude.{◌≡◌, ◌≤◌, ℕ, List, [], ◌∷◌, ◌++◌, map, fold, take, drop, slice_get, slice_set, IsSomeAnd}
use Rattle.std.specs.Prelude.{Option, None, Some}
use Rattle.deadlines.specs.declared.timer.Timer.{Timer}
use Rattle.deadlines.specs.declared.timer.TimerChange.{TimerChange}
use Rattle.deadlines.specs.Timers.{with_timer_changes}
use Rattle.s6_events.specs.Clock.{clock_of}
use Rattle.s6_events.specs.declared.moment.Moment.{Moment}
use Rattle.s6_events.specs.declared.order.Order.{Order}
use Rattle.supervise_core.specs.declared.chart_state.ChartState.{ChartState}
use Rattle.supervise_core.specs.ChartState.{Moved}
use Rattle.supervise_core.specs.Service.{Supervised, with_view}
use Rattle.svscan_core.specs.declared.event.Event.{Event}
use Rattle.svscan_core.specs.declared.moves.Moves.{Moves}
use Rattle.svscan_core.specs.declared.moves.ChangedService.{ChangedService}
use Rattle.svscan_core.specs.Moves.{moment_of, events_of_move, services_after, events_after, orders_after}
use Rattle.svscan_core.specs.Deaths.{DeathOf, death_of, deaths_after, AllTallied}
use Rattle.svscan_core.specs.Sound.{AllAgree}
use Rattle.svscan_core.specs.Table.{charts_of}
use Rattle.svscan_core.specs.Timers.{timer_change_of, TimersAgree}

-- the service that was found at a place becomes what the change makes of it
abbrev pub with_view_at : ChangedService → Option Supervised → List Supervised → List Supervised
with_view_at t None services = services
with_view_at t (Some s) services = slice_set services t.place (with_view t.standing t.death s)

abbrev pub with_change : List Supervised → ChangedService → List Supervised
with_change services t = with_view_at t (slice_get services t.place) services

-- the services after all changes, one after the other
abbrev pub with_changes : List Supervised → List ChangedService → List Supervised
with_changes services touched = fold with_change services touched

-- the states of the services as the step has them so far
abbrev pub services_so_far : List Supervised → List ChangedService → List ChartState
services_so_far services touched = charts_of (with_changes services touched)

-- each change keeps the name of the service at its place
abbrev pub KeepNames : List Supervised → List ChangedService → Type 0
KeepNames services [] = Unit {0}
KeepNames services (t ∷ touched) = IsSomeAnd (slice_get services t.place) (λ s. s.chart.name ≡ t.standing.chart.name)
    × KeepNames (with_change services t) touched

-- of the changes from `before` on, none changes a service at this place or behind it
abbrev pub AreUnvisited : List Supervised → ℕ → ℕ → List ChangedService → Type 0
AreUnvisited services before place touched = (p : ℕ) → place ≤ p
    → slice_get (with_changes services (take before touched)) p ≡ slice_get (with_changes services touched) p

-- what the touched services do to the timers
abbrev pub timers_of : List ChangedService → List TimerChange
timers_of touched = map (λ t. timer_change_of t.standing.chart) touched

pub record StepSoFar : Type 0 where
  pub services : List Supervised
  pub events : List Event
  pub orders : List Order
  pub timers : List TimerChange

abbrev pub step_so_far : {A : Type 0} → List Supervised → Moves A → StepSoFar
step_so_far services m = record {
  services = with_changes services m.touched.items;
  events = m.events.items;
  orders =
      m.orders.items;
  timers = timers_of m.touched.items;
}

-- a history that agreed at this moment, with the old events, agrees again with the new ones
abbrev pub GoOnAgreeing : ℕ → StepSoFar → StepSoFar → Type 0
GoOnAgreeing now old new =
    (history : List Moment) → clock_of history ≡ now → AllAgree old.services (history ++ map moment_of old.events)
    → AllAgree new.services (history ++ map moment_of new.events)

-- timers that agreed, with the old changes made, agree again with the new ones made
abbrev pub TimersGoOn : StepSoFar → StepSoFar → Type 0
TimersGoOn old new =
    (timers : List Timer) → TimersAgree (with_timer_changes old.timers timers) (charts_of old.services)
    → TimersAgree (with_timer_changes new.timers timers) (charts_of new.services)

-- where the old services had the last of some deaths, the new ones have the last of those deaths and these
abbrev pub TalliesGoOn : StepSoFar → StepSoFar → List DeathOf → Type 0
TalliesGoOn old new more = (deaths : List DeathOf) → AllTallied old.services deaths
    → AllTallied new.services (deaths ++ more)

-- the service at a place, whose state was c, took a move
pub record TakesAt (now place : ℕ) (c : ChartState) (moved : Moved) (old new : StepSoFar) : Type 0 where
  pub services : charts_of new.services ≡ slice_set (charts_of old.services) place moved.chart
  pub events : new.events ≡ old.events ++ events_of_move c.sid moved
  pub orders : new.orders ≡ old.orders ++ moved.orders
  pub agrees : GoOnAgreeing now old new
  pub timers : TimersGoOn old new
  pub tallies : TalliesGoOn old new (map (death_of c.sid) moved.deaths)

-- each service before this place took the move
pub record TakesUpTo (now : ℕ) (move : ChartState → Moved) (place : ℕ) (old new : StepSoFar) : Type 0 where
  pub services : charts_of new.services
      ≡ services_after move (take place (charts_of old.services)) ++ drop place (charts_of old.services)
  pub events : new.events ≡ old.events ++ events_after move (take place (charts_of old.services))
  pub orders : new.orders ≡ old.orders ++ orders_after move (take place (charts_of old.services))
  pub agrees : GoOnAgreeing now old new
  pub timers : TimersGoOn old new
  pub tallies : TalliesGoOn old new (deaths_after move (take place (charts_of old.services)))

-- each service took the move
pub record Takes (now : ℕ) (move : ChartState → Moved) (old new : StepSoFar) : Type 0 where
  pub services : charts_of new.services ≡ services_after move (charts_of old.services)
  pub events : new.events ≡ old.events ++ events_after move (charts_of old.services)
  pub orders : new.orders ≡ old.orders ++ orders_after move (charts_of old.services)
  pub agrees : GoOnAgreeing now old new
  pub timers : TimersGoOn old new
  pub tallies : TalliesGoOn old new (deaths_after move (charts_of old.services))
