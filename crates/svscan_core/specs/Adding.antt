-- New services, before anything is changed.
use Rattle.std.specs.Prelude.{◌≡◌, ℕ, ◌+◌, ◌≤◌, List, ◌++◌, map, length}
use Rattle.s6_events.specs.declared.moment.Moment.{Moment}
use Rattle.s6_events.specs.declared.order.Order.{Order}
use Rattle.supervise_core.specs.declared.chart_state.ChartState.{ChartState}
use Rattle.supervise_core.specs.Service.{Supervised}
use Rattle.svscan_core.specs.declared.entry.Listed.{Listed}
use Rattle.svscan_core.specs.declared.event.Event.{Event}
use Rattle.svscan_core.specs.declared.moves.Moves.{Moves}
use Rattle.svscan_core.specs.declared.scan.Scanning.{Scanning}
use Rattle.svscan_core.specs.Deaths.{DeathOf, AllBefore, AllTallied}
use Rattle.svscan_core.specs.Limits.{service_limit}
use Rattle.svscan_core.specs.Moves.{moment_of}
use Rattle.svscan_core.specs.Scan.{ScanState}
use Rattle.svscan_core.specs.Sound.{AllAgree, IsNumbered}
use Rattle.svscan_core.specs.Table.{charts_of}

-- additions under way: the new services, and what the step has given
pub record Adding : Type 0 where
  pub added : List Supervised
  pub next_sid : ℕ
  pub listed : List Listed
  pub events : List Event
  pub orders : List Order

abbrev pub adding_of : {A : Type 0} → Scanning A → Moves A → Adding
adding_of scan moves =
    record {
      added = scan.added.items;
      next_sid = scan.next_sid;
      listed = scan.listed.items;
      events =
          moves.events.items;
      orders = moves.orders.items;
    }

-- the state of the scan, where these services stay and the new ones come behind them
abbrev pub state_behind : List ChartState → Adding → ScanState
state_behind retained a =
    record {
      services = retained ++ charts_of a.added;
      next_sid = a.next_sid;
      listed = a.listed;
      events =
          a.events;
      orders = a.orders;
    }

-- with these services in front: the serials are in order; a history that agreed with all services agrees again, once the new events have
-- joined it; the next serial didn't fall; and each service has the last of its deaths
pub record GoesOn (services : List Supervised) (old new : Adding) : Type 0 where
  pub order : IsNumbered new.next_sid (charts_of (services ++ new.added))
  pub agrees : (history : List Moment) → AllAgree (services ++ old.added) (history ++ map moment_of old.events)
      → AllAgree (services ++ new.added) (history ++ map moment_of new.events)
  pub later : old.next_sid ≤ new.next_sid
  pub tallies : (deaths : List DeathOf) → AllBefore old.next_sid deaths → AllTallied (services ++ old.added) deaths
      → AllTallied (services ++ new.added) deaths

-- the limit holds, and each new service took one serial and gave at most one order
pub record Grows (retained : ℕ) (old new : Adding) : Type 0 where
  pub few : retained + length new.added ≤ service_limit
  pub next : new.next_sid + length old.added ≡ old.next_sid + length new.added
  pub orders : length new.orders + length old.added ≤ length old.orders + length new.added
