-- The machine: what is there now, and all that has been.
use Rattle.std.specs.Prelude.{ℕ, List, [], Bool, false}
use Rattle.s6_events.specs.declared.moment.Moment.{Moment}
use Rattle.s6_events.specs.declared.order.Order.{Order}
use Rattle.supervise_core.specs.declared.chart_state.ChartState.{ChartState}
use Rattle.svscan_core.specs.declared.event.Event.{Event}
use Rattle.event_directory.specs.Directories.{WrittenDirectories, FreeDirectory, WrittenSubscription}
use Rattle.svscan_core.specs.Deaths.{DeathOf}
use Rattle.wait_conditions.specs.Watch.{WrittenWaiter, Watch}
use Rattle.tree_core.specs.declared.effect.Match.{Match}
use Rattle.tree_core.specs.declared.effect.Release.{Release}
use Rattle.tree_core.specs.declared.reply.Reply.{Reply}

-- the state: the clock, the steps taken, whether it is closing, the standing services in rising serial, the next serial, all
-- moments so far, all deaths so far, the standing waiters in rising serial and the next serial of these, the free directories in the
-- order in which they were made, and the standing subscriptions in rising serial with the next serial of these
pub record Machine : Type 0 where
  pub clock : ℕ
  pub steps : ℕ
  pub closing : Bool
  pub services : List ChartState
  pub next_sid : ℕ
  pub history : List Moment
  pub deaths : List DeathOf
  pub waiters : List WrittenWaiter
  pub next_waiter : ℕ
  pub directories : List FreeDirectory
  pub subscriptions : List WrittenSubscription
  pub next_subscription : ℕ

-- before any input
abbrev pub new_machine : Machine
new_machine = record {
  clock = 0;
  steps = 0;
  closing = false;
  services = [];
  next_sid = 1;
  history = [];
  deaths = [];
  waiters = [];
  next_waiter = 1;
  directories = [];
  subscriptions = [];
  next_subscription = 1;
}

-- its waiters with these moments as the history, and with its own history
abbrev pub watch_at : List Moment → Machine → Watch
watch_at history m = record { history = history; waiters = m.waiters; next = m.next_waiter }

abbrev pub watch_of : Machine → Watch
watch_of m = watch_at m.history m

-- its event directories with these moments as the history, and with its own history
abbrev pub directories_at : List Moment → Machine → WrittenDirectories
directories_at history m = record {
  history = history;
  free = m.directories;
  subscriptions = m.subscriptions;
  next =
      m.next_subscription;
}

abbrev pub directories_of : Machine → WrittenDirectories
directories_of m = directories_at m.history m

-- what a step gives
pub record Outcome (A : Type 0) : Type 0 where
  pub reply : Reply A
  pub events : List Event
  pub orders : List Order
  pub matched : List Match
  pub released : List Release
