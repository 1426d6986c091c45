-- One step of the machine.
use Rattle.std.specs.Prelude.{ℕ, ◌+◌, List, [], ◌∷◌, ◌++◌, map, max, ◌==◌, nat_lt, if◌then◌else◌}
use Rattle.event_directory.specs.Changes.{DirectoryRequest, Offer, directories_after_change, matches_of}
use Rattle.event_directory.specs.Directories.{matches_by}
use Rattle.event_directory.specs.Pattern.{finds}
use Rattle.s6_events.specs.declared.moment.Moment.{Moment}
use Rattle.s6_events.specs.declared.moment.Moment.TheVariants.{Clock}
use Rattle.s6_events.specs.declared.order.Order.{Order}
use Rattle.supervise_core.specs.declared.chart_state.ChartState.{ChartState}
use Rattle.supervise_core.specs.ChartState.{Moved}
use Rattle.supervise_core.specs.Chart.{fire_move}
use Rattle.svscan_core.specs.declared.event.Event.{Event}
use Rattle.tree_core.specs.declared.input.Act.{Act}
use Rattle.tree_core.specs.declared.input.Input.{Input}
use Rattle.tree_core.specs.declared.reply.Refusal.TheVariants.{Spent}
use Rattle.tree_core.specs.declared.reply.Reply.TheVariants.{Refused}
use Rattle.tree_core.specs.Acts.{act_result, work_of, ask_of, directory_ask_of, offer_of}
use Rattle.tree_core.specs.Listening.{Ask, watch_after, released_at_once, as_match, as_release}
use Rattle.tree_core.specs.Machine.{Machine, Outcome, directories_of, watch_of}
use Rattle.svscan_core.specs.Deaths.{deaths_given}
use Rattle.svscan_core.specs.Moves.{services_after, events_after, orders_after, moment_of}
use Rattle.svscan_core.specs.Work.{closing_after}
use Rattle.wait_conditions.specs.Steps.{releases_by}

-- the most steps of a tree: 2 ^ 48
abbrev pub step_limit : ℕ
step_limit = 281474976710656

-- the machine after a step, and what the step gave
pub record StepResult (A : Type 0) : Type 0 where
  pub machine : Machine
  pub outcome : Outcome A

-- the clock reading of a moment, if it is later than the clock
abbrev pub clock_moments : ℕ → ℕ → List Moment
clock_moments clock at = if nat_lt clock at then Clock at ∷ [] else []

-- the clock takes in the moment of an input: a later one becomes the clock and joins the history
abbrev pub with_clock : ℕ → Machine → Machine
with_clock at m = record m { clock = max m.clock at; history = m.history ++ clock_moments m.clock at }

-- every service takes a move, in rising serial, and the marks join the history
abbrev pub with_moves : (ChartState → Moved) → Machine → Machine
with_moves move m = record m {
  services = services_after move m.services;
  history =
      m.history ++ map moment_of (events_after move m.services);
}

-- an act is done: its marks join the history, and the deaths that its work reports join the deaths; after a terminate the tree is closing
abbrev pub with_act : {A : Type 0} → Act A → Machine → Machine
with_act act m = record m {
  services = (act_result act m).work.services;
  next_sid = (act_result act m).work.next_sid;
  closing = closing_after (work_of act m) m.closing;
  history = m.history ++ map moment_of (act_result act m).work.events;
  deaths = m.deaths ++ deaths_given (work_of act m) m.clock m.services;
}

-- what an act asks of the waiters is done, once all moments of the step have joined
abbrev pub with_ask : Ask → Machine → Machine
with_ask ask m = record m {
  waiters = (watch_after ask (watch_of m)).waiters;
  next_waiter =
      (watch_after ask (watch_of m)).next;
}

-- what it asks of the event directories is done then too, with the pattern that it offers
abbrev pub with_directories : DirectoryRequest → Offer → Machine → Machine
with_directories ask offer m = record m {
  directories = (directories_after_change ask offer (directories_of m)).free;
  subscriptions = (directories_after_change ask offer (directories_of m)).subscriptions;
  next_subscription = (directories_after_change ask offer (directories_of m)).next;
}

-- the act is done on the machine, after its timers gave these events and orders, and the step is counted
abbrev pub act_step : {A : Type 0} → Act A → List Event → List Order → Machine → StepResult A
act_step act events orders m = record {
  machine = record (with_directories (directory_ask_of act m) (offer_of act) (with_ask (ask_of act m) (with_act act m)))
      { steps = m.steps + 1 };
  outcome = record {
    reply = (act_result act m).reply;
    events = events ++ (act_result act m).work.events;
    orders = orders ++ (act_result act m).work.orders;
    matched = map as_match (matches_of finds (directory_ask_of act m) (directories_of (with_act act m)));
    released = map as_release (released_at_once (ask_of act m) (watch_of (with_act act m)));
  };
}

-- each service whose timer is due takes its rule once, and then the act is done
abbrev pub timed_step : {A : Type 0} → Act A → Machine → StepResult A
timed_step act m = act_step act (events_after (fire_move m.clock) m.services)
    (orders_after (fire_move m.clock) m.services) (with_moves (fire_move m.clock) m)

-- the moments that join the history in a step: the clock reading, and then the marks
abbrev pub step_moments : ℕ → ℕ → List Event → List Moment
step_moments clock at events = clock_moments clock at ++ map moment_of events

-- the subscriptions and the waiters that stood before the step look at each of its moments as it joins
abbrev pub with_listeners : {A : Type 0} → Machine → ℕ → StepResult A → StepResult A
with_listeners m at s = record {
  machine = s.machine;
  outcome = record s.outcome {
    matched = map as_match (matches_by finds (directories_of m) (step_moments m.clock at s.outcome.events))
        ++ s.outcome.matched;
    released = map as_release (releases_by (watch_of m) (step_moments m.clock at s.outcome.events))
        ++ s.outcome.released;
  };
}

-- nothing is done, and no step is counted
abbrev pub spent_outcome : {A : Type 0} → Outcome A
spent_outcome = record { reply = Refused Spent; events = []; orders = []; matched = []; released = [] }

abbrev pub spent_step : {A : Type 0} → Machine → StepResult A
spent_step m = record { machine = m; outcome = spent_outcome }

-- a step: the clock first, then the due timers, then the act, while subscriptions and waiters look on
abbrev pub step : {A : Type 0} → Machine → Input A → StepResult A
step m input = if m.steps == step_limit then spent_step m
    else with_listeners m input.at (timed_step input.act (with_clock input.at m))
