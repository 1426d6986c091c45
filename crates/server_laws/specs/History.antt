-- What a connection was asked, what it made, and what was to be done for it, over any list of events.
use Rattle.std.specs.Prelude.{ℕ, List, [], ◌∷◌, ◌++◌, if◌then◌else◌}
use Rattle.std.specs.declared.alloc.Global.{Global}
use Rattle.tree_core.specs.declared.reply.Reply.{Reply}
use Rattle.tree_core.specs.declared.reply.Reply.TheVariants as reply
use Rattle.server_rules.specs.declared.own_answer.OwnAnswer.{OwnAnswer}
use Rattle.server_rules.specs.declared.phase.Errand.{Errand}
use Rattle.server_rules.specs.declared.phase.Errand.TheVariants as errand
use Rattle.server_rules.specs.declared.phase.ClientPhase.{ClientPhase}
use Rattle.server_rules.specs.declared.phase.ClientPhase.TheVariants.{UnderWay, Left}
use Rattle.server_rules.specs.declared.requests.Request.{Request}
use Rattle.server_rules.specs.declared.made_things.MadeChange.{MadeChange}
use Rattle.server_rules.specs.declared.made_things.MadeChange.TheVariants as change
use Rattle.server_rules.specs.declared.todo.News.{News}
use Rattle.server_rules.specs.declared.todo.Todo.{Todo}
use Rattle.server_rules.specs.Connection.{View, Moved, new_view, stays, takes_requests, ask_next, leave_next}
use Rattle.server_rules.specs.NewsTold.{told_move}
use Rattle.server_rules.specs.ErrandEnds.{answered_move, recorded_move, refuse_errand_move, refuse_next_move}
use Rattle.server_rules.specs.Begin.{begin_move}
use Rattle.server_rules.specs.Made.{Made, nothing_made}

-- what happens to a connection; moments are in milliseconds
pub data Event : Type 0 where
  Ask : List Request → Event
  Begin : (last_step now : ℕ) → Event
  Answered : Reply Global → Event
  Recorded : (steps : ℕ) → Event
  RefuseErrand : OwnAnswer → Event
  RefuseNext : OwnAnswer → Event
  Told : News → Event
  Leave : Event

-- the chart's equation for each event
abbrev pub moved_by : Event → View → Moved
moved_by (Ask coming) c = stays (ask_next coming c)
moved_by (Begin last_step now) c = begin_move last_step now c
moved_by (Answered r) c = answered_move r c
moved_by (Recorded steps) c = recorded_move steps c
moved_by (RefuseErrand o) c = refuse_errand_move o c
moved_by (RefuseNext o) c = refuse_next_move o c
moved_by (Told n) c = told_move n c
moved_by Leave c = stays (leave_next c)

-- the requests that are taken
abbrev pub taken_by : Event → View → List Request
taken_by (Ask coming) c = if takes_requests c then coming else []
taken_by event c = []

-- the serial of what a step made, as the reply to it says
abbrev pub made_by_reply : MadeChange → Reply Global → Made
made_by_reply change.MakesWaiter (reply.Waiter id) = record nothing_made { waiters = id ∷ [] }
made_by_reply change.MakesSubscription (reply.Subscription id) = record nothing_made { subscriptions = id ∷ [] }
made_by_reply ch r = nothing_made

abbrev pub made_on : Errand → Reply Global → Made
made_on (errand.Step ch) r = made_by_reply ch r
made_on e r = nothing_made

abbrev pub made_in : ClientPhase → Event → Made
made_in (UnderWay e) (Answered r) = made_on e r
made_in (Left e) (Answered r) = made_on e r
made_in phase event = nothing_made

-- an event, and what was to be done
pub record Done : Type 0 where
  pub event : Event
  pub todo : Todo

-- the connection, every request that it took, the serials of all that it ever made, and all that was to be done, each in order
pub record History : Type 0 where
  pub now : View
  pub taken : List Request
  pub waiters : List ℕ
  pub subscriptions : List ℕ
  pub done : List Done

-- the history of a connection that was just opened
abbrev pub opened : History
opened = record { now = new_view; taken = []; waiters = []; subscriptions = []; done = [] }

abbrev pub happens : History → Event → History
happens h event = record {
  now = (moved_by event h.now).next;
  taken = h.taken ++ taken_by event h.now;
  waiters = h.waiters ++ (made_in h.now.phase event).waiters;
  subscriptions = h.subscriptions ++ (made_in h.now.phase event).subscriptions;
  done = h.done ++ record { event = event; todo = (moved_by event h.now).todo } ∷ [];
}

-- one event after another
abbrev pub run : List Event → History → History
run [] h = h
run (event ∷ events) h = run events (happens h event)
