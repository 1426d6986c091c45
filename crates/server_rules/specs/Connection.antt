-- The chart of a connection: one equation a phase and cause. docs/PROTOCOL.md says the same in words. Here are asking and leaving; what is
-- begun is in Begin, how it ends in ErrandEnds, and what is told in NewsTold.
use Rattle.std.specs.Prelude.{◌&&◌, List, [], ◌∷◌, Bool, true, false, if◌then◌else◌}
use Rattle.std.specs.declared.alloc.Global.{Global}
use Rattle.tree_core.specs.declared.input.Act.{Act}
use Rattle.server_rules.specs.declared.phase.Errand.{Errand}
use Rattle.server_rules.specs.declared.phase.Errand.TheVariants as errand
use Rattle.server_rules.specs.declared.phase.ClientPhase.{ClientPhase}
use Rattle.server_rules.specs.declared.phase.ClientPhase.TheVariants.{Idle, Stepping, UnderWay, PutOff, LeftStepping, Left, Leaving}
use Rattle.server_rules.specs.declared.requests.Request.{Request}
use Rattle.server_rules.specs.declared.todo.Answer.{Answer}
use Rattle.server_rules.specs.declared.todo.Todo.{Todo}
use Rattle.server_rules.specs.declared.todo.Todo.TheVariants as todo
use Rattle.server_rules.specs.Made.{Made, nothing_made, has_place, has_room_for}

-- its phase, the requests that aren't begun, in the order asked, and what it made
pub record View : Type 0 where
  pub phase : ClientPhase
  pub asked : List Request
  pub made : Made

abbrev pub new_view : View
new_view = record { phase = Idle; asked = []; made = nothing_made }

-- the connection after the event, and what is to be done
pub record Moved : Type 0 where
  pub next : View
  pub todo : Todo

abbrev pub stays : View → Moved
stays c = record { next = c; todo = todo.Nothing }

-- ASK: the requests are taken, if the client has not left and all that it asked before are begun; else they stay where they are
abbrev pub has_begun_all : List Request → Bool
has_begun_all [] = true
has_begun_all (r ∷ asked) = false

abbrev pub is_here : ClientPhase → Bool
is_here Idle = true
is_here (Stepping n) = true
is_here (UnderWay e) = true
is_here PutOff = true
is_here phase = false

abbrev pub takes_requests : View → Bool
takes_requests c = is_here c.phase && has_begun_all c.asked

abbrev pub ask_next : List Request → View → View
ask_next coming c = if takes_requests c then record c { asked = coming } else c

abbrev pub left_unasked : List Request → View → List Request
left_unasked coming c = if takes_requests c then [] else coming

-- an act is handed in for an errand, or the client is answered at once
abbrev pub hands_in : Errand → Act Global → View → Moved
hands_in e act c = record { next = record c { phase = UnderWay e }; todo = todo.Submit act }

abbrev pub answers_by : Answer → View → Moved
answers_by a c = record { next = c; todo = todo.Give a }

-- LEAVE: requests that aren't begun are dropped, and all that the connection made is ended once nothing is under way
abbrev pub leave_in : ClientPhase → View → View
leave_in Idle c = record c { phase = Leaving; asked = [] }
leave_in (Stepping n) c = record c { phase = LeftStepping n; asked = [] }
leave_in (UnderWay e) c = record c { phase = Left e; asked = [] }
leave_in PutOff c = record c { phase = Leaving; asked = [] }
leave_in phase c = c

abbrev pub leave_next : View → View
leave_next c = leave_in c.phase c

-- there is something to begin
abbrev pub is_ready_in : ClientPhase → List Request → Bool
is_ready_in Idle [] = false
is_ready_in Idle (r ∷ asked) = true
is_ready_in PutOff asked = true
is_ready_in Leaving asked = true
is_ready_in phase asked = false

abbrev pub is_ready : View → Bool
is_ready c = is_ready_in c.phase c.asked

-- there is room for what a step under way makes
abbrev pub has_room_on : Errand → Made → Bool
has_room_on (errand.Step ch) made = has_room_for ch made
has_room_on errand.Replacement made = has_place made
has_room_on e made = true

abbrev pub has_room_in : ClientPhase → Made → Bool
has_room_in (UnderWay e) made = has_room_on e made
has_room_in PutOff made = has_place made
has_room_in (Left e) made = has_room_on e made
has_room_in phase made = true
