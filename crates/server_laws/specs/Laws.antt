-- Laws that hold for every list of events of a connection.
use Rattle.std.specs.Prelude.{◌≡◌, ◌≤◌, ℕ, Bool, true, false, List, [], ◌∷◌, ◌++◌, All, length, map}
use Rattle.std.specs.List.{Contains, flat_map, list_any}
use Rattle.std.specs.declared.alloc.Global.{Global}
use Rattle.tree_core.specs.declared.input.Act.{Act}
use Rattle.tree_core.specs.declared.input.Act.TheVariants.{Cancel, Unsubscribe}
use Rattle.server_rules.specs.declared.phase.Errand.{Errand}
use Rattle.server_rules.specs.declared.phase.Errand.TheVariants as errand
use Rattle.server_rules.specs.declared.phase.ClientPhase.{ClientPhase}
use Rattle.server_rules.specs.declared.phase.ClientPhase.TheVariants.{Idle, Stepping, UnderWay, PutOff, Leaving, Cancelling, Gone}
use Rattle.server_rules.specs.declared.requests.Request.{Request}
use Rattle.server_rules.specs.declared.requests.Request.TheVariants.{Step, Status, Scan, Record, Follow, Clock}
use Rattle.server_rules.specs.declared.todo.Answer.{Answer}
use Rattle.server_rules.specs.declared.todo.Answer.TheVariants as answer
use Rattle.server_rules.specs.declared.todo.News.{News}
use Rattle.server_rules.specs.declared.todo.News.TheVariants as news
use Rattle.server_rules.specs.declared.todo.Todo.{Todo}
use Rattle.server_rules.specs.declared.todo.Todo.TheVariants.{Give, Submit, Tell}
use Rattle.server_rules.specs.Connection.{is_here}
use Rattle.server_rules.specs.Made.{Made, is_among, is_followed, nothing_made}
use Rattle.server_laws.specs.History.{Done, Event, History, Leave, Told, opened, run}

-- what was answered
abbrev pub answered_by : Todo → List Answer
answered_by (Give a) = a ∷ []
answered_by t = []

abbrev pub answers : List Done → List Answer
answers done = flat_map (λ d. answered_by d.todo) done

-- which answer a request may have: a step and a scan the reply, a status that of the same services, a record its number of steps, `follow`
-- and `clock` their own ones; and each may have an own answer of the server
abbrev pub Answers : Request → Answer → Type 0
Answers request (answer.Own o) = Unit {0}
Answers (Step act) answer.TheReply = Unit {0}
Answers Scan answer.TheReply = Unit {0}
Answers (Status subject) (answer.Status told) = told ≡ subject
Answers Record (answer.Recorded steps) = Unit {0}
Answers (Follow services) answer.Following = Unit {0}
Answers Clock answer.Clock = Unit {0}
Answers request a = ⊥

-- the answers are those of the first requests, one to one and in order, and `left` are the other requests
abbrev pub AreAnswered : List Request → List Answer → List Request → Type 0
AreAnswered requests [] left = requests ≡ left
AreAnswered [] (a ∷ given) left = ⊥
AreAnswered (r ∷ requests) (a ∷ given) left = Answers r a × AreAnswered requests given left

-- the requests that are begun and not answered, by the phase of the connection
abbrev pub IsStep : Request → Type 0
IsStep (Step act) = Unit {0}
IsStep r = ⊥

abbrev pub IsBegunOn : Errand → List Request → Type 0
IsBegunOn (errand.Step ch) begun = (act : Act Global) × (begun ≡ Step act ∷ [])
IsBegunOn (errand.Status subject) begun = begun ≡ Status subject ∷ []
IsBegunOn errand.Scan begun = begun ≡ Scan ∷ []
IsBegunOn errand.Record begun = begun ≡ Record ∷ []
IsBegunOn errand.Replacement begun = (act : Act Global) × (begun ≡ Step act ∷ [])

abbrev pub IsBegun : ClientPhase → List Request → Type 0
IsBegun Idle begun = begun ≡ []
IsBegun (Stepping n) begun = (1 ≤ n) × (length begun ≡ n) × All IsStep begun
IsBegun (UnderWay e) begun = IsBegunOn e begun
IsBegun PutOff begun = (act : Act Global) × (begun ≡ Step act ∷ [])
IsBegun phase begun = Unit {0}

-- the requests that are left are begun, or wait
pub record Pending (h : History) (left : List Request) : Type 0 where
  pub begun : List Request
  pub are : left ≡ begun ++ h.now.asked
  pub is_begun : IsBegun h.now.phase begun

-- the requests that were taken are answered one to one, in the order asked; while the client has not left, those that are left are pending
pub record AnsweredInOrder (h : History) : Type 0 where
  pub left : List Request
  pub answered : AreAnswered h.taken (answers h.done) left
  pub pending : is_here h.now.phase ≡ true → Pending h left

-- what is posted
abbrev pub posted_of : Todo → List Todo
posted_of (Give a) = Give a ∷ []
posted_of Tell = Tell ∷ []
posted_of t = []

abbrev pub posts : List Done → List Todo
posts done = flat_map (λ d. posted_of d.todo) done

-- after the client left nothing is posted any more
abbrev pub SilentOnceLeft : List Event → List Event → Type 0
SilentOnceLeft before after = posts (run (before ++ Leave ∷ after) opened).done ≡ posts (run before opened).done

-- a request for the letters of this service, by its name
abbrev pub asks_for : List ℕ → Request → Bool
asks_for name (Follow services) = is_followed name services
asks_for name r = false

-- news that were told were of a waiter or a subscription that it made, or of a service whose letters it asked for
abbrev pub was_made : News → History → Bool
was_made (news.Match m) h = is_among m.subscription h.subscriptions
was_made (news.Release r) h = is_among r.waiter h.waiters
was_made (news.Letter l) h = list_any (asks_for l.name) h.taken

abbrev pub ToldItsOwn : History → Type 0
ToldItsOwn h = (n : News) → Contains h.done (record { event = Told n; todo = Tell }) → was_made n h ≡ true

-- a connection that is gone has nothing left
abbrev pub NothingIsLeft : History → Type 0
NothingIsLeft h = h.now.phase ≡ Gone → h.now.made ≡ nothing_made

-- what is handed in
abbrev pub submitted_by : Todo → List (Act Global)
submitted_by (Submit act) = act ∷ []
submitted_by t = []

abbrev pub submitted : List Done → List (Act Global)
submitted done = flat_map (λ d. submitted_by d.todo) done

-- the acts that end all that it made: the released waiters, the others, and the subscriptions, each once
abbrev pub ends_of : Made → List (Act Global)
ends_of made = map Cancel (made.released ++ made.waiters) ++ map Unsubscribe made.subscriptions

-- the client has left, and no request of it is under way
abbrev pub is_ending : ClientPhase → Bool
is_ending Leaving = true
is_ending Cancelling = true
is_ending Gone = true
is_ending phase = false

-- the acts that are handed in from then on, and then those that end all that is left, are the acts that ended all that it had
abbrev pub EndsOnce : History → List Event → Type 0
EndsOnce h events =
    submitted (run events h).done ++ ends_of (run events h).now.made ≡ submitted h.done ++ ends_of h.now.made
