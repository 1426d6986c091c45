-- BEGIN: the request that was asked first is handed in, or answered at once; a wait that was put off is handed in; and what a client that
-- left has made is ended, one after the other.
use Rattle.std.specs.Prelude.{ℕ, ◌+◌, nat_lt, List, [], ◌∷◌, Bool, true, false, Option, Some, None, if◌then◌else◌}
use Rattle.std.specs.declared.alloc.Global.{Global}
use Rattle.tree_core.specs.declared.input.Act.{Act}
use Rattle.tree_core.specs.declared.input.Act.TheVariants.{Cancel, Tick}
use Rattle.server_rules.specs.declared.own_answer.OwnAnswer.TheVariants as own
use Rattle.server_rules.specs.declared.phase.Errand.TheVariants as errand
use Rattle.server_rules.specs.declared.phase.ClientPhase.{ClientPhase}
use Rattle.server_rules.specs.declared.phase.ClientPhase.TheVariants.{Idle, Stepping, UnderWay, PutOff, LeftStepping, Left, Leaving, Cancelling, Gone}
use Rattle.server_rules.specs.declared.requests.Request.{Request}
use Rattle.server_rules.specs.declared.requests.Request.TheVariants as request
use Rattle.server_rules.specs.declared.made_things.Admission.{Admission}
use Rattle.server_rules.specs.declared.made_things.Admission.TheVariants as admission
use Rattle.server_rules.specs.declared.made_things.MadeChange.{MadeChange}
use Rattle.server_rules.specs.declared.made_things.MadeChange.TheVariants as change
use Rattle.server_rules.specs.declared.todo.Answer.TheVariants as answer
use Rattle.server_rules.specs.declared.todo.Todo.TheVariants as todo
use Rattle.server_rules.specs.Made.{Ended, admission_of, change_of, let_go, next_end}
use Rattle.server_rules.specs.StatusAge.{is_recent}
use Rattle.server_rules.specs.Connection.{View, Moved, stays, hands_in, answers_by}

-- steps that neither make nor end a waiter or a subscription may be under way together, at most as many as a ring holds
abbrev pub step_limit : ℕ
step_limit = 64

abbrev pub steps_in : MadeChange → ℕ → Act Global → View → Moved
steps_in change.Other n act c = record { next = record c { phase = Stepping (n + 1) }; todo = todo.Submit act }
steps_in ch n act c = hands_in (errand.Step ch) act c

-- a waiter for which there is no place gets the place of the waiter that was released first
abbrev pub replaces : List ℕ → Act Global → View → Moved
replaces (id ∷ released) act c =
    hands_in errand.Replacement (Cancel id) (record c { made = record c.made { released = released; put_off = Some act } })
replaces [] act c = answers_by (answer.Own own.Busy) c

abbrev pub begin_admitted : Admission → Act Global → View → Moved
begin_admitted admission.Admitted act c = steps_in (change_of act) 0 act c
begin_admitted admission.AfterReleased act c = replaces c.made.released act c
begin_admitted admission.Refused act c = answers_by (answer.Own own.Busy) c

-- a status is told at once where the last step is recent, and else after a tick
abbrev pub begin_request : Request → (last_step now : ℕ) → View → Moved
begin_request (request.Step act) last_step now c = begin_admitted (admission_of act c.made) act c
begin_request (request.Status subject) last_step now c =
    if is_recent last_step now then answers_by (answer.Status subject) c else hands_in (errand.Status subject) Tick c
begin_request request.Scan last_step now c = record { next = record c { phase = UnderWay errand.Scan }; todo = todo.Scan }
begin_request request.Record last_step now c = record { next = record c { phase = UnderWay errand.Record }; todo = todo.Record }
begin_request (request.Follow services) last_step now c = answers_by answer.Following (record c { made = record c.made { follows = services } })
begin_request request.Clock last_step now c = answers_by answer.Clock c
begin_request (request.Refused o) last_step now c = answers_by (answer.Own o) c

abbrev pub begin_first : List Request → (last_step now : ℕ) → View → Moved
begin_first [] last_step now c = stays c
begin_first (r ∷ rest) last_step now c = begin_request r last_step now (record c { asked = rest })

-- while steps are under way, the next request is begun if it is such a step too
abbrev pub joins : MadeChange → ℕ → Act Global → List Request → View → Moved
joins change.Other n act rest c = steps_in change.Other n act (record c { asked = rest })
joins ch n act rest c = stays c

abbrev pub begin_next : List Request → ℕ → View → Moved
begin_next (request.Step act ∷ rest) n c = joins (change_of act) n act rest c
begin_next asked n c = stays c

abbrev pub is_other : MadeChange → Bool
is_other change.Other = true
is_other ch = false

abbrev pub is_step_first : List Request → Bool
is_step_first (request.Step act ∷ rest) = is_other (change_of act)
is_step_first asked = false

abbrev pub begin_beside : ℕ → View → Moved
begin_beside n c = if nat_lt n step_limit then begin_next c.asked n c else stays c

-- the wait that was put off is handed in
abbrev pub begin_put_off : Option (Act Global) → View → Moved
begin_put_off (Some act) c = hands_in (errand.Step change.MakesWaiter) act (record c { made = record c.made { put_off = None } })
begin_put_off None c = answers_by (answer.Own own.Busy) (record c { phase = Idle })

abbrev pub ends_by : Option Ended → View → Moved
ends_by (Some ended) c = record { next = record c { phase = Cancelling; made = ended.made }; todo = todo.Submit ended.act }
ends_by None c = record { next = record c { phase = Gone; made = let_go c.made }; todo = todo.Free }

abbrev pub begin_in : ClientPhase → (last_step now : ℕ) → View → Moved
begin_in Idle last_step now c = begin_first c.asked last_step now c
begin_in (Stepping n) last_step now c = begin_beside n c
begin_in (UnderWay e) last_step now c = stays c
begin_in PutOff last_step now c = begin_put_off c.made.put_off c
begin_in (LeftStepping n) last_step now c = stays c
begin_in (Left e) last_step now c = stays c
begin_in Leaving last_step now c = ends_by (next_end c.made) c
begin_in Cancelling last_step now c = stays c
begin_in Gone last_step now c = stays c

abbrev pub begin_move : (last_step now : ℕ) → View → Moved
begin_move last_step now c = begin_in c.phase last_step now c
