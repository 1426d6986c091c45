-- How what a connection has under way ends: by the tree's reply, by a record, or by a refusal.
use Rattle.std.specs.Prelude.{ℕ, ◌-◌, nat_lt, List, [], ◌∷◌, if◌then◌else◌}
use Rattle.std.specs.declared.alloc.Global.{Global}
use Rattle.tree_core.specs.declared.reply.Reply.{Reply}
use Rattle.server_rules.specs.declared.own_answer.OwnAnswer.{OwnAnswer}
use Rattle.server_rules.specs.declared.phase.Errand.{Errand}
use Rattle.server_rules.specs.declared.phase.Errand.TheVariants as errand
use Rattle.server_rules.specs.declared.phase.ClientPhase.{ClientPhase}
use Rattle.server_rules.specs.declared.phase.ClientPhase.TheVariants.{Idle, Stepping, UnderWay, PutOff, LeftStepping, Left, Leaving, Cancelling, Gone}
use Rattle.server_rules.specs.declared.requests.Request.{Request}
use Rattle.server_rules.specs.declared.todo.Answer.TheVariants as answer
use Rattle.server_rules.specs.Made.{Made, after_reply}
use Rattle.server_rules.specs.Connection.{View, Moved, stays, answers_by}

-- ANSWERED: the reply to the step, or to the scan, that is under way; a record is not answered by a reply
abbrev pub noted : Errand → Reply Global → Made → Made
noted (errand.Step ch) r made = after_reply ch r made
noted e r made = made

abbrev pub answered_errand : Errand → Reply Global → View → Moved
answered_errand (errand.Step ch) r c = answers_by answer.TheReply (record c { phase = Idle; made = after_reply ch r c.made })
answered_errand (errand.Status subject) r c = answers_by (answer.Status subject) (record c { phase = Idle })
answered_errand errand.Scan r c = answers_by answer.TheReply (record c { phase = Idle })
answered_errand errand.Record r c = stays c
answered_errand errand.Replacement r c = stays (record c { phase = PutOff })

-- the same for a client that has left
abbrev pub left_errand : Errand → Reply Global → View → Moved
left_errand errand.Record r c = stays c
left_errand e r c = stays (record c { phase = Leaving; made = noted e r c.made })

-- the phase once one of n steps is answered: `none` where it was the last one
abbrev pub fewer : (ℕ → ClientPhase) → ClientPhase → ℕ → ClientPhase
fewer more none n = if nat_lt n 2 then none else more (n - 1)

abbrev pub answered_in : ClientPhase → Reply Global → View → Moved
answered_in Idle r c = stays c
answered_in (Stepping n) r c = answers_by answer.TheReply (record c { phase = fewer Stepping Idle n })
answered_in (UnderWay e) r c = answered_errand e r c
answered_in PutOff r c = stays c
answered_in (LeftStepping n) r c = stays (record c { phase = fewer LeftStepping Leaving n })
answered_in (Left e) r c = left_errand e r c
answered_in Leaving r c = stays c
answered_in Cancelling r c = stays (record c { phase = Leaving })
answered_in Gone r c = stays c

abbrev pub answered_move : Reply Global → View → Moved
answered_move r c = answered_in c.phase r c

-- RECORDED: the run is in the record, which has `steps` steps now
abbrev pub recorded_in : ClientPhase → ℕ → View → Moved
recorded_in (UnderWay errand.Record) steps c = answers_by (answer.Recorded steps) (record c { phase = Idle })
recorded_in (Left errand.Record) steps c = stays (record c { phase = Leaving })
recorded_in phase steps c = stays c

abbrev pub recorded_move : ℕ → View → Moved
recorded_move steps c = recorded_in c.phase steps c

-- REFUSE ERRAND: the scan, or the record, that is under way can't be made
abbrev pub refuse_errand_in : ClientPhase → OwnAnswer → View → Moved
refuse_errand_in (UnderWay errand.Scan) o c = answers_by (answer.Own o) (record c { phase = Idle })
refuse_errand_in (UnderWay errand.Record) o c = answers_by (answer.Own o) (record c { phase = Idle })
refuse_errand_in (Left errand.Scan) o c = stays (record c { phase = Leaving })
refuse_errand_in (Left errand.Record) o c = stays (record c { phase = Leaving })
refuse_errand_in phase o c = stays c

abbrev pub refuse_errand_move : OwnAnswer → View → Moved
refuse_errand_move o c = refuse_errand_in c.phase o c

-- REFUSE NEXT: no step can be made now
abbrev pub refuse_first : List Request → OwnAnswer → View → Moved
refuse_first [] o c = stays c
refuse_first (r ∷ rest) o c = answers_by (answer.Own o) (record c { asked = rest })

abbrev pub refuse_next_in : ClientPhase → OwnAnswer → View → Moved
refuse_next_in Idle o c = refuse_first c.asked o c
refuse_next_in phase o c = stays c

abbrev pub refuse_next_move : OwnAnswer → View → Moved
refuse_next_move o c = refuse_next_in c.phase o c
