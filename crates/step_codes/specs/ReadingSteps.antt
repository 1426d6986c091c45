-- What bytes tell of a step.
use Rattle.std.specs.Prelude.{ℕ, ◌==◌, [], if◌then◌else◌}
use Rattle.std.specs.declared.alloc.Global.{Global}
use Rattle.s6_events.specs.declared.mark.Mark.{Mark}
use Rattle.s6_events.specs.declared.mark.Mark.TheVariants.{SupervisorStarted, Spawned, Ready, Died, FinishDone, PermanentFailure, SupervisorEnded}
use Rattle.s6_events.specs.declared.order.Order.{Order}
use Rattle.s6_events.specs.declared.order.Order.TheVariants as order
use Rattle.supervise_core.specs.declared.row.Row.{Row}
use Rattle.svscan_core.specs.declared.event.Event.{Event}
use Rattle.wait_conditions.specs.declared.verdict.Verdict.{Verdict}
use Rattle.wait_conditions.specs.declared.verdict.Verdict.TheVariants.{Held, Failed, Gone, TimedOut}
use Rattle.tree_core.specs.declared.effect.Release.{Release}
use Rattle.tree_core.specs.declared.input.Input.{Input}
use Rattle.tree_core.specs.declared.reply.Refusal.{Refusal}
use Rattle.tree_core.specs.declared.reply.Refusal.TheVariants as refusal
use Rattle.tree_core.specs.declared.reply.Reply.{Reply}
use Rattle.tree_core.specs.declared.reply.Reply.TheVariants as reply
use Rattle.tree_core.specs.Machine.{Outcome}
use Rattle.step_codes.specs.Reading.{Reads, gives, then_in, byte_in, number_in, bool_in, option_in, text_in, list_in}
use Rattle.step_codes.specs.ReadingActs.{exit_in, act_in}

abbrev pub mark_of : ℕ → Mark
mark_of b =
    if b == 0 then SupervisorStarted else (if b == 1 then Spawned else (if b == 2 then Ready else (if b == 3 then Died else (if b == 4 then FinishDone
    else (if b == 5 then PermanentFailure else SupervisorEnded)))))

abbrev pub event_in : Reads Event
event_in = then_in number_in (λ sid. then_in byte_in (λ mark. gives (record { sid = sid; mark = mark_of mark })))

abbrev pub verdict_of : ℕ → Verdict
verdict_of b = if b == 0 then Held else (if b == 1 then Failed else (if b == 2 then Gone else TimedOut))

abbrev pub release_in : Reads Release
release_in = then_in number_in (λ waiter. then_in byte_in (λ verdict. gives (record { waiter = waiter; verdict = verdict_of verdict })))

-- the rest of an order, by its kind, for a service and a generation
abbrev pub order_behind : ℕ → ℕ → ℕ → Reads Order
order_behind kind sid generation =
    if kind == 0 then then_in text_in (λ name. then_in (option_in byte_in) (λ descriptor. gives (order.Run sid generation name descriptor)))
    else (if kind == 1 then
    then_in text_in (λ name. then_in number_in (λ code. then_in byte_in (λ signal. gives (order.Finish sid generation name code signal))))
    else (if kind == 2 then then_in byte_in (λ signal. gives (order.Signal sid generation signal))
    else gives (order.KillFinish sid generation)))

abbrev pub order_in : Reads Order
order_in = then_in byte_in (λ kind. then_in number_in (λ sid. then_in number_in (λ generation. order_behind kind sid generation)))

abbrev pub refusal_of : ℕ → Refusal
refusal_of b =
    if b == 1 then refusal.NoService else (if b == 2 then refusal.Stale else (if b == 3 then refusal.Reserved else (if b == 4 then refusal.TooMany
    else (if b == 5 then refusal.NoSuch else (if b == 6 then refusal.Closing else (if b == 7 then refusal.Repeated else (if b == 8 then refusal.Empty
    else (if b == 9 then refusal.Exists else (if b == 10 then refusal.Ended else refusal.Spent)))))))))

abbrev pub row_in : Reads Row
row_in =
    then_in number_in (λ sid. then_in text_in (λ name. then_in bool_in (λ up. then_in bool_in (λ wanted_up. then_in bool_in (λ normally_up.
    then_in bool_in (λ ready. then_in bool_in (λ paused. then_in (option_in number_in) (λ pid. then_in (option_in exit_in) (λ ended.
    then_in (option_in number_in) (λ up_down_for. then_in (option_in number_in) (λ ready_for. gives (record {
      sid = sid;
      name = name;
      up = up;
      wanted_up = wanted_up;
      normally_up = normally_up;
      ready = ready;
      paused = paused;
      pid = pid;
      exit = ended;
      up_down_for = up_down_for;
      ready_for = ready_for;
    }))))))))))))

abbrev pub reply_behind : ℕ → Reads (Reply Global)
reply_behind kind =
    if kind == 0 then gives reply.Done
    else (if kind == 1 then then_in byte_in (λ why. gives (reply.Refused (refusal_of why)))
    else (if kind == 2 then then_in row_in (λ row. gives (reply.Row row))
    else (if kind == 3 then then_in bool_in (λ fails. gives (reply.PermanentFailure fails))
    else (if kind == 4 then then_in number_in (λ id. gives (reply.Waiter id)) else then_in number_in (λ id. gives (reply.Subscription id))))))

abbrev pub reply_in : Reads (Reply Global)
reply_in = then_in byte_in reply_behind

abbrev pub outcome_in : Reads (Outcome Global)
outcome_in =
    then_in reply_in (λ answer. then_in (list_in event_in) (λ events. then_in (list_in order_in) (λ orders. then_in (list_in release_in) (λ released.
    gives (record { reply = answer; events = events; orders = orders; matched = []; released = released })))))

-- an input, and what its step gave
abbrev pub step_in : Reads (Input Global × Outcome Global)
step_in =
    then_in byte_in (λ actor. then_in number_in (λ at. then_in outcome_in (λ gave. then_in act_in (λ done.
    gives (record { actor = actor; at = at; act = done }, gave)))))
