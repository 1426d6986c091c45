-- A machine that is closing: no step of it starts a run.
use Rattle.std.proofs.Common.{◌≡◌, ℕ, List, [], ◌∷◌, ◌==◌, if◌then◌else◌, Bool, true, false, Option, None, Some, refl, ap, sym, subst, ◌∙◌}
use Rattle.std.specs.List.{list_any}
use Rattle.std.proofs.lemmas.List.Folds.{list_any-append}
use Rattle.event_directory.specs.Changes.DirectoryRequest.{make_directory, unsubscribe}
use Rattle.supervise_core.specs.declared.change.Change.{Change}
use Rattle.s6_events.specs.declared.report.Report.TheVariants as reports
use Rattle.supervise_core.specs.declared.change.Change.TheVariants as changes
use Rattle.supervise_core.specs.declared.chart_state.ChartState.{ChartState}
use Rattle.supervise_core.specs.Chart.{fire_move, changed_by}
use Rattle.svscan_core.specs.declared.entry.ScanOrder.TheVariants.{Nuke, Terminate}
use Rattle.svscan_core.specs.Moves.{orders_after}
use Rattle.svscan_core.specs.Work.{Work, WorkResult, work_result, closing_after}
use Rattle.svscan_core.specs.Work.Work.{do_nothing, change_one, apply_listing, command}
use Rattle.svscan_core.proofs.Truth.{neither_of}
use Rattle.tree_core.specs.declared.input.Act.{Act}
use Rattle.tree_core.specs.declared.input.Act.TheVariants.{Scan, Scanctl, Svc, Started, StartFailed, Notify, Death, FinishEnded, Status, Tally}
use Rattle.tree_core.specs.declared.input.Act.TheVariants.{Permafailon, Wait, Cancel, Subscribe, Unsubscribe, Send, MakeDir, Tick}
use Rattle.tree_core.specs.declared.input.Input.{Input}
use Rattle.tree_core.specs.declared.reply.Refusal.{Refusal}
use Rattle.tree_core.specs.declared.reply.Reply.TheVariants.{Done}
use Rattle.tree_core.specs.Acts.{act_result}
use Rattle.tree_core.specs.ActRefusals.{service_named, serial_refusal, letters_refusal, wait_refusal, cancel_refusal, subscribe_refusal}
use Rattle.tree_core.specs.Acts.{change_found, work_unless, work_of}
use Rattle.tree_core.specs.ActRefusals.{directories_refusal, message_refusal, source_named}
use Rattle.tree_core.specs.Closing.{is_run, starts_run, IsTerminated}
use Rattle.tree_core.specs.Machine.{Machine}
use Rattle.tree_core.specs.Run.{after, outcomes}
use Rattle.tree_core.specs.Step.{StepResult, with_clock, with_moves, timed_step, with_listeners, spent_step, step, step_limit}
use Rattle.tree_core.proofs.Leaving.{AllLeave, IsLeaving, Leaves, fire_leaves, started_leaves, start_failed_leaves, notified_leaves, death_leaves}
use Rattle.tree_core.proofs.Leaving.{finish_ended_leaves, control_leaves, changed_leaves, moved_leave, all_terminated}

-- a terminate was done, and all services leave
pub record IsClosed (m : Machine) : Type 0 where
  pub closing : m.closing ≡ true
  pub services : AllLeave m.services

-- what was done left all services leaving, and started no run
abbrev StartsNone : WorkResult → Type 0
StartsNone w = AllLeave w.services × (list_any is_run w.orders ≡ false)

change_starts_none : (sid : ℕ) (change : Change) (now : ℕ) (services : List ChartState) (next : ℕ)
    → ((c : ChartState) → IsLeaving c → Leaves (changed_by change now c))
    → AllLeave services → StartsNone (work_result (change_one sid change) now services next)
change_starts_none sid change now services next leaves h = moved_leave _ (changed_leaves sid change now leaves) services h

-- a report, whether its serial is known or not
report_starts_none : (why : Option Refusal) (sid : ℕ) (change : Change) (now : ℕ) (services : List ChartState) (next : ℕ)
    → ((c : ChartState) → IsLeaving c → Leaves (changed_by change now c))
    → AllLeave services → StartsNone (work_result (work_unless why (change_one sid change)) now services next)
report_starts_none None sid change now services next leaves h = change_starts_none sid change now services next leaves h
report_starts_none (Some why) sid change now services next leaves h = (h, refl)

-- letters, whether the name is known or not, and its supervisor there or not
letters_start_none : (why : Option Refusal) (found : Option ChartState) (change : Change) (now : ℕ) (services : List ChartState) (next : ℕ)
    → ((c : ChartState) → IsLeaving c → Leaves (changed_by change now c))
    → AllLeave services → StartsNone (work_result (work_unless why (change_found found change)) now services next)
letters_start_none None None change now services next leaves h = (h, refl)
letters_start_none None (Some c) change now services next leaves h = change_starts_none c.sid change now services next leaves h
letters_start_none (Some why) found change now services next leaves h = (h, refl)

-- what is asked of nobody that runs services, whether it is refused or not
others_start_none : (why : Option Refusal) (now : ℕ) (services : List ChartState) (next : ℕ) → AllLeave services
    → StartsNone (work_result (work_unless why do_nothing) now services next)
others_start_none None now services next h = (h, refl)
others_start_none (Some why) now services next h = (h, refl)

work_starts_none : {A : Type 0} (act : Act A) (m : Machine) → IsClosed m → StartsNone (work_result (work_of act m) m.clock m.services m.next_sid)
work_starts_none (Scan listing) m h = rw h.closing (h.services, refl)
work_starts_none (Scanctl order) m h = rw h.closing (h.services, refl)
work_starts_none (Svc name letters) m h =
    letters_start_none (letters_refusal (service_named name m.services)) (service_named name m.services)
    (changes.Control letters) m.clock m.services m.next_sid
    (control_leaves letters.items m.clock) h.services
work_starts_none (Started sid generation pid) m h =
    report_starts_none (serial_refusal sid m.services) sid (changes.Report (reports.Started sid generation pid)) m.clock m.services m.next_sid
    (started_leaves generation pid m.clock) h.services
work_starts_none (StartFailed sid generation) m h =
    report_starts_none (serial_refusal sid m.services) sid (changes.Report (reports.StartFailed sid generation)) m.clock m.services m.next_sid
    (start_failed_leaves generation m.clock) h.services
work_starts_none (Notify sid generation bytes) m h =
    report_starts_none (serial_refusal sid m.services) sid (changes.Report (reports.Notify sid generation bytes)) m.clock m.services m.next_sid
    (notified_leaves generation bytes.items m.clock) h.services
work_starts_none (Death sid generation exit) m h =
    report_starts_none (serial_refusal sid m.services) sid (changes.Report (reports.Death sid generation exit)) m.clock m.services m.next_sid
    (death_leaves generation exit m.clock) h.services
work_starts_none (FinishEnded sid generation exit) m h =
    report_starts_none (serial_refusal sid m.services) sid (changes.Report (reports.FinishEnded sid generation exit)) m.clock m.services m.next_sid
    (finish_ended_leaves generation exit m.clock) h.services
work_starts_none (Status name) m h = (h.services, refl)
work_starts_none (Tally name) m h = (h.services, refl)
work_starts_none (Permafailon name seconds count items) m h = (h.services, refl)
work_starts_none (Wait condition mode timeout names) m h = others_start_none (wait_refusal names m) m.clock m.services m.next_sid h.services
work_starts_none (Cancel id) m h = others_start_none (cancel_refusal id m) m.clock m.services m.next_sid h.services
work_starts_none (Subscribe target pattern repeats) m h =
    others_start_none (subscribe_refusal (source_named target m.services) m) m.clock m.services m.next_sid h.services
work_starts_none (Unsubscribe id) m h = others_start_none (directories_refusal (unsubscribe id) m) m.clock m.services m.next_sid h.services
work_starts_none (Send target message) m h = others_start_none (message_refusal target message m) m.clock m.services m.next_sid h.services
work_starts_none (MakeDir name) m h = others_start_none (directories_refusal (make_directory name) m) m.clock m.services m.next_sid h.services
work_starts_none Tick m h = (h.services, refl)

stays_closing : (work : Work) → closing_after work true ≡ true
stays_closing do_nothing = refl
stays_closing (change_one sid change) = refl
stays_closing (apply_listing listing) = refl
stays_closing (command Nuke) = refl
stays_closing (command Terminate) = refl

-- the machine of a step is closed, and the step started no run
record StaysSo {A : Type 0} (s : StepResult A) : Type 0 where
  closed : IsClosed s.machine
  none : starts_run s.outcome ≡ false

fired_closed : (m : Machine) → IsClosed m → IsClosed (with_moves (fire_move m.clock) m)
fired_closed m h = record { closing = h.closing; services = (moved_leave (fire_move m.clock) (fire_leaves m.clock) m.services h.services).0 }

timed_closed : {A : Type 0} (act : Act A) (m : Machine) → IsClosed m → StaysSo (timed_step act m)
timed_closed act m h =
    let fired = with_moves (fire_move m.clock) m in
    let done = work_starts_none act fired (fired_closed m h) in
    record {
      closed = record { closing = ap (closing_after (work_of act fired)) h.closing ∙ stays_closing (work_of act fired); services = done.0 };
      none =
          list_any-append is_run (orders_after (fire_move m.clock) m.services) (act_result act fired).work.orders
          ∙ neither_of _ _ (moved_leave (fire_move m.clock) (fire_leaves m.clock) m.services h.services).1 done.1;
    }

step_closed : {A : Type 0} (m : Machine) (input : Input A) → IsClosed m → StaysSo (step m input)
step_closed {A} m input h = by (m.steps == step_limit)
  where
    by : (b : Bool) → StaysSo {A = A} (if b then spent_step m else with_listeners m input.at (timed_step input.act (with_clock input.at m)))
    by true = record { closed = h; none = refl }
    by false =
        let done = timed_closed input.act (with_clock input.at m) (record { closing = h.closing; services = h.services }) in
        record { closed = done.closed; none = done.none }

closed_starts_none : {A : Type 0} (m : Machine) (later : List (Input A)) → IsClosed m → list_any starts_run (outcomes m later) ≡ false
closed_starts_none m [] h = refl
closed_starts_none m (input ∷ later) h =
    let now = step_closed m input h in
    rw (now.none, closed_starts_none (after m input) later now.closed) refl

-- a terminate that is done closes the machine
command_closes : {A : Type 0} (m : Machine) → (timed_step {A = A} (Scanctl Terminate) m).outcome.reply ≡ Done
    → IsClosed (timed_step {A = A} (Scanctl Terminate) m).machine
command_closes {A} m = by m.closing refl
  where
    by : (b : Bool) → m.closing ≡ b → (timed_step {A = A} (Scanctl Terminate) m).outcome.reply ≡ Done
        → IsClosed (timed_step {A = A} (Scanctl Terminate) m).machine
    by true is = rw is (λ done. cc done)
    by false is = rw is (λ _. record { closing = refl; services = all_terminated m.clock (with_moves (fire_move m.clock) m).services })

terminate_closes : {A : Type 0} (m : Machine) (input : Input A) → IsTerminated m input → IsClosed (after m input)
terminate_closes {A} m input h = by (m.steps == step_limit) h.done
  where
    by : (b : Bool) → (if b then spent_step m else with_listeners m input.at (timed_step input.act (with_clock input.at m))).outcome.reply ≡ Done
        → IsClosed (if b then spent_step {A = A} m else with_listeners m input.at (timed_step input.act (with_clock input.at m))).machine
    by true done = cc done
    by false done =
        subst (λ (act : Act A). (timed_step act (with_clock input.at m)).outcome.reply ≡ Done
        → IsClosed (timed_step act (with_clock input.at m)).machine)
        (sym h.asked) (command_closes (with_clock input.at m)) done

pub stays_closed : {A : Type 0} (m : Machine) (input : Input A) (later : List (Input A)) → IsTerminated m input
    → list_any starts_run (outcomes (after m input) later) ≡ false
stays_closed m input later h = closed_starts_none (after m input) later (terminate_closes m input h)
