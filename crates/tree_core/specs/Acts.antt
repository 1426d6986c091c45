-- What each act does, gives and is answered.
use Rattle.std.specs.Prelude.{ℕ, List, Bool, if◌then◌else◌, Option, None, Some}
use Rattle.event_directory.specs.Changes.{DirectoryRequest, Offer}
use Rattle.event_directory.specs.Changes.DirectoryRequest.{no_directory_request, make_directory}
use Rattle.event_directory.specs.Changes.DirectoryRequest.{unsubscribe}
use Rattle.s6_events.specs.declared.condition.Condition.{Condition}
use Rattle.s6_events.specs.declared.condition.Mode.{Mode}
use Rattle.s6_events.specs.declared.exit.Exit.{Exit}
use Rattle.supervise_core.specs.declared.chart_state.ChartState.{ChartState}
use Rattle.supervise_core.specs.declared.change.Change.{Change}
use Rattle.s6_events.specs.declared.report.Report.TheVariants as reports
use Rattle.supervise_core.specs.declared.change.Change.TheVariants as changes
use Rattle.supervise_core.specs.declared.row.Row.{Row}
use Rattle.svscan_core.specs.Work.{Work, WorkResult, work_result}
use Rattle.svscan_core.specs.Work.Work.{do_nothing, change_one, apply_listing, command}
use Rattle.wait_conditions.specs.Refusal.{deadline_of}
use Rattle.wait_conditions.specs.Verdict.{WaitTerms}
use Rattle.wait_conditions.specs.Watch.{wait_terms}
use Rattle.tree_core.specs.declared.input.Act.{Act}
use Rattle.tree_core.specs.declared.input.Act.TheVariants.{Scan, Scanctl, Svc, Started, StartFailed, Notify, Death}
use Rattle.tree_core.specs.declared.input.Act.TheVariants.{FinishEnded, Status, Tally, Permafailon, Wait, Cancel}
use Rattle.tree_core.specs.declared.input.Act.TheVariants.{Subscribe, Unsubscribe, Send, MakeDir}
use Rattle.tree_core.specs.declared.reply.Refusal.{Refusal}
use Rattle.tree_core.specs.declared.reply.Refusal.TheVariants.{NoService, Stale}
use Rattle.tree_core.specs.declared.reply.Reply.{Reply}
use Rattle.tree_core.specs.declared.reply.Reply.TheVariants as answers
use Rattle.tree_core.specs.Listening.{Ask, ask_unless, send_to, subscribe_found}
use Rattle.tree_core.specs.Listening.Ask.{same, add_waiter, cancel_waiter}
use Rattle.tree_core.specs.Machine.{Machine}
use Rattle.tree_core.specs.Rows.{row_named}
use Rattle.tree_core.specs.Tallies.{tally_named, failure_named}
use Rattle.tree_core.specs.ActRefusals.{service_named, serials_named, wait_refusal, cancel_refusal, source_named, act_refusal}

-- what an act leaves and gives
pub record ActResult (A : Type 0) : Type 0 where
  pub reply : Reply A
  pub work : WorkResult

-- the service that was found takes a change, if one was found
abbrev pub change_found : Option ChartState → Change → Work
change_found None change = do_nothing
change_found (Some c) change = change_one c.sid change

-- what each act asks of the services, where it is not refused
abbrev pub asked_work : {A : Type 0} → Act A → Machine → Work
asked_work (Scan listing) m = apply_listing listing
asked_work (Scanctl order) m = command order
asked_work (Svc name letters) m = change_found (service_named name m.services) (changes.Control letters)
asked_work (Started sid generation pid) m = change_one sid (changes.Report (reports.Started sid generation pid))
asked_work (StartFailed sid generation) m = change_one sid (changes.Report (reports.StartFailed sid generation))
asked_work (Notify sid generation bytes) m = change_one sid (changes.Report (reports.Notify sid generation bytes))
asked_work (Death sid generation exit) m = change_one sid (changes.Report (reports.Death sid generation exit))
asked_work (FinishEnded sid generation exit) m = change_one sid (changes.Report (reports.FinishEnded sid generation exit))
asked_work act m = do_nothing

-- nothing where the act is refused, and else this work
abbrev pub work_unless : Option Refusal → Work → Work
work_unless None work = work
work_unless (Some why) work = do_nothing

abbrev pub work_of : {A : Type 0} → Act A → Machine → Work
work_of act m = work_unless (act_refusal act m) (asked_work act m)

-- what a wait is made with: the services that have these names now, and a timeout that counts from now
abbrev pub wait_terms_of : Condition → Mode → ℕ → List (List ℕ) → Machine → WaitTerms
wait_terms_of condition mode timeout names m =
    wait_terms condition mode (serials_named names m.services) (deadline_of timeout m.clock)

-- what each act asks of the waiters
abbrev pub ask_of : {A : Type 0} → Act A → Machine → Ask
ask_of (Wait condition mode timeout names) m =
    ask_unless (wait_refusal names m) (add_waiter (wait_terms_of condition mode timeout names m))
ask_of (Cancel id) m = ask_unless (cancel_refusal id m) (cancel_waiter id)
ask_of act m = same

-- what each act asks of the event directories, which may refuse it themselves; and the pattern that it offers with that
abbrev pub directory_ask_of : {A : Type 0} → Act A → Machine → DirectoryRequest
directory_ask_of (Subscribe target pattern repeats_name) m = subscribe_found (source_named target m.services)
directory_ask_of (Unsubscribe id) m = unsubscribe id
directory_ask_of (Send target message) m = send_to target message
directory_ask_of (MakeDir name) m = make_directory name
directory_ask_of act m = no_directory_request

abbrev pub offer_of : {A : Type 0} → Act A → Offer
offer_of (Subscribe target pattern repeats_name) = Some (pattern, repeats_name)
offer_of act = None

-- the refusal, or else this reply
abbrev pub reply_unless : {A : Type 0} → Option Refusal → Reply A → Reply A
reply_unless None reply = reply
reply_unless (Some why) reply = answers.Refused why

-- a report is refused where it is stale
abbrev pub report_reply : {A : Type 0} → WorkResult → Reply A
report_reply w = if w.stale then answers.Refused Stale else answers.Done

-- the reply with a row; NoService where no service has the name
abbrev pub row_reply : {A : Type 0} → Option Row → Reply A
row_reply None = answers.Refused NoService
row_reply (Some row) = answers.Row row

-- the same with the last deaths of a service, and with whether they are a permanent failure
abbrev pub tally_reply : {A : Type 0} → Option (List (ℕ × Exit)) → Reply A
tally_reply None = answers.Refused NoService
tally_reply (Some deaths) = answers.Tally deaths

abbrev pub failure_reply : {A : Type 0} → Option Bool → Reply A
failure_reply None = answers.Refused NoService
failure_reply (Some fails) = answers.PermanentFailure fails

-- what each act is answered, where it is not refused, once its work was done
abbrev pub act_reply : {A : Type 0} → Act A → Machine → WorkResult → Reply A
act_reply (Scan listing) m w = answers.Scanned (record { dropped = w.dropped; listed = w.listed })
act_reply (Started sid generation pid) m w = report_reply w
act_reply (StartFailed sid generation) m w = report_reply w
act_reply (Notify sid generation bytes) m w = report_reply w
act_reply (Death sid generation exit) m w = report_reply w
act_reply (FinishEnded sid generation exit) m w = report_reply w
act_reply (Status name) m w = row_reply (row_named name m)
act_reply (Tally name) m w = tally_reply (tally_named name m)
act_reply (Permafailon name seconds count items) m w = failure_reply (failure_named name seconds count items m)
act_reply (Wait condition mode timeout names) m w = answers.Waiter m.next_waiter
act_reply (Subscribe target pattern repeats_name) m w = answers.Subscription m.next_subscription
act_reply act m w = answers.Done

-- the work of an act, done
abbrev pub work_done : {A : Type 0} → Act A → Machine → WorkResult
work_done act m = work_result (work_of act m) m.clock m.services m.next_sid

-- an act, done
abbrev pub act_result : {A : Type 0} → Act A → Machine → ActResult A
act_result act m = record {
  reply = reply_unless (act_refusal act m) (act_reply act m (work_done act m));
  work =
      work_done act m;
}
