-- What is done for an act, found before anything is changed.
use Rattle.std.specs.Prelude.{◌≡◌, ◌==◌, ℕ, List, Bool, true, false, if◌then◌else◌, Option, None, Some, length, nat_lt}
use Rattle.event_directory.specs.Changes.{DirectoryRequest}
use Rattle.event_directory.specs.Changes.DirectoryRequest.{no_directory_request, make_directory, send}
use Rattle.event_directory.specs.Changes.DirectoryRequest.{subscribe, unsubscribe}
use Rattle.event_directory.specs.declared.source.Source.{Source}
use Rattle.s6_events.specs.declared.condition.Condition.{Condition}
use Rattle.s6_events.specs.declared.condition.Mode.{Mode}
use Rattle.supervise_core.specs.declared.chart_state.ChartState.{ChartState}
use Rattle.svscan_core.specs.Work.{Work}
use Rattle.svscan_core.specs.Work.Work.{do_nothing, change_one, apply_listing, command}
use Rattle.tree_core.specs.declared.choice.Choice.{Choice}
use Rattle.tree_core.specs.declared.choice.Choice.TheVariants.{Refuse, Nothing, Report, Letters, Listing, Command}
use Rattle.tree_core.specs.declared.choice.Choice.TheVariants.{Show, Tally, Failure, Wait, Cancel, MakeDirectory, Send}
use Rattle.tree_core.specs.declared.choice.Choice.TheVariants.{Subscribe, Unsubscribe}
use Rattle.tree_core.specs.declared.input.Target.{Target}
use Rattle.tree_core.specs.declared.input.Target.TheVariants as target
use Rattle.supervise_core.specs.ChartState.{is_gone}
use Rattle.supervise_core.specs.declared.change.Change.{Change}
use Rattle.supervise_core.specs.declared.row.Row.{Row}
use Rattle.svscan_core.specs.declared.entry.Entry.{Entry}
use Rattle.tree_core.specs.declared.reply.Refusal.{Refusal}
use Rattle.tree_core.specs.declared.reply.Refusal.TheVariants.{NoService, Reserved, TooMany, Ended, Closing}
use Rattle.tree_core.specs.declared.reply.Refusal.TheVariants.{Repeated, Empty}
use Rattle.svscan_core.specs.declared.entry.ScanOrder.{ScanOrder}
use Rattle.svscan_core.specs.Listing.{names_in}
use Rattle.svscan_core.specs.Names.{repeats_name}
use Rattle.wait_conditions.specs.Refusal.{deadline_of}
use Rattle.wait_conditions.specs.Steps.{WaitRequest}
use Rattle.wait_conditions.specs.Steps.WaitRequest.{no_wait_request, add_one, cancel_one}
use Rattle.wait_conditions.specs.Watch.{wait_terms}
use Rattle.tree_core.specs.ActRefusals.{all_named, serials_named}

-- what is done for an act
pub data Chosen : Type 0 where
  refuse : Refusal → Chosen
  nothing : Chosen
  report : ℕ → Change → Chosen
  letters : ℕ → Change → Chosen
  listing : List Entry → Chosen
  order : ScanOrder → Chosen
  show : Row → Chosen
  tally : List ℕ → Chosen
  failure : Bool → Chosen
  wait : Condition → Mode → ℕ → List ℕ → Chosen
  cancel : ℕ → Chosen
  ask_directories : DirectoryRequest → Chosen

-- the same, by the choice that the code makes
abbrev pub chosen_of : Choice → Chosen
chosen_of (Refuse why) = refuse why
chosen_of Nothing = nothing
chosen_of (Report sid change) = report sid change
chosen_of (Letters sid change) = letters sid change
chosen_of (Listing entries) = listing entries.now
chosen_of (Command which) = order which
chosen_of (Show row) = show row
chosen_of (Tally name) = tally name
chosen_of (Failure fails) = failure fails
chosen_of (Wait condition mode timeout sids) = wait condition mode timeout sids.items
chosen_of (Cancel id) = cancel id
chosen_of (MakeDirectory name) = ask_directories (make_directory name)
chosen_of (Send name message) = ask_directories (send name message.now)
chosen_of (Subscribe source) = ask_directories (subscribe source)
chosen_of (Unsubscribe id) = ask_directories (unsubscribe id)

-- whether the answer has a list, for which there must be memory
abbrev pub lists_more : Chosen → Bool
lists_more (listing entries) = true
lists_more (tally name) = true
lists_more chosen = false

-- what the choice asks of the services
abbrev pub chosen_work : Chosen → Work
chosen_work (report sid change) = change_one sid change
chosen_work (letters sid change) = change_one sid change
chosen_work (listing entries) = apply_listing entries
chosen_work (order which) = command which
chosen_work chosen = do_nothing

-- what the choice asks of the waiters, at this moment
abbrev pub chosen_change : ℕ → Chosen → WaitRequest
chosen_change now (wait condition mode timeout sids) =
    add_one (wait_terms condition mode sids (deadline_of timeout now))
chosen_change now (cancel id) = cancel_one id
chosen_change now chosen = no_wait_request

-- what the choice asks of the event directories
abbrev pub chosen_ask : Chosen → DirectoryRequest
chosen_ask (ask_directories ask) = ask
chosen_ask chosen = no_directory_request

-- the choice asks nothing of any part, and the answer has no list
pub record AsksNothing (now : ℕ) (chosen : Chosen) : Type 0 where
  pub work : chosen_work chosen ≡ do_nothing
  pub waiters : chosen_change now chosen ≡ no_wait_request
  pub directories : chosen_ask chosen ≡ no_directory_request
  pub short : lists_more chosen ≡ false

-- a report for a service that is there, or not
abbrev pub report_choice : Bool → ℕ → Change → Chosen
report_choice true sid change = report sid change
report_choice false sid change = refuse NoService

-- letters for a service that was found
abbrev pub letters_choice : Option ChartState → Change → Chosen
letters_choice None change = refuse NoService
letters_choice (Some c) change = if is_gone c.phase then refuse Ended else letters c.sid change

-- a row that was found
abbrev pub row_choice : Option Row → Chosen
row_choice None = refuse NoService
row_choice (Some row) = show row

-- whether the deaths of the service, if that was found, are a permanent failure
abbrev pub failure_choice : Option Bool → Chosen
failure_choice None = refuse NoService
failure_choice (Some fails) = failure fails

-- a listing that is refused, or handed on
abbrev pub scan_choice : Bool → List Entry → Chosen
scan_choice closing entries = if closing then refuse Closing else if repeats_name (names_in entries)
    then refuse Repeated else listing entries

-- a wait that is refused, or asked for
abbrev pub wait_choice : Condition → Mode → ℕ → List (List ℕ) → List ChartState → Chosen
wait_choice condition mode timeout names services =
    if length names == 0 then refuse Empty
    else if repeats_name names then refuse Repeated
    else if nat_lt 16 (length names) then refuse TooMany
    else if all_named names services then wait condition mode timeout (serials_named names services)
    else refuse NoService

-- a subscription to what was found, or not
abbrev pub subscribe_choice : Option Source → Chosen
subscribe_choice None = refuse NoService
subscribe_choice (Some source) = ask_directories (subscribe source)

-- a message that is refused, or sent
abbrev pub send_choice : Target → List ℕ → Chosen
send_choice (target.Service name) message = refuse Reserved
send_choice (target.Directory name) message = ask_directories (send name message)
