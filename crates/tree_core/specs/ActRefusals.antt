-- Why each act is refused before anything is done.
use Rattle.std.specs.Prelude.{ℕ, List, length, Bool, not, ◌==◌, if◌then◌else◌, bytes_eq, find, Option, None, Some}
use Rattle.std.specs.Prelude.{is_some, option_map, nat_le, nat_lt}
use Rattle.std.specs.List.{list_all, list_any, filter_map}
use Rattle.event_directory.specs.Changes.{DirectoryRequest, directory_refusal}
use Rattle.event_directory.specs.Changes.DirectoryRequest.{make_directory, send, subscribe}
use Rattle.event_directory.specs.Changes.DirectoryRequest.{unsubscribe}
use Rattle.event_directory.specs.declared.source.Source.{Source}
use Rattle.event_directory.specs.declared.source.Source.TheVariants as source
use Rattle.supervise_core.specs.declared.chart_state.ChartState.{ChartState}
use Rattle.supervise_core.specs.ChartState.{is_gone}
use Rattle.svscan_core.specs.declared.entry.Entry.{Entry}
use Rattle.svscan_core.specs.Listing.{names_in}
use Rattle.svscan_core.specs.Names.{repeats_name}
use Rattle.wait_conditions.specs.Refusal.{waiter_limit}
use Rattle.wait_conditions.specs.Watch.{is_waiter_of}
use Rattle.tree_core.specs.declared.input.Act.{Act}
use Rattle.tree_core.specs.declared.input.Act.TheVariants.{Scan, Scanctl, Svc, Started, StartFailed, Notify, Death}
use Rattle.tree_core.specs.declared.input.Act.TheVariants.{FinishEnded, Wait, Cancel}
use Rattle.tree_core.specs.declared.input.Act.TheVariants.{Subscribe, Unsubscribe, Send, MakeDir}
use Rattle.tree_core.specs.declared.input.Target.{Target}
use Rattle.tree_core.specs.declared.input.Target.TheVariants as target
use Rattle.tree_core.specs.declared.reply.Refusal.{Refusal}
use Rattle.tree_core.specs.declared.reply.Refusal.TheVariants.{NoService, Reserved, TooMany, NoSuch, Closing}
use Rattle.tree_core.specs.declared.reply.Refusal.TheVariants.{Repeated, Empty, Ended}
use Rattle.tree_core.specs.Listening.{as_refusal}
use Rattle.tree_core.specs.Machine.{Machine, directories_of}

-- the service of a name
abbrev pub service_named : List ℕ → List ChartState → Option ChartState
service_named name services = find (λ c. bytes_eq name c.name) services

-- an act that names a service by its serial is refused where no service has it
abbrev pub serial_refusal : ℕ → List ChartState → Option Refusal
serial_refusal sid services = if list_any (λ c. c.sid == sid) services then None else Some NoService

-- letters are refused where no service has the name, and where its supervisor has ended
abbrev pub letters_refusal : Option ChartState → Option Refusal
letters_refusal None = Some NoService
letters_refusal (Some c) = if is_gone c.phase then Some Ended else None

-- the serial of the service of a name
abbrev pub serial_of : List ℕ → List ChartState → Option ℕ
serial_of name services = option_map (λ c. c.sid) (service_named name services)

-- each of these names is that of a service, and their serials
abbrev pub all_named : List (List ℕ) → List ChartState → Bool
all_named names services = list_all (λ name. is_some (serial_of name services)) names

abbrev pub serials_named : List (List ℕ) → List ChartState → List ℕ
serials_named names services = filter_map (λ name. serial_of name services) names

-- a listing is refused while the tree is closing, then where a name stands in it twice
abbrev pub listing_refusal : List Entry → Machine → Option Refusal
listing_refusal listing m = if m.closing then Some Closing else if repeats_name (names_in listing) then Some Repeated
    else None

-- a wait is refused where it names nothing, a name twice, over 16 names, a name that no service has, or where waiter_limit waiters stand:
-- the first of these
abbrev pub wait_refusal : List (List ℕ) → Machine → Option Refusal
wait_refusal names m =
    if length names == 0 then Some Empty
    else if repeats_name names then Some Repeated
    else if nat_lt 16 (length names) then Some TooMany
    else if not (all_named names m.services) then Some NoService
    else if nat_le waiter_limit (length m.waiters) then Some TooMany
    else None

-- a cancel is refused where no waiter has the serial
abbrev pub cancel_refusal : ℕ → Machine → Option Refusal
cancel_refusal id m = if is_some (find (is_waiter_of id) m.waiters) then None else Some NoSuch

-- whose letters a subscription is to hear: those of the service that has the name now, or of the free directory of the name
abbrev pub source_named : Target → List ChartState → Option Source
source_named (target.Service name) services = option_map source.Service (serial_of name services)
source_named (target.Directory name) services = Some (source.Directory name)

-- why the event directories refuse what is asked of them
abbrev pub directories_refusal : DirectoryRequest → Machine → Option Refusal
directories_refusal ask m = option_map as_refusal (directory_refusal ask (directories_of m))

-- a subscription is refused where no service, or no free directory, has the name, and where 256 subscriptions stand
abbrev pub subscribe_refusal : Option Source → Machine → Option Refusal
subscribe_refusal None m = Some NoService
subscribe_refusal (Some source) m = directories_refusal (subscribe source) m

-- a message is refused for a service, and where no free directory has the name
abbrev pub message_refusal : Target → List ℕ → Machine → Option Refusal
message_refusal (target.Service name) letters m = Some Reserved
message_refusal (target.Directory name) letters m = directories_refusal (send name letters) m

-- why an act is refused before anything is done
abbrev pub act_refusal : {A : Type 0} → Act A → Machine → Option Refusal
act_refusal (Scan listing) m = listing_refusal listing m
act_refusal (Scanctl order) m = if m.closing then Some Closing else None
act_refusal (Svc name letters) m = letters_refusal (service_named name m.services)
act_refusal (Started sid generation pid) m = serial_refusal sid m.services
act_refusal (StartFailed sid generation) m = serial_refusal sid m.services
act_refusal (Notify sid generation bytes) m = serial_refusal sid m.services
act_refusal (Death sid generation exit) m = serial_refusal sid m.services
act_refusal (FinishEnded sid generation exit) m = serial_refusal sid m.services
act_refusal (Wait condition mode timeout names) m = wait_refusal names m
act_refusal (Cancel id) m = cancel_refusal id m
act_refusal (Subscribe target pattern repeats_name) m = subscribe_refusal (source_named target m.services) m
act_refusal (Unsubscribe id) m = directories_refusal (unsubscribe id) m
act_refusal (Send target message) m = message_refusal target message m
act_refusal (MakeDir name) m = directories_refusal (make_directory name) m
act_refusal act m = None
