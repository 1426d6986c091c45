-- How many marks a step gives at the most.
use Rattle.std.proofs.Common.{ℕ, ◌+◌, ◌*◌, ◌≤◌, ◌==◌, arith, List, [], ◌∷◌, Bool, true, false, cond, length, filter, fold, rules}
use Rattle.std.specs.Prelude.{nat_lt, Option, Some, None}
use Rattle.std.proofs.lemmas.List.{length-append, length-map}
use Rattle.servicedir.specs.declared.config.Config.{Config}
use Rattle.control_letters.specs.declared.control_letter.ControlLetter.{ControlLetter}
use Rattle.supervise_core.specs.declared.chart_state.ChartState.{ChartState}
use Rattle.supervise_core.specs.declared.change.Change.{Change}
use Rattle.s6_events.specs.declared.report.Report.TheVariants.{Started, StartFailed, Notify, Death, FinishEnded}
use Rattle.supervise_core.specs.declared.change.Change.TheVariants.{Report, Control, Fire, SetConfig, SetActive}
use Rattle.supervise_core.specs.ChartState.{Moved, new_service, no_move}
use Rattle.supervise_core.specs.ControlLetters.{letter_move, then_move, control_move}
use Rattle.supervise_core.specs.Moves.{begin_move}
use Rattle.supervise_core.specs.Chart.{fire_move, changed_by, with_activity}
use Rattle.supervise_core.specs.LetterBounds.{marks_left}
use Rattle.svscan_core.specs.declared.entry.Entry.{Entry}
use Rattle.svscan_core.specs.declared.entry.ScanOrder.{ScanOrder}
use Rattle.svscan_core.specs.declared.entry.ScanOrder.TheVariants.{Nuke, Terminate}
use Rattle.svscan_core.specs.Listing.{names_in, listed_config, in_byte_order}
use Rattle.svscan_core.specs.Moves.{service_mark, events_of_move, services_after, events_after}
use Rattle.svscan_core.specs.Scan.{ScanState, after_looks, stays, stands, service_limit, with_service, with_new_name, with_name, with_names}
use Rattle.svscan_core.specs.Scan.{scan_state_from}
use Rattle.svscan_core.specs.Work.{Work, work_result, step_result, change_move_at, command_move, leave_letters}
use Rattle.svscan_core.specs.Work.Work.{do_nothing, change_one, apply_listing, command}
use Rattle.svscan_core.proofs.Few.{work_few, fired_few}

abbrev Few : Moved → Type 0
Few m = length m.marks ≤ 4

few_fire : (now : ℕ) (c : ChartState) → Few (fire_move now c)
few_fire now c = search rules

-- one letter, and all of them: one mark, and then the supervisor has ended
one_letter : (now : ℕ) (letter : ControlLetter) (c : ChartState)
    → length (letter_move now letter c).marks + marks_left (letter_move now letter c).chart.phase ≤ marks_left c.phase
one_letter now letter c = search rules

all_letters : (now : ℕ) (letters : List ControlLetter) (n : ℕ) (m : Moved) → length m.marks + marks_left m.chart.phase ≤ n
    → length (fold (λ so_far letter. then_move (letter_move now letter) so_far) m letters).marks
    + marks_left (fold (λ so_far letter. then_move (letter_move now letter) so_far) m letters).chart.phase ≤ n
all_letters now [] n m h = h
all_letters now (letter ∷ rest) n m h =
    let one = one_letter now letter m.chart in
    let long = length-append m.marks (letter_move now letter m.chart).marks in
    all_letters now rest n (then_move (letter_move now letter) m) (omega (arith, h, one, long))

one_left : (c : ChartState) → marks_left c.phase ≤ 1
one_left c = search rules

few_control : (letters : List ControlLetter) (now : ℕ) (c : ChartState) → Few (control_move letters now c)
few_control letters now c =
    let one = one_left c in
    let all = all_letters now letters 1 (no_move c) (omega (arith, one)) in
    omega (arith, all)

few_changed : (change : Change) (now : ℕ) (c : ChartState) → Few (changed_by change now c)
few_changed (Report (Started _ generation pid)) now c = search rules
few_changed (Report (StartFailed _ generation)) now c = search rules
few_changed (Report (Notify _ generation bytes)) now c = search rules
few_changed (Report (Death _ generation exit)) now c = search rules
few_changed (Report (FinishEnded _ generation exit)) now c = search rules
few_changed (Control letters) now c = few_control letters.items now c
few_changed Fire now c = few_fire now c
few_changed (SetConfig config) now c = search rules
few_changed (SetActive active) now c = search rules

few_either : (b : Bool) (x y : Moved) → Few x → Few y → Few (cond b x y)
few_either true x y hx hy = hx
few_either false x y hx hy = hy

few_commanded : (order : ScanOrder) (now : ℕ) (c : ChartState) → Few (command_move order now c)
few_commanded Nuke now c = few_either c.active (no_move c) (control_move leave_letters now c) (omega arith) (few_control leave_letters now c)
few_commanded Terminate now c = few_control leave_letters now (with_activity false now c)

few_events : (move : ChartState → Moved) (cs : List ChartState) → ((c : ChartState) → Few (move c)) → length (events_after move cs) ≤ 4 * length cs
few_events move [] few = omega arith
few_events move (c ∷ cs) few =
    let rest = few_events move cs few in
    let here = few c in
    let long = length-append (events_of_move c.sid (move c)) (events_after move cs) in
    let mapped = length-map (move c).marks (service_mark c.sid) in
    omega (arith, rest, here, long, mapped)

-- a new service gives one mark
first_mark : (sid : ℕ) (name : List ℕ) (config : Config) → length (begin_move (new_service sid name config)).marks ≤ 4
first_mark sid name config = search rules

-- each new service brings few marks
abbrev Brings : ScanState → ScanState → Type 0
Brings g h = length h.events + 4 * length g.services ≤ length g.events + 4 * length h.services

brings_either : (g : ScanState) (b : Bool) (x y : ScanState) → Brings g x → Brings g y → Brings g (cond b x y)
brings_either g true x y hx hy = hx
brings_either g false x y hx hy = hy

brings_service : (config : Config) (g : ScanState) (name : List ℕ) → Brings g (with_service config g name)
brings_service config g name =
    let moved = begin_move (new_service g.next_sid name config) in
    let few = first_mark g.next_sid name config in
    let events = length-append g.events (events_of_move g.next_sid moved) in
    let mapped = length-map moved.marks (service_mark g.next_sid) in
    let services = length-append g.services (moved.chart ∷ []) in
    omega (arith, few, events, mapped, services)

brings_new : (found : Option Config) (g : ScanState) (name : List ℕ) → Brings g (with_new_name found g name)
brings_new None g name = omega arith
brings_new (Some config) g name = brings_either g (nat_lt (length g.services) service_limit) (with_service config g name) _
    (brings_service config g name) (omega arith)

brings_all : (listing : List Entry) (g : ScanState) (names : List (List ℕ)) → Brings g (with_names listing g names)
brings_all listing g [] = omega arith
brings_all listing g (name ∷ names) =
    let one : Brings g (with_name listing g name) =
    brings_either g (stands name g.services) g _ (omega arith) (brings_new (listed_config listing name) g name) in
    let rest = brings_all listing (with_name listing g name) names in
    omega (arith, one, rest)

few_worked : (work : Work) (now : ℕ) (cs : List ChartState) (next : ℕ) → length cs ≤ service_limit
    → length (work_result work now cs next).events ≤ 4 * service_limit
few_worked do_nothing now cs next few = omega arith
few_worked (change_one sid change) now cs next few =
    let all = few_events (change_move_at sid change now) cs
    (λ c. few_either (c.sid == sid) (changed_by change now c) (no_move c) (few_changed change now c) (omega arith)) in omega (arith, all, few)
few_worked (command order) now cs next few = let all = few_events (command_move order now) cs (few_commanded order now) in omega (arith, all, few)
few_worked (apply_listing listing) now cs next few =
    let start = scan_state_from (filter stays (after_looks listing now cs)) next in
    let all = brings_all listing start (in_byte_order (names_in listing)) in
    let most = work_few (apply_listing listing) now cs next few in
    omega (arith, all, most)

pub step_events : (work : Work) (now : ℕ) (cs : List ChartState) (next : ℕ) → length cs ≤ service_limit
    → length (step_result work now cs next).events ≤ 8 * service_limit
step_events work now cs next few =
    let timers = few_events (fire_move now) cs (few_fire now) in
    let fired = fired_few now cs few in
    let rest = few_worked work now (services_after (fire_move now) cs) next fired in
    let long = length-append (events_after (fire_move now) cs) (work_result work now (services_after (fire_move now) cs) next).events in
    omega (arith, timers, rest, long, few)
