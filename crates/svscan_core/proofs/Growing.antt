-- A step orders at most one run of a service by its timers, and one more by its work.
use Rattle.std.proofs.Common.{ℕ, ◌+◌, ◌≤◌, ◌==◌, arith, List, [], ◌∷◌, get_or, Bool, true, false, cond, rules}
use Rattle.std.specs.Prelude.{All, nat_lt, length, Option, Some, None}
use Rattle.std.proofs.lemmas.List.Elements.{All-map, All-filter, All-push}
use Rattle.servicedir.specs.declared.config.Config.{Config}
use Rattle.supervise_core.specs.declared.chart_state.ChartState.{ChartState}
use Rattle.supervise_core.specs.declared.change.Change.TheVariants.{Control}
use Rattle.supervise_core.specs.ChartState.{Moved, new_service}
use Rattle.supervise_core.specs.Moves.{begin_move}
use Rattle.supervise_core.specs.Chart.{fire_move, with_activity}
use Rattle.supervise_core.proofs.Growth.{Grows, grows_either, grows_changed, grows_fire}
use Rattle.svscan_core.specs.declared.entry.Entry.{Entry}
use Rattle.svscan_core.specs.declared.entry.ScanOrder.{ScanOrder}
use Rattle.svscan_core.specs.declared.entry.ScanOrder.TheVariants.{Nuke, Terminate}
use Rattle.svscan_core.specs.Listing.{names_in, has_entry, listed_config, in_byte_order}
use Rattle.svscan_core.specs.Moves.{services_after}
use Rattle.svscan_core.specs.Scan.{ScanState, with_read_config, after_look, after_looks, stays, stands, service_limit, with_service, with_new_name}
use Rattle.svscan_core.specs.Scan.{with_name, with_names}
use Rattle.svscan_core.specs.Work.{Work, work_result, step_result, change_move_at, command_move, leave_letters}
use Rattle.svscan_core.specs.Work.Work.{do_nothing, change_one, apply_listing, command}

-- no generation is above n
abbrev pub Below : ℕ → List ChartState → Type 0
Below n cs = All (λ c. c.generation ≤ n) cs

more : (n : ℕ) (cs : List ChartState) → Below n cs → Below (n + 1) cs
more n cs h = λ k d lt. let here : (get_or cs k d).generation ≤ n = h k d lt in omega arith

-- where each move orders at most one run, no generation passes one more
all_grow : (move : ChartState → Moved) (n : ℕ) (cs : List ChartState) → ((c : ChartState) → Grows c (move c)) → Below n cs
    → Below (n + 1) (services_after move cs)
all_grow move n cs grows h =
    All-map (λ c. c.generation ≤ n + 1) (λ c. (move c).chart) cs
    (λ k d lt. let here : (get_or cs k d).generation ≤ n =
    h k d lt in let one : (move (get_or cs k d)).chart.generation ≤ (get_or cs k d).generation + 1 = grows (get_or cs k d) in omega arith)

same_runs : (active : Bool) (now : ℕ) (c : ChartState) → (with_activity active now c).generation ≤ c.generation
same_runs active now c = search rules

grows_commanded : (order : ScanOrder) (now : ℕ) (c : ChartState) → Grows c (command_move order now c)
grows_commanded Nuke now c = grows_either c.active c _ _ (omega arith) (grows_changed (Control (record { items = leave_letters })) now c)
grows_commanded Terminate now c =
    let grown = grows_changed (Control (record { items = leave_letters })) now (with_activity false now c) in
    let same = same_runs false now c in
    omega (arith, grown, same)

either_grown : (n : ℕ) (b : Bool) (x y : ScanState) → Below n x.services → Below n y.services → Below n (cond b x y).services
either_grown n true x y hx hy = hx
either_grown n false x y hx hy = hy

configured_runs : (found : Option Config) (c : ChartState) (n : ℕ) → c.generation ≤ n → (with_read_config found c).generation ≤ n
configured_runs None c n h = h
configured_runs (Some config) c n h = h

looked : (listing : List Entry) (now n : ℕ) (cs : List ChartState) → Below n cs → Below n (after_looks listing now cs)
looked listing now n cs h =
    All-map (λ c. c.generation ≤ n) (after_look listing now) cs
    (λ k d lt.
    let here : (get_or cs k d).generation ≤ n = h k d lt in
    let same = same_runs (has_entry listing (get_or cs k d).name) now (get_or cs k d) in
    configured_runs (listed_config listing (get_or cs k d).name) (with_activity (has_entry listing (get_or cs k d).name) now (get_or cs k d)) n
    (omega (arith, here, same)))

first_run : (sid : ℕ) (name : List ℕ) (config : Config) → (begin_move (new_service sid name config)).chart.generation ≤ 1
first_run sid name config = search rules

new_named : (n : ℕ) (found : Option Config) (g : ScanState) (name : List ℕ) → Below (n + 1) g.services
    → Below (n + 1) (with_new_name found g name).services
new_named n None g name h = h
new_named n (Some config) g name h =
    either_grown (n + 1) (nat_lt (length g.services) service_limit) (with_service config g name) _
    (All-push (λ c. c.generation ≤ n + 1) g.services (begin_move (new_service g.next_sid name config)).chart h
    (omega (arith, first_run g.next_sid name config))) h

all_named : (listing : List Entry) (n : ℕ) (g : ScanState) (names : List (List ℕ)) → Below (n + 1) g.services
    → Below (n + 1) (with_names listing g names).services
all_named listing n g [] h = h
all_named listing n g (name ∷ names) h =
    all_named listing n (with_name listing g name) names
    (either_grown (n + 1) (stands name g.services) g _ h (new_named n (listed_config listing name) g name h))

work_grows : (work : Work) (now : ℕ) (cs : List ChartState) (next n : ℕ) → Below n cs → Below (n + 1) (work_result work now cs next).services
work_grows do_nothing now cs next n h = more n cs h
work_grows (change_one sid change) now cs next n h =
    all_grow (change_move_at sid change now) n cs (λ c. grows_either (c.sid == sid) c _ _ (grows_changed change now c) (omega arith)) h
work_grows (command order) now cs next n h = all_grow (command_move order now) n cs (grows_commanded order now) h
work_grows (apply_listing listing) now cs next n h =
    all_named listing n _ (in_byte_order (names_in listing)) (more n _ (All-filter stays (λ c. c.generation ≤ n) _ (looked listing now n cs h)))

pub step_grows : (work : Work) (now : ℕ) (cs : List ChartState) (next n : ℕ) → Below n cs → Below (n + 2) (step_result work now cs next).services
step_grows work now cs next n h = λ k d lt.
    let here : (get_or (step_result work now cs next).services k d).generation ≤ n + 1 + 1 =
    work_grows work now (services_after (fire_move now) cs) next (n + 1) (all_grow (fire_move now) n cs (grows_fire now) h) k d lt in
    omega arith
