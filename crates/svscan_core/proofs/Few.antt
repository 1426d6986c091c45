-- No step leaves more services than may stand, nor gives more serials than that, nor gives a serial again.
use Rattle.std.proofs.Common.{◌≡◌, ℕ, ◌+◌, ◌≤◌, List, [], ◌∷◌, Bool, true, false, cond, refl, filter, length, arith}
use Rattle.std.specs.Prelude.{nat_lt, Option, Some, None}
use Rattle.std.proofs.lemmas.Bool.Decides.{nat_tests}
use Rattle.std.proofs.lemmas.List.{length-map, length-append}
use Rattle.servicedir.specs.declared.config.Config.{Config}
use Rattle.supervise_core.specs.declared.chart_state.ChartState.{ChartState}
use Rattle.supervise_core.specs.ChartState.{new_service}
use Rattle.supervise_core.specs.Moves.{begin_move}
use Rattle.supervise_core.specs.Chart.{fire_move}
use Rattle.svscan_core.specs.declared.entry.Entry.{Entry}
use Rattle.svscan_core.specs.Listing.{in_byte_order, names_in, listed_config}
use Rattle.svscan_core.specs.Moves.{services_after}
use Rattle.svscan_core.specs.Scan.{ScanState, after_look, after_looks, stays, stands, service_limit, scan_state_from, with_service, with_new_name}
use Rattle.svscan_core.specs.Scan.{with_name, with_names}
use Rattle.svscan_core.specs.Work.{Work, work_result, step_result, change_move_at, command_move}
use Rattle.svscan_core.specs.Work.Work.{do_nothing, change_one, apply_listing, command}

-- one state grew from another: the limit holds, each serial that was given has its service, and the next one is no lower
pub record Grew (g h : ScanState) : Type 0 where
  pub few : length h.services ≤ service_limit
  pub next : h.next_sid + length g.services ≤ g.next_sid + length h.services
  pub later : g.next_sid ≤ h.next_sid

grew_not : (g : ScanState) → length g.services ≤ service_limit → Grew g g
grew_not g few = record { few = few; next = omega arith; later = omega arith }

grew_one : (config : Config) (g : ScanState) (name : List ℕ) (b : Bool) → nat_lt (length g.services) service_limit ≡ b
    → length g.services ≤ service_limit
    → (full : ScanState)
    → Grew g full → Grew g (cond b (with_service config g name) full)
grew_one config g name true lt few full same =
    let more : length (with_service config g name).services ≡ length g.services + 1 =
    length-append g.services ((begin_move (new_service g.next_sid name config)).chart ∷ []) in
    let room : length g.services + 1 ≤ service_limit = below (length g.services) lt in
    record { few = omega (arith, more, room); next = omega (arith, more); later = omega arith }
  where
    below : (n : ℕ) → nat_lt n service_limit ≡ true → n + 1 ≤ service_limit
    below n h = grind (arith, nat_tests)
grew_one config g name false lt few full same = same

grew_new : (found : Option Config) (g : ScanState) (name : List ℕ) → length g.services ≤ service_limit → Grew g (with_new_name found g name)
grew_new None g name few = record { few = few; next = omega arith; later = omega arith }
grew_new (Some config) g name few =
    grew_one config g name (nat_lt (length g.services) service_limit) refl few _ (record { few = few; next = omega arith; later = omega arith })

grew_named : (listing : List Entry) (g : ScanState) (name : List ℕ) → length g.services ≤ service_limit → Grew g (with_name listing g name)
grew_named listing g name few = by (stands name g.services)
  where
    by : (b : Bool) → Grew g (cond b g (with_new_name (listed_config listing name) g name))
    by true = grew_not g few
    by false = grew_new (listed_config listing name) g name few

-- one name after the other
pub names_grew : (listing : List Entry) (g : ScanState) (names : List (List ℕ)) → length g.services ≤ service_limit
    → Grew g (with_names listing g names)
names_grew listing g [] few = grew_not g few
names_grew listing g (name ∷ names) few =
    let one = grew_named listing g name few in
    let rest = names_grew listing (with_name listing g name) names one.few in
    let a = one.next in let b = rest.next in let c = one.later in let d = rest.later in
    record { few = rest.few; next = omega (arith, a, b); later = omega (arith, c, d) }

pub length-filter : (p : ChartState → Bool) (cs : List ChartState) → length (filter p cs) ≤ length cs
length-filter p [] = omega arith
length-filter p (c ∷ cs) = by (p c) (length-filter p cs)
  where
    by : (b : Bool) → length (filter p cs) ≤ length cs → length (cond b (c ∷ filter p cs) (filter p cs)) ≤ length (c ∷ cs)
    by true h = omega (arith, h)
    by false h = omega (arith, h)

-- fewer than the limit stay of those that are looked at
pub few_stay : (listing : List Entry) (now : ℕ) (cs : List ChartState) → length cs ≤ service_limit
    → length (filter stays (after_looks listing now cs)) ≤ service_limit
few_stay listing now cs few =
    let a = length-filter stays (after_looks listing now cs) in let b = length-map cs (after_look listing now) in omega (arith, a, b, few)

pub work_few : (work : Work) (now : ℕ) (cs : List ChartState) (next : ℕ) → length cs ≤ service_limit
    → length (work_result work now cs next).services ≤ service_limit
work_few do_nothing now cs next few = few
work_few (change_one sid change) now cs next few = let a =
    length-map cs (λ (c : ChartState). (change_move_at sid change now c).chart) in omega (arith, a, few)
work_few (command order) now cs next few = let a = length-map cs (λ (c : ChartState). (command_move order now c).chart) in omega (arith, a, few)
work_few (apply_listing listing) now cs next few = (names_grew listing _ (in_byte_order (names_in listing)) (few_stay listing now cs few)).few

work_next : (work : Work) (now : ℕ) (cs : List ChartState) (next : ℕ) → length cs ≤ service_limit
    → (work_result work now cs next).next_sid ≤ next + service_limit
work_next do_nothing now cs next few = omega arith
work_next (change_one sid change) now cs next few = omega arith
work_next (command order) now cs next few = omega arith
work_next (apply_listing listing) now cs next few =
    let g = names_grew listing (scan_state_from (filter stays (after_looks listing now cs)) next) (in_byte_order (names_in listing))
    (few_stay listing now cs few) in
    let a = g.few in let b = g.next in omega (arith, a, b)

pub work_later : (work : Work) (now : ℕ) (cs : List ChartState) (next : ℕ) → length cs ≤ service_limit
    → next ≤ (work_result work now cs next).next_sid
work_later do_nothing now cs next few = omega arith
work_later (change_one sid change) now cs next few = omega arith
work_later (command order) now cs next few = omega arith
work_later (apply_listing listing) now cs next few =
    (names_grew listing (scan_state_from (filter stays (after_looks listing now cs)) next) (in_byte_order (names_in listing))
    (few_stay listing now cs few)).later

pub fired_few : (now : ℕ) (cs : List ChartState) → length cs ≤ service_limit → length (services_after (fire_move now) cs) ≤ service_limit
fired_few now cs few = let a = length-map cs (λ (c : ChartState). (fire_move now c).chart) in omega (arith, a, few)

pub step_few : (work : Work) (now : ℕ) (cs : List ChartState) (next : ℕ) → length cs ≤ service_limit
    → length (step_result work now cs next).services ≤ service_limit
step_few work now cs next few = work_few work now (services_after (fire_move now) cs) next (fired_few now cs few)

pub step_next : (work : Work) (now : ℕ) (cs : List ChartState) (next : ℕ) → length cs ≤ service_limit
    → (step_result work now cs next).next_sid ≤ next + service_limit
step_next work now cs next few = work_next work now (services_after (fire_move now) cs) next (fired_few now cs few)
