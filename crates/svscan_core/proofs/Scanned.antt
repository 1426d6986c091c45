-- A scan, from what it drops and adds.
use Rattle.std.proofs.Common.{◌≡◌, ℕ, List, [], ◌∷◌, ◌++◌, Bool, true, false, ◌||◌, cond, refl, sym, ◌∙◌, ap, subst, filter, length, map, flat_map}
use Rattle.std.proofs.Common.{append-nil, append_assoc}
use Rattle.std.specs.Prelude.{nat_lt, bytes_eq, Option, Some, None}
use Rattle.std.specs.List.{list_any}
use Rattle.std.specs.Cmp.Lexicographic.{bytes_decides}
use Rattle.std.proofs.lemmas.List.{map-append}
use Rattle.s6_events.specs.declared.moment.Moment.{Moment}
use Rattle.s6_events.specs.declared.order.Order.{Order}
use Rattle.servicedir.specs.declared.config.Config.{Config}
use Rattle.supervise_core.specs.declared.chart_state.ChartState.{ChartState}
use Rattle.supervise_core.specs.ChartState.{new_service, is_gone, no_move}
use Rattle.supervise_core.specs.Chart.{with_activity}
use Rattle.supervise_core.specs.Moves.{begin_move}
use Rattle.supervise_core.specs.Service.{Supervised, AgreesWith}
use Rattle.svscan_core.specs.declared.entry.Entry.{Entry}
use Rattle.svscan_core.specs.declared.event.Event.{Event}
use Rattle.svscan_core.specs.Adding.{Adding, state_behind, GoesOn}
use Rattle.svscan_core.specs.Deaths.{DeathOf, IsTallied, AllTallied, AllBefore}
use Rattle.svscan_core.specs.Listing.{names_in, has_entry, listed_config, in_byte_order}
use Rattle.svscan_core.specs.Moves.{moment_of, events_of_move}
use Rattle.svscan_core.specs.Moving.{StepSoFar, Takes}
use Rattle.svscan_core.specs.Names.{lists, repeats_name}
use Rattle.svscan_core.specs.Scan.{ScanState, with_read_config, after_look, after_looks, stays, leaves, stands, service_limit, scan_state_from}
use Rattle.svscan_core.specs.Scan.{with_service, with_new_name, with_name, with_names, after_scan}
use Rattle.svscan_core.specs.Scanning.{without_names}
use Rattle.svscan_core.specs.Sound.{AllAgree, IsNumbered}
use Rattle.svscan_core.specs.Table.{charts_of, names_of}
use Rattle.svscan_core.proofs.Additions.{FindsEach}
use Rattle.svscan_core.proofs.Dropping.{without_dropped, without_all}
use Rattle.svscan_core.proofs.ListingOrder.{all_found}
use Rattle.svscan_core.proofs.Names.{looked_names, stands_listed, keeps_look}
use Rattle.svscan_core.proofs.SerialsRise.{looked_serials, same_serials, numbered_filtered}
use Rattle.svscan_core.proofs.Truth.{either_left}

-- a listed service is active, and so it stays
active_either : (b : Bool) (x y : ChartState) → x.active ≡ true → y.active ≡ true → (cond b x y).active ≡ true
active_either true x y hx hy = hx
active_either false x y hx hy = hy

active_set : (now : ℕ) (c : ChartState) → (with_activity true now c).active ≡ true
active_set now c = active_either (is_gone c.phase) _ _ refl refl

active_configured : (found : Option Config) (c : ChartState) → (with_read_config found c).active ≡ c.active
active_configured None c = refl
active_configured (Some config) c = refl

listed_stays : (listing : List Entry) (now : ℕ) (c : ChartState) → has_entry listing c.name ≡ true → stays (after_look listing now c) ≡ true
listed_stays listing now c h =
    either_left (after_look listing now c).active _
    (active_configured (listed_config listing c.name) (with_activity (has_entry listing c.name) now c)
    ∙ (ap (λ b. (with_activity b now c).active) h ∙ active_set now c))

-- so a listed name stands after the drops where it stood before
pub listed_stands : (listing : List Entry) (now : ℕ) (name : List ℕ) (cs : List ChartState) → has_entry listing name ≡ true
    → stands name (filter stays (after_looks listing now cs)) ≡ stands name cs
listed_stands listing now name [] h = refl
listed_stands listing now name (c ∷ cs) h =
    named (bytes_eq name c.name) refl (listed_stands listing now name cs h)
  where
    d : ChartState
    d = after_look listing now c

    same : bytes_eq name d.name ≡ bytes_eq name c.name
    same = ap (bytes_eq name) (keeps_look listing now c).name

    kept : (b : Bool) → bytes_eq name c.name ≡ false → stands name (filter stays (after_looks listing now cs)) ≡ stands name cs
        → stands name (cond b (d ∷ filter stays (after_looks listing now cs)) (filter stays (after_looks listing now cs)))
        ≡ (false || stands name cs)
    kept true e rest = ap (λ b. b || stands name (filter stays (after_looks listing now cs))) (same ∙ e) ∙ rest
    kept false e rest = rest

    named : (b : Bool) → bytes_eq name c.name ≡ b → stands name (filter stays (after_looks listing now cs)) ≡ stands name cs
        → stands name (cond (stays d) (d ∷ filter stays (after_looks listing now cs)) (filter stays (after_looks listing now cs)))
        ≡ (bytes_eq name c.name || stands name cs)
    named true e rest =
        ap (λ b. stands name (cond b (d ∷ filter stays (after_looks listing now cs)) (filter stays (after_looks listing now cs))))
        (listed_stays listing now c (ap (has_entry listing) (sym ((bytes_decides name c.name).0 e)) ∙ h))
        ∙ (either_left (bytes_eq name d.name) _ (same ∙ e) ∙ sym (either_left (bytes_eq name c.name) _ e))
    named false e rest = kept (stays d) e rest ∙ sym (ap (λ b. b || stands name cs) e)

-- what the order of bytes lists is listed
pub is_in : (listing : List Entry) (name : List ℕ) → lists (names_in listing) name ≡ has_entry listing name
is_in [] name = refl
is_in (e ∷ listing) name = ap (λ b. bytes_eq name e.name || b) (is_in listing name)

ordered_listed : (listing : List Entry) (name : List ℕ) → lists (in_byte_order (names_in listing)) name ≡ true → has_entry listing name ≡ true
ordered_listed listing name h = sym (is_in listing name) ∙ (sym (all_found name [] (names_in listing)) ∙ h)

-- a name stands where one of the services has it
stands_any : (name : List ℕ) (services : List Supervised) → stands name (charts_of services) ≡ list_any (λ s. bytes_eq name s.chart.name) services
stands_any name [] = refl
stands_any name (s ∷ services) = ap (λ b. bytes_eq name s.chart.name || b) (stands_any name services)

pub finds_each : (listing : List Entry) (now : ℕ) (cs : List ChartState) (slots : List Supervised) → names_of cs ≡ names_of (charts_of slots)
    → FindsEach (in_byte_order (names_in listing)) (filter stays (after_looks listing now cs)) slots
finds_each listing now cs slots same = λ name listed.
    listed_stands listing now name cs (ordered_listed listing name listed)
    ∙ (sym (stands_listed name cs)
    ∙ (ap (λ ns. lists ns name) same
    ∙ (stands_listed name (charts_of slots)
    ∙ stands_any name slots)))

-- what was given before the additions
abbrev pub given_before : List Event → List Order → ScanState → ScanState
given_before events orders g = record g { events = events ++ g.events; orders = orders ++ g.orders }

before_either : (events : List Event) (orders : List Order) (b : Bool) (x y u v : ScanState) → x ≡ given_before events orders u
    → y ≡ given_before events orders v
    → cond b x y ≡ given_before events orders (cond b u v)
before_either events orders true x y u v hx hy = hx
before_either events orders false x y u v hx hy = hy

before_service : (events : List Event) (orders : List Order) (config : Config) (g : ScanState) (name : List ℕ)
    → with_service config (given_before events orders g) name ≡ given_before events orders (with_service config g name)
before_service events orders config g name =
    let es = append_assoc events g.events (events_of_move g.next_sid (begin_move (new_service g.next_sid name config))) in
    let os = append_assoc orders g.orders (begin_move (new_service g.next_sid name config)).orders in
    λ i. record (with_service config g name) { events = es i; orders = os i }

before_new : (events : List Event) (orders : List Order) (found : Option Config) (g : ScanState) (name : List ℕ)
    → with_new_name found (given_before events orders g) name ≡ given_before events orders (with_new_name found g name)
before_new events orders None g name = refl
before_new events orders (Some config) g name =
    before_either events orders (nat_lt (length g.services) service_limit) (with_service config (given_before events orders g) name) _
    (with_service config g name) _
    (before_service events orders config g name) refl

before_named : (events : List Event) (orders : List Order) (listing : List Entry) (g : ScanState) (name : List ℕ)
    → with_name listing (given_before events orders g) name ≡ given_before events orders (with_name listing g name)
before_named events orders listing g name =
    before_either events orders (stands name g.services) (given_before events orders g) _ g _ refl
    (before_new events orders (listed_config listing name) g name)

before_names : (events : List Event) (orders : List Order) (listing : List Entry) (g : ScanState) (names : List (List ℕ))
    → with_names listing (given_before events orders g) names ≡ given_before events orders (with_names listing g names)
before_names events orders listing g [] = refl
before_names events orders listing g (name ∷ names) =
    ap (λ x. with_names listing x names) (before_named events orders listing g name)
    ∙ before_names events orders listing (with_name listing g name) names

-- what the drops and the additions lead to
pub record LeadsToScanned (listing : List Entry) (now next : ℕ) (standing visited : List Supervised) (dropped : List (List ℕ))
    (mid new : Adding) : Type 0 where
  pub services : charts_of (without_names visited dropped ++ new.added) ≡ (after_scan listing now (charts_of standing) next).services
  pub given : state_behind (filter stays (charts_of visited)) new
      ≡ given_before mid.events mid.orders (after_scan listing now (charts_of standing) next)
  pub agrees : (history : List Moment) → AllAgree visited (history ++ map moment_of mid.events)
      → AllAgree (without_names visited dropped ++ new.added) (history ++ map moment_of new.events)
  pub tallies : (deaths : List DeathOf) → AllBefore next deaths → AllTallied visited deaths
      → AllTallied (without_names visited dropped ++ new.added) deaths

pub leads_to_scanned : (listing : List Entry) (now next : ℕ) (slots standing visited : List Supervised) (dropped sorted : List (List ℕ))
    (mid new : Adding)
    → charts_of visited ≡ after_looks listing now (charts_of standing)
    → repeats_name (names_of (charts_of standing)) ≡ false → IsNumbered next (charts_of standing)
    → names_of (charts_of standing) ≡ names_of (charts_of slots)
    → dropped ≡ names_of (filter leaves (charts_of visited)) → sorted ≡ in_byte_order (names_in listing)
    → mid.added ≡ [] → mid.next_sid ≡ next → mid.listed ≡ []
    → ((services : List ChartState) → length services ≡ length (filter stays (charts_of visited))
    → FindsEach sorted (services ++ charts_of mid.added) slots
    → state_behind services new ≡ with_names listing (state_behind services mid) sorted)
    → ((services : List Supervised) → IsNumbered mid.next_sid (charts_of (services ++ mid.added)) → GoesOn services mid new)
    → LeadsToScanned listing now next standing visited dropped mid new
leads_to_scanned listing now next slots standing visited dropped sorted mid new looked once numbered same drops order none at unlisted state goes_on
    =
    let kept = filter stays (charts_of visited) in
    let stay : kept ≡ filter stays (after_looks listing now (charts_of standing)) = ap (filter stays) looked in
    let behind_none : kept ++ charts_of mid.added ≡ kept = ap (λ ss. kept ++ charts_of ss) none ∙ append-nil kept in
    let finds : FindsEach sorted (kept ++ charts_of mid.added) slots =
    subst (λ (ns : List (List ℕ)). FindsEach ns (kept ++ charts_of mid.added) slots) (sym order)
    (subst (λ (cs : List ChartState). FindsEach (in_byte_order (names_in listing)) cs slots) (sym (behind_none ∙ stay))
    (finds_each listing now (charts_of standing) slots same)) in
    let start : state_behind kept mid ≡ given_before mid.events mid.orders
    (scan_state_from (filter stays (after_looks listing now (charts_of standing))) next) =
    starts kept (filter stays (after_looks listing now (charts_of standing))) (behind_none ∙ stay) in
    let given : state_behind kept new ≡ given_before mid.events mid.orders (after_scan listing now (charts_of standing) next) =
    state kept refl finds
    ∙ (ap (λ g. with_names listing g sorted) start
    ∙ (ap (with_names listing (given_before mid.events mid.orders
    (scan_state_from (filter stays (after_looks listing now (charts_of standing))) next))) order
    ∙ before_names mid.events mid.orders listing (scan_state_from (filter stays (after_looks listing now (charts_of standing))) next)
    (in_byte_order (names_in listing)))) in
    let once_looked : repeats_name (names_of (charts_of visited)) ≡ false =
    ap (λ cs. repeats_name (names_of cs)) looked ∙ (ap repeats_name (looked_names listing now (charts_of standing)) ∙ once) in
    let left : charts_of (without_names visited dropped) ≡ kept =
    ap (λ ns. charts_of (without_names visited ns)) drops ∙ without_dropped visited once_looked in
    let numbered_looked : IsNumbered next (charts_of visited) =
    subst (λ (cs : List ChartState). IsNumbered next cs) (sym looked)
    (same_serials next (charts_of standing) (after_looks listing now (charts_of standing))
    (looked_serials listing now (charts_of standing)) numbered) in
    let numbered_left : IsNumbered next (charts_of (without_names visited dropped)) =
    subst (λ (cs : List ChartState). IsNumbered next cs) (sym left) (numbered_filtered stays next (charts_of visited) numbered_looked) in
    let none_behind : without_names visited dropped ++ mid.added ≡ without_names visited dropped =
    ap (λ ss. without_names visited dropped ++ ss) none ∙ append-nil (without_names visited dropped) in
    let goes = goes_on (without_names visited dropped)
    (subst (λ (n : ℕ). IsNumbered n (charts_of (without_names visited dropped ++ mid.added))) (sym at)
    (subst (λ (ss : List Supervised). IsNumbered next (charts_of ss)) (sym none_behind) numbered_left)) in
    record {
      services =
          map-append (λ (s : Supervised). s.chart) (without_names visited dropped) new.added
          ∙ (ap (λ cs. cs ++ charts_of new.added) left
          ∙ ap (λ (g : ScanState). g.services) given);
      given = given;
      agrees = λ h all. goes.agrees h (subst (λ (ss : List Supervised). AllAgree ss (h ++ map moment_of mid.events)) (sym none_behind)
          (without_all (λ (x : Supervised). AgreesWith x (h ++ map moment_of mid.events)) visited dropped all));
      tallies = λ deaths before all. goes.tallies deaths (subst (λ (n : ℕ). AllBefore n deaths) (sym at) before)
          (subst (λ (ss : List Supervised). AllTallied ss deaths) (sym none_behind)
          (without_all (λ (x : Supervised). IsTallied x deaths) visited dropped all));
    }
  where
    starts : (kept stayed : List ChartState) → kept ++ charts_of mid.added ≡ stayed
        → state_behind kept mid ≡ given_before mid.events mid.orders (scan_state_from stayed next)
    starts kept stayed e =
        let es = sym (append-nil mid.events) in
        let os = sym (append-nil mid.orders) in
        λ i. record { services = e i; next_sid = at i; listed = unlisted i; events = es i; orders = os i }

-- a look at a directory gives nothing
looks_give : {X : Type 0} (none : List X) (cs : List ChartState) → none ≡ [] → flat_map (λ (c : ChartState). none) cs ≡ []
looks_give none [] h = refl
looks_give none (c ∷ cs) h = ap (λ xs. xs ++ flat_map (λ (d : ChartState). none) cs) h ∙ looks_give none cs h

pub same_events : (now : ℕ) (listing : List Entry) (old new : StepSoFar) → Takes now (λ c. no_move (after_look listing now c)) old new
    → new.events ≡ old.events
same_events now listing old new takes =
    let none : List Event = [] in
    takes.events ∙ (ap (λ es. old.events ++ es) (looks_give none (charts_of old.services) refl) ∙ append-nil old.events)

pub same_orders : (now : ℕ) (listing : List Entry) (old new : StepSoFar) → Takes now (λ c. no_move (after_look listing now c)) old new
    → new.orders ≡ old.orders
same_orders now listing old new takes =
    let none : List Order = [] in
    takes.orders ∙ (ap (λ os. old.orders ++ os) (looks_give none (charts_of old.services) refl) ∙ append-nil old.orders)
