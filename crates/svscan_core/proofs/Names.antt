-- No two services have one name, before a step and after it.
use Rattle.std.proofs.Common.{◌≡◌, ℕ, List, [], ◌∷◌, ◌++◌, Bool, true, false, ◌||◌, ◌==◌, cond, refl, ◌∙◌, ap, filter}
use Rattle.std.specs.Prelude.{bytes_eq, nat_lt, length, Option, Some, None}
use Rattle.std.proofs.lemmas.List.{map-append}
use Rattle.servicedir.specs.declared.config.Config.{Config}
use Rattle.supervise_core.specs.declared.chart_state.ChartState.{ChartState}
use Rattle.supervise_core.specs.declared.change.Change.{Change}
use Rattle.supervise_core.specs.declared.change.Change.TheVariants.{Control}
use Rattle.supervise_core.specs.ChartState.{Moved, new_service, no_move}
use Rattle.supervise_core.specs.Moves.{begin_move}
use Rattle.supervise_core.specs.Chart.{fire_move, control_move, with_activity}
use Rattle.supervise_core.proofs.Identity.{IsSame, KeepsIdentity, keeps_fire, keeps_changed, keeps_active, keeps_begin}
use Rattle.svscan_core.specs.declared.entry.Entry.{Entry}
use Rattle.svscan_core.specs.declared.entry.ScanOrder.{ScanOrder}
use Rattle.svscan_core.specs.declared.entry.ScanOrder.TheVariants.{Nuke, Terminate}
use Rattle.svscan_core.specs.Listing.{in_byte_order, names_in, has_entry, listed_config}
use Rattle.svscan_core.specs.Moves.{services_after}
use Rattle.svscan_core.specs.Names.{lists, repeats_name}
use Rattle.svscan_core.specs.Scan.{ScanState, with_read_config, after_look, after_looks, stays, stands, service_limit, with_service, with_new_name}
use Rattle.svscan_core.specs.Scan.{with_name, with_names}
use Rattle.svscan_core.specs.Table.{names_of}
use Rattle.svscan_core.specs.Work.{Work, work_result, step_result, change_move_at, leave_letters, command_move}
use Rattle.svscan_core.specs.Work.Work.{do_nothing, change_one, apply_listing, command}
use Rattle.svscan_core.proofs.ListingOrder.{repeats_last}
use Rattle.svscan_core.proofs.Truth.{neither_left, neither_right, neither_of}

-- a move that keeps each name keeps the names
pub names_moved : (move : ChartState → Moved) → ((c : ChartState) → KeepsIdentity c (move c)) → (cs : List ChartState)
    → names_of (services_after move cs) ≡ names_of cs
names_moved move keeps [] = refl
names_moved move keeps (c ∷ cs) = λ i. (keeps c).name i ∷ names_moved move keeps cs i

pub keeps_either : (b : Bool) (c : ChartState) (x y : Moved) → KeepsIdentity c x → KeepsIdentity c y → KeepsIdentity c (cond b x y)
keeps_either true c x y hx hy = hx
keeps_either false c x y hx hy = hy

pub keeps_still : (c : ChartState) → IsSame c c
keeps_still c = record { sid = refl; name = refl; most = refl }

-- the letters of a service that leaves
keeps_letters : (now : ℕ) (c : ChartState) → KeepsIdentity c (control_move leave_letters now c)
keeps_letters now c = keeps_changed (Control (record { items = leave_letters })) now c

-- an order of all services, and a look at the directory of one
pub keeps_commanded : (order : ScanOrder) (now : ℕ) (c : ChartState) → KeepsIdentity c (command_move order now c)
keeps_commanded Nuke now c = keeps_either c.active c _ _ (keeps_still c) (keeps_letters now c)
keeps_commanded Terminate now c =
    let quiet = keeps_active false now c in
    let told = keeps_letters now (with_activity false now c) in
    record { sid = told.sid ∙ quiet.sid; name = told.name ∙ quiet.name; most = told.most ∙ quiet.most }

keeps_configured : (found : Option Config) (c : ChartState) → IsSame c (with_read_config found c)
keeps_configured None c = keeps_still c
keeps_configured (Some config) c = record { sid = refl; name = refl; most = refl }

pub keeps_look : (listing : List Entry) (now : ℕ) (c : ChartState) → IsSame c (after_look listing now c)
keeps_look listing now c =
    let active = keeps_active (has_entry listing c.name) now c in
    let set = keeps_configured (listed_config listing c.name) (with_activity (has_entry listing c.name) now c) in
    record { sid = set.sid ∙ active.sid; name = set.name ∙ active.name; most = set.most ∙ active.most }

-- the names are as they were
pub fired_names : (now : ℕ) (cs : List ChartState) → names_of (services_after (fire_move now) cs) ≡ names_of cs
fired_names now cs = names_moved (fire_move now) (keeps_fire now) cs

pub changed_names : (sid : ℕ) (change : Change) (now : ℕ) (cs : List ChartState)
    → names_of (services_after (change_move_at sid change now) cs) ≡ names_of cs
changed_names sid change now cs = names_moved (change_move_at sid change now)
    (λ c. keeps_either (c.sid == sid) c _ _ (keeps_changed change now c) (keeps_still c)) cs

pub commanded_names : (order : ScanOrder) (now : ℕ) (cs : List ChartState) → names_of (services_after (command_move order now) cs) ≡ names_of cs
commanded_names order now cs = names_moved (command_move order now) (keeps_commanded order now) cs

pub looked_names : (listing : List Entry) (now : ℕ) (cs : List ChartState) → names_of (after_looks listing now cs) ≡ names_of cs
looked_names listing now cs = names_moved (λ c. no_move (after_look listing now c)) (keeps_look listing now) cs

-- fewer services have fewer names
pub unlisted_filtered : (p : ChartState → Bool) (q : List ℕ) (cs : List ChartState) → lists (names_of cs) q ≡ false
    → lists (names_of (filter p cs)) q ≡ false
unlisted_filtered p q [] h = refl
unlisted_filtered p q (c ∷ cs) h = by (p c) (unlisted_filtered p q cs (neither_right (bytes_eq q c.name) _ h))
  where
    by : (b : Bool) → lists (names_of (filter p cs)) q ≡ false → lists (names_of (cond b (c ∷ filter p cs) (filter p cs))) q ≡ false
    by true rest = neither_of (bytes_eq q c.name) _ (neither_left (bytes_eq q c.name) _ h) rest
    by false rest = rest

pub once_filtered : (p : ChartState → Bool) (cs : List ChartState) → repeats_name (names_of cs) ≡ false
    → repeats_name (names_of (filter p cs)) ≡ false
once_filtered p [] h = refl
once_filtered p (c ∷ cs) h = by (p c) (once_filtered p cs (neither_right (lists (names_of cs) c.name) _ h))
  where
    by : (b : Bool) → repeats_name (names_of (filter p cs)) ≡ false → repeats_name (names_of (cond b (c ∷ filter p cs) (filter p cs))) ≡ false
    by true rest = neither_of (lists (names_of (filter p cs)) c.name) _
        (unlisted_filtered p c.name cs (neither_left (lists (names_of cs) c.name) _ h)) rest
    by false rest = rest

-- a name stands where it is among the names
pub stands_listed : (name : List ℕ) (cs : List ChartState) → lists (names_of cs) name ≡ stands name cs
stands_listed name [] = refl
stands_listed name (c ∷ cs) = ap (λ b. bytes_eq name c.name || b) (stands_listed name cs)

either_grown : (b : Bool) (x y : ScanState) → repeats_name (names_of x.services) ≡ false → repeats_name (names_of y.services) ≡ false
    → repeats_name (names_of (cond b x y).services) ≡ false
either_grown true x y hx hy = hx
either_grown false x y hx hy = hy

once_added : (config : Config) (g : ScanState) (name : List ℕ) → repeats_name (names_of g.services) ≡ false → stands name g.services ≡ false
    → repeats_name (names_of (with_service config g name).services) ≡ false
once_added config g name h new =
    ap repeats_name (map-append (λ (c : ChartState). c.name) g.services ((begin_move (new_service g.next_sid name config)).chart ∷ []))
    ∙ (ap (λ n. repeats_name (names_of g.services ++ n ∷ [])) (keeps_begin g.next_sid name config).name
    ∙ (repeats_last (names_of g.services) name
    ∙ neither_of (repeats_name (names_of g.services)) _ h (stands_listed name g.services ∙ new)))

once_new : (found : Option Config) (g : ScanState) (name : List ℕ) → repeats_name (names_of g.services) ≡ false → stands name g.services ≡ false
    → repeats_name (names_of (with_new_name found g name).services) ≡ false
once_new None g name h new = h
once_new (Some config) g name h new =
    either_grown (nat_lt (length g.services) service_limit) (with_service config g name) _ (once_added config g name h new) h

once_named : (listing : List Entry) (g : ScanState) (name : List ℕ) → repeats_name (names_of g.services) ≡ false
    → repeats_name (names_of (with_name listing g name).services) ≡ false
once_named listing g name h = by (stands name g.services) refl
  where
    by : (b : Bool) → stands name g.services ≡ b
        → repeats_name (names_of (cond b g (with_new_name (listed_config listing name) g name)).services) ≡ false
    by true e = h
    by false e = once_new (listed_config listing name) g name h e

all_once : (listing : List Entry) (g : ScanState) (names : List (List ℕ)) → repeats_name (names_of g.services) ≡ false
    → repeats_name (names_of (with_names listing g names).services) ≡ false
all_once listing g [] h = h
all_once listing g (name ∷ names) h = all_once listing (with_name listing g name) names (once_named listing g name h)

-- no work leaves a name twice
pub work_names : (work : Work) (now : ℕ) (cs : List ChartState) (next : ℕ) → repeats_name (names_of cs) ≡ false
    → repeats_name (names_of (work_result work now cs next).services) ≡ false
work_names do_nothing now cs next h = h
work_names (change_one sid change) now cs next h = ap repeats_name (changed_names sid change now cs) ∙ h
work_names (command order) now cs next h = ap repeats_name (commanded_names order now cs) ∙ h
work_names (apply_listing listing) now cs next h =
    all_once listing _ (in_byte_order (names_in listing))
    (once_filtered stays (after_looks listing now cs) (ap repeats_name (looked_names listing now cs) ∙ h))

pub step_names : (work : Work) (now : ℕ) (cs : List ChartState) (next : ℕ) → repeats_name (names_of cs) ≡ false
    → repeats_name (names_of (step_result work now cs next).services) ≡ false
step_names work now cs next h = work_names work now (services_after (fire_move now) cs) next (ap repeats_name (fired_names now cs) ∙ h)
