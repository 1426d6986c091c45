-- The work of an act, as one service sees it.
use Rattle.std.proofs.Common.{◌≡◌, refl, ap, ◌∙◌, ℕ, ◌≤◌, ◌<◌, List, [], ◌∷◌, ◌==◌, ◌||◌, Bool, true, false, cond, map, filter, rules, append-nil}
use Rattle.std.proofs.Common.{fold}
use Rattle.std.specs.Prelude.{Option, Some, None}
use Rattle.std.specs.List.{flat_map, list_any}
use Rattle.s6_events.specs.declared.mark.Mark.{Mark}
use Rattle.s6_events.specs.declared.exit.Exit.{Exit}
use Rattle.s6_events.specs.declared.order.Order.{Order}
use Rattle.servicedir.specs.declared.config.Config.{Config}
use Rattle.control_letters.specs.declared.control_letter.ControlLetter.{ControlLetter}
use Rattle.supervise_core.specs.declared.change.Change.{Change}
use Rattle.s6_events.specs.declared.report.Report.TheVariants.{Started, StartFailed, Notify, Death, FinishEnded}
use Rattle.supervise_core.specs.declared.change.Change.TheVariants.{Report, Control, Fire, SetConfig, SetActive}
use Rattle.supervise_core.specs.declared.chart_state.ChartState.{ChartState}
use Rattle.supervise_core.specs.ChartState.{Moved, no_move}
use Rattle.supervise_core.specs.Chart.{started_move, start_failed_move, notify_move, death_move, finish_ended_move, control_move, letter_move}
use Rattle.supervise_core.specs.Chart.{fire_move, changed_by}
use Rattle.supervise_core.specs.ControlLetters.{then_move}
use Rattle.supervise_core.proofs.Identity.{KeepsIdentity, keeps_changed}
use Rattle.svscan_core.specs.declared.entry.Entry.{Entry}
use Rattle.svscan_core.specs.declared.entry.ScanOrder.{ScanOrder}
use Rattle.svscan_core.specs.declared.event.Event.{Event}
use Rattle.svscan_core.specs.Listing.{in_byte_order, names_in}
use Rattle.svscan_core.specs.Moves.{services_after, events_after, orders_after}
use Rattle.svscan_core.specs.Scan.{after_look, after_looks, stays, scan_state_from, with_names}
use Rattle.svscan_core.specs.Work.{Work, WorkResult, work_result, change_move_at, command_move}
use Rattle.svscan_core.specs.Work.Work.{do_nothing, change_one, apply_listing, command}
use Rattle.svscan_core.proofs.Names.{keeps_commanded, keeps_look, keeps_either, keeps_still}
use Rattle.tree_core.specs.Taken.{services_of, marks_of, orders_of}
use Rattle.tree_core.proofs.Owners.{ForIt, for_changed_at, for_commanded}
use Rattle.tree_core.proofs.OwnMoves.{own_mapped, marks_moved, orders_moved}
use Rattle.tree_core.proofs.OwnScan.{Old, Added, with_names_own, old_names, begins}
use Rattle.tree_core.proofs.OwnScan.Added.{yet_to_come, came}

-- what a service did in the act of a step: it took what it was told, if anything; it obeyed an order for all; its directory was looked at
pub data Did : Type 0 where
  takes : Option Change → Did
  obeys : ScanOrder → Did
  looks : List Entry → Did

abbrev pub move_of : Did → ℕ → ChartState → Moved
move_of (takes None) now c = no_move c
move_of (takes (Some change)) now c = changed_by change now c
move_of (obeys order) now c = command_move order now c
move_of (looks listing) now c = no_move (after_look listing now c)

abbrev pub told_of : Did → Option Change
told_of (takes told) = told
told_of _ = None

-- what it was told was not stale
abbrev pub IsFresh : Did → ℕ → ChartState → Type 0
IsFresh (takes (Some change)) now c = (changed_by change now c).stale ≡ false
IsFresh _ now c = Unit

-- the services of a serial, and what is shown of them
pub record Shown (sid : ℕ) (standing : List ChartState) (events : List Event) (all_orders : List Order) (own_services : List ChartState)
    (own_marks : List Mark) (own_orders : List Order) : Type 0 where
  pub services : services_of sid standing ≡ own_services
  pub marks : marks_of sid events ≡ own_marks
  pub orders : orders_of sid all_orders ≡ own_orders

-- of the work of an act, what a service that stands sees
pub data ActOf (sid now : ℕ) (c : ChartState) (told : Option Change) (w : WorkResult) : Type 0 where
  does : (did : Did) → told ≡ told_of did → IsFresh did now c → sid < w.next_sid
      → Shown sid w.services w.events w.orders ((move_of did now c).chart ∷ []) (move_of did now c).marks (move_of did now c).orders
      → ActOf sid now c told w
  goes : told ≡ None → sid < w.next_sid → Shown sid w.services w.events w.orders [] [] [] → ActOf sid now c told w

-- and what is seen of a serial of which no service stands
pub record AwayOf (sid : ℕ) (heard : Option Change) (w : WorkResult) : Type 0 where
  pub told : heard ≡ None
  pub later : sid < w.next_sid
  pub shown : Shown sid w.services w.events w.orders [] [] []

pub data YetOf (sid : ℕ) (told : Option Change) (w : WorkResult) : Type 0 where
  still_waits : told ≡ None → w.next_sid ≤ sid → Shown sid w.services w.events w.orders [] [] [] → YetOf sid told w
  comes : (name : List ℕ) (config : Config) → told ≡ None → sid < w.next_sid
      → Shown sid w.services w.events w.orders ((begins sid name config).chart ∷ []) (begins sid name config).marks (begins sid name config).orders
      → YetOf sid told w

-- a move of all is a move of the one
pub one_moved : (move : ChartState → Moved) (moved : Moved) (sid : ℕ) (c : ChartState) (cs : List ChartState)
    → ((x : ChartState) → KeepsIdentity x (move x)) → ((x : ChartState) → ForIt x (move x)) → services_of sid cs ≡ c ∷ [] → move c ≡ moved
    → Shown sid (services_after move cs) (events_after move cs) (orders_after move cs) (moved.chart ∷ []) moved.marks moved.orders
one_moved move moved sid c cs keeps owned one e = record {
  services = own_mapped (λ x. (move x).chart) sid (λ x. (keeps x).sid) cs ∙ (ap (services_after move) one ∙ (λ i. (e i).chart ∷ []));
  marks = marks_moved move sid cs ∙ (ap (flat_map (λ (x : ChartState). (move x).marks)) one ∙ (append-nil (move c).marks ∙ (λ i. (e i).marks)));
  orders = orders_moved move sid owned cs ∙ (ap (orders_after move) one ∙ (append-nil (move c).orders ∙ (λ i. (e i).orders)));
}

pub none_moved : (move : ChartState → Moved) (sid : ℕ) (cs : List ChartState)
    → ((x : ChartState) → KeepsIdentity x (move x)) → ((x : ChartState) → ForIt x (move x)) → services_of sid cs ≡ []
    → Shown sid (services_after move cs) (events_after move cs) (orders_after move cs) [] [] []
none_moved move sid cs keeps owned none = record {
  services = own_mapped (λ x. (move x).chart) sid (λ x. (keeps x).sid) cs ∙ ap (services_after move) none;
  marks = marks_moved move sid cs ∙ ap (flat_map (λ (x : ChartState). (move x).marks)) none;
  orders = orders_moved move sid owned cs ∙ ap (orders_after move) none;
}

pub keeps_changed_at : (sid : ℕ) (change : Change) (now : ℕ) (c : ChartState) → KeepsIdentity c (change_move_at sid change now c)
keeps_changed_at sid change now c = keeps_either (c.sid == sid) c _ _ (keeps_changed change now c) (keeps_still c)

-- a stale report changes nothing
pub record IsNothing (c : ChartState) (m : Moved) : Type 0 where
  pub chart : m.chart ≡ c
  pub marks : m.marks ≡ []
  pub orders : m.orders ≡ []

control_is_fresh : (now : ℕ) (letters : List ControlLetter) (m : Moved) → m.stale ≡ false
    → (fold (λ so_far letter. then_move (letter_move now letter) so_far) m letters).stale ≡ false
control_is_fresh now [] m h = h
control_is_fresh now (letter ∷ letters) m h = control_is_fresh now letters (then_move (letter_move now letter) m) h

true_not_false : {X : Type 0} (b : Bool) → b ≡ false → b ≡ true → X
true_not_false b e h = cc

stale_started : (generation pid now : ℕ) (c : ChartState) → (started_move generation pid now c).stale ≡ true
    → IsNothing c (started_move generation pid now c)
stale_started generation pid now c h = search (h, rules)

stale_start_failed : (generation now : ℕ) (c : ChartState) → (start_failed_move generation now c).stale ≡ true
    → IsNothing c (start_failed_move generation now c)
stale_start_failed generation now c h = search (h, rules)

stale_notified : (generation : ℕ) (bytes : List ℕ) (now : ℕ) (c : ChartState) → (notify_move generation bytes now c).stale ≡ true
    → IsNothing c (notify_move generation bytes now c)
stale_notified generation bytes now c h = search (h, rules)

stale_death : (generation : ℕ) (exit : Exit) (now : ℕ) (c : ChartState) → (death_move generation exit now c).stale ≡ true
    → IsNothing c (death_move generation exit now c)
stale_death generation exit now c h = search (h, rules)

stale_finish_ended : (generation : ℕ) (exit : Exit) (now : ℕ) (c : ChartState) → (finish_ended_move generation exit now c).stale ≡ true
    → IsNothing c (finish_ended_move generation exit now c)
stale_finish_ended generation exit now c h = search (h, rules)

stale_fire : (now : ℕ) (c : ChartState) → (fire_move now c).stale ≡ true → IsNothing c (fire_move now c)
stale_fire now c h = search (h, rules)

pub stale_changed : (change : Change) (now : ℕ) (c : ChartState) → (changed_by change now c).stale ≡ true → IsNothing c (changed_by change now c)
stale_changed (Report (Started _ generation pid)) now c h = stale_started generation pid now c h
stale_changed (Report (StartFailed _ generation)) now c h = stale_start_failed generation now c h
stale_changed (Report (Notify _ generation bytes)) now c h = stale_notified generation bytes.items now c h
stale_changed (Report (Death _ generation exit)) now c h = stale_death generation exit now c h
stale_changed (Report (FinishEnded _ generation exit)) now c h = stale_finish_ended generation exit now c h
stale_changed (Control letters) now c h = true_not_false (control_move letters.items now c).stale
    (control_is_fresh now letters.items (no_move c) refl) h
stale_changed Fire now c h = stale_fire now c h
stale_changed (SetConfig config) now c h = true_not_false false refl h
stale_changed (SetActive active) now c h = true_not_false false refl h

pub control_fresh : (letters : List ControlLetter) (now : ℕ) (c : ChartState) → (control_move letters now c).stale ≡ false
control_fresh letters now c = control_is_fresh now letters (no_move c) refl

-- whether a report of one service was stale is what that service says
pub stale_own : (sid : ℕ) (change : Change) (now : ℕ) (cs : List ChartState)
    → list_any (λ c. (change_move_at sid change now c).stale) cs ≡ list_any (λ c. (change_move_at sid change now c).stale) (services_of sid cs)
stale_own sid change now [] = refl
stale_own sid change now (c ∷ cs) = by (c.sid == sid) refl (stale_own sid change now cs)
  where
    by : (b : Bool) → (c.sid == sid) ≡ b → list_any (λ x. (change_move_at sid change now x).stale) cs
        ≡ list_any (λ x. (change_move_at sid change now x).stale) (services_of sid cs)
        → ((cond (c.sid == sid) (changed_by change now c) (no_move c)).stale || list_any (λ x. (change_move_at sid change now x).stale) cs)
        ≡ list_any (λ x. (change_move_at sid change now x).stale) (cond b (c ∷ services_of sid cs) (services_of sid cs))
    by true e rest = ap (λ b. (change_move_at sid change now c).stale || b) rest
    by false e rest = rw e rest

-- a scan
scanned_own : (listing : List Entry) (now next sid : ℕ) (cs : List ChartState) (c : ChartState) → services_of sid cs ≡ c ∷ []
    → services_of sid (after_looks listing now cs) ≡ after_look listing now c ∷ []
scanned_own listing now next sid cs c one = own_mapped (after_look listing now) sid (λ x. (keeps_look listing now x).sid) cs
    ∙ ap (map (after_look listing now)) one

own_filtered : (sid : ℕ) (test : ChartState → Bool) (cs : List ChartState) → services_of sid (filter test cs) ≡ filter test (services_of sid cs)
own_filtered sid test [] = refl
own_filtered sid test (c ∷ cs) = by (test c) (c.sid == sid) refl refl (own_filtered sid test cs)
  where
    by : (t b : Bool) → test c ≡ t → (c.sid == sid) ≡ b → services_of sid (filter test cs) ≡ filter test (services_of sid cs)
        → services_of sid (cond t (c ∷ filter test cs) (filter test cs)) ≡ filter test (cond b (c ∷ services_of sid cs) (services_of sid cs))
    by true true ht hb rest = rw (hb, ht) (ap (λ xs. c ∷ xs) rest)
    by true false ht hb rest = rw hb rest
    by false true ht hb rest = rw ht rest
    by false false ht hb rest = rest

pub listing_own : (listing : List Entry) (now next sid : ℕ) (cs : List ChartState) (c : ChartState) → services_of sid cs ≡ c ∷ [] → sid < next
    → ActOf sid now c None (work_result (apply_listing listing) now cs next)
listing_own listing now next sid cs c one lower =
    let start = scan_state_from (filter stays (after_looks listing now cs)) next in
    let whole : services_of sid start.services ≡ filter stays (after_look listing now c ∷ []) =
    own_filtered sid stays (after_looks listing now cs) ∙ ap (filter stays) (scanned_own listing now next sid cs c one) in
    by (stays (after_look listing now c)) (old_names listing sid (cond (stays (after_look listing now c)) (after_look listing now c ∷ []) []) start
    (in_byte_order (names_in listing))
    (record { later = lower; same = record { services = whole; marks = refl; orders = refl } }))
  where
    by : (b : Bool) → Old sid (cond b (after_look listing now c ∷ []) [])
        (with_names listing (scan_state_from (filter stays (after_looks listing now cs)) next) (in_byte_order (names_in listing)))
        → ActOf sid now c None (work_result (apply_listing listing) now cs next)
    by true h = does (looks listing) refl tt h.later (record { services = h.same.services; marks = h.same.marks; orders = h.same.orders })
    by false h = goes refl h.later (record { services = h.same.services; marks = h.same.marks; orders = h.same.orders })

whole_none : (listing : List Entry) (now sid : ℕ) (cs : List ChartState) → services_of sid cs ≡ []
    → services_of sid (filter stays (after_looks listing now cs)) ≡ []
whole_none listing now sid cs none =
    own_filtered sid stays (after_looks listing now cs)
    ∙ ap (filter stays) (own_mapped (after_look listing now) sid (λ x. (keeps_look listing now x).sid) cs ∙ ap (map (after_look listing now)) none)

listing_yet : (listing : List Entry) (now next sid : ℕ) (cs : List ChartState) → services_of sid cs ≡ [] → next ≤ sid
    → YetOf sid None (work_result (apply_listing listing) now cs next)
listing_yet listing now next sid cs none below =
    by (with_names_own listing sid (scan_state_from (filter stays (after_looks listing now cs)) next) (in_byte_order (names_in listing))
    (yet_to_come below (record { services = whole_none listing now sid cs none; marks = refl; orders = refl })))
  where
    by : Added sid (with_names listing (scan_state_from (filter stays (after_looks listing now cs)) next) (in_byte_order (names_in listing)))
        → YetOf sid None (work_result (apply_listing listing) now cs next)
    by (yet_to_come before h) = still_waits refl before (record { services = h.services; marks = h.marks; orders = h.orders })
    by (came later name config h) = comes name config refl later (record { services = h.services; marks = h.marks; orders = h.orders })

listing_away : (listing : List Entry) (now next sid : ℕ) (cs : List ChartState) → services_of sid cs ≡ [] → sid < next
    → AwayOf sid None (work_result (apply_listing listing) now cs next)
listing_away listing now next sid cs none lower =
    let h = old_names listing sid [] (scan_state_from (filter stays (after_looks listing now cs)) next) (in_byte_order (names_in listing))
    (record { later = lower; same = record { services = whole_none listing now sid cs none; marks = refl; orders = refl } }) in
    record { told = refl; later = h.later; shown = record { services = h.same.services; marks = h.same.marks; orders = h.same.orders } }

-- whatever the work is, on a serial whose service doesn't stand, and that is told nothing
pub work_yet : (work : Work) (now sid : ℕ) (cs : List ChartState) (next : ℕ) → services_of sid cs ≡ [] → next ≤ sid
    → YetOf sid None (work_result work now cs next)
work_yet do_nothing now sid cs next none below = still_waits refl below (record { services = none; marks = refl; orders = refl })
work_yet (change_one of change) now sid cs next none below =
    still_waits refl below (none_moved (change_move_at of change now) sid cs (keeps_changed_at of change now) (for_changed_at of change now) none)
work_yet (command order) now sid cs next none below =
    still_waits refl below (none_moved (command_move order now) sid cs (keeps_commanded order now) (for_commanded order now) none)
work_yet (apply_listing listing) now sid cs next none below = listing_yet listing now next sid cs none below

pub work_away : (work : Work) (now sid : ℕ) (cs : List ChartState) (next : ℕ) → services_of sid cs ≡ [] → sid < next
    → AwayOf sid None (work_result work now cs next)
work_away do_nothing now sid cs next none lower =
    record { told = refl; later = lower; shown = record { services = none; marks = refl; orders = refl } }
work_away (change_one of change) now sid cs next none lower =
    record {
      told = refl;
      later = lower;
      shown =
          none_moved (change_move_at of change now) sid cs (keeps_changed_at of change now) (for_changed_at of change now) none;
    }
work_away (command order) now sid cs next none lower =
    record {
      told = refl;
      later = lower;
      shown =
          none_moved (command_move order now) sid cs (keeps_commanded order now) (for_commanded order now) none;
    }
work_away (apply_listing listing) now sid cs next none lower = listing_away listing now next sid cs none lower
