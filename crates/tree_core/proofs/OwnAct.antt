-- An act, as one service sees it.
use Rattle.std.proofs.Common.{◌≡◌, refl, sym, ap, subst, ◌∙◌, ℕ, ◌≤◌, ◌<◌, List, [], ◌∷◌, ◌==◌, ◌||◌, Bool, true, false, cond, if◌then◌else◌}
use Rattle.std.proofs.Common.{rules, bytes_eq}
use Rattle.std.specs.Prelude.{Option, Some, None}
use Rattle.std.specs.List.{list_any}
use Rattle.std.proofs.lemmas.Bool.Decides.{Decides-eqb}
use Rattle.event_directory.specs.Changes.DirectoryRequest.{make_directory, unsubscribe}
use Rattle.supervise_core.specs.declared.change.Change.{Change}
use Rattle.s6_events.specs.declared.report.Report.TheVariants as reports
use Rattle.supervise_core.specs.declared.change.Change.TheVariants as service_change
use Rattle.supervise_core.specs.declared.chart_state.ChartState.{ChartState}
use Rattle.supervise_core.specs.ChartState.{no_move, is_gone}
use Rattle.supervise_core.specs.Chart.{changed_by}
use Rattle.svscan_core.specs.Work.{Work, WorkResult, work_result, change_move_at, command_move}
use Rattle.svscan_core.specs.Work.Work.{do_nothing, change_one, apply_listing, command}
use Rattle.svscan_core.proofs.Names.{keeps_commanded}
use Rattle.tree_core.specs.declared.input.Act.{Act}
use Rattle.tree_core.specs.declared.input.Act.TheVariants.{Scan, Scanctl, Svc, Started, StartFailed, Notify, Death, FinishEnded, Status, Tally}
use Rattle.tree_core.specs.declared.input.Act.TheVariants.{Permafailon, Wait, Cancel, Subscribe, Unsubscribe, Send, MakeDir, Tick}
use Rattle.tree_core.specs.declared.reply.Refusal.{Refusal}
use Rattle.tree_core.specs.declared.reply.Refusal.TheVariants.{NoService, Ended, Closing}
use Rattle.tree_core.specs.declared.reply.Reply.{Reply}
use Rattle.tree_core.specs.declared.reply.Reply.TheVariants.{Done}
use Rattle.tree_core.specs.Acts.{act_result}
use Rattle.tree_core.specs.ActRefusals.{service_named, listing_refusal, serial_refusal, letters_refusal, wait_refusal, cancel_refusal}
use Rattle.tree_core.specs.Acts.{change_found, work_unless, work_of}
use Rattle.tree_core.specs.ActRefusals.{subscribe_refusal, directories_refusal, message_refusal, source_named}
use Rattle.tree_core.specs.Acts.{reply_unless, report_reply}
use Rattle.tree_core.specs.Machine.{Machine}
use Rattle.tree_core.specs.Taken.{services_of, if_same, if_found, change_by_act, is_done}
use Rattle.tree_core.proofs.Owners.{for_changed_at, for_commanded}
use Rattle.tree_core.proofs.OwnWork.{Shown, ActOf, YetOf, AwayOf, one_moved, keeps_changed_at, stale_changed, control_fresh, stale_own}
use Rattle.tree_core.proofs.OwnWork.{listing_own, work_yet, work_away}
use Rattle.tree_core.proofs.OwnWork.Did.{takes, obeys}
use Rattle.tree_core.proofs.OwnWork.ActOf.{does}

-- what is told where an act was done
abbrev pub if_done : Bool → Option Change → Option Change
if_done done told = cond done told None

none_either : (b : Bool) → if_done b None ≡ None
none_either true = refl
none_either false = refl

-- a service that stays as it is
stays_so : (sid now next : ℕ) (c : ChartState) (cs : List ChartState) (told : Option Change) → services_of sid cs ≡ c ∷ [] → sid < next
    → told ≡ None
    → ActOf sid now c told (work_result do_nothing now cs next)
stays_so sid now next c cs told one lower e = does (takes None) e tt lower (record { services = one; marks = refl; orders = refl })

-- a report or letters for a service: what is done is not stale, and what is stale changes nothing
told_fits : (sid now next : ℕ) (change : Change) (c : ChartState) (w : WorkResult) (reply : Bool) → sid < w.next_sid
    → (changed_by change now c).stale ≡ (cond reply false true)
    → Shown sid w.services w.events w.orders ((changed_by change now c).chart ∷ []) (changed_by change now c).marks (changed_by change now c).orders
    → ActOf sid now c (if_done reply (Some change)) w
told_fits sid now next change c w true lower says shown = does (takes (Some change)) refl says lower shown
told_fits sid now next change c w false lower says shown =
    let nothing = stale_changed change now c says in
    does (takes None) refl tt lower
    (record {
      services = shown.services ∙ (λ i. nothing.chart i ∷ []);
      marks = shown.marks ∙ nothing.marks;
      orders =
          shown.orders ∙ nothing.orders;
    })

is_same : (of sid : ℕ) → (of == sid) ≡ true → of ≡ sid
is_same of sid e = (Decides-eqb of sid).0 e

same_too : (of sid n : ℕ) → (of == sid) ≡ true → n ≡ sid → (n == of) ≡ true
same_too of sid n e same = search (e, same, rules)

told_own : (of sid now next : ℕ) (change : Change) (c : ChartState) (cs : List ChartState) (reply : Bool) → services_of sid cs ≡ c ∷ []
    → c.sid ≡ sid → sid < next
    → ((of == sid) ≡ true → (changed_by change now c).stale ≡ (cond reply false true))
    → ActOf sid now c (if_done reply (if_same of sid change)) (work_result (change_one of change) now cs next)
told_own of sid now next change c cs reply one same lower says = by (of == sid) refl
  where
    others : (of == sid) ≡ false → (c.sid == of) ≡ false
    others e = search (e, same, rules)

    by : (b : Bool) → (of == sid) ≡ b → ActOf sid now c (if_done reply (cond b (Some change) None)) (work_result (change_one of change) now cs next)
    by true e =
        told_fits sid now next change c (work_result (change_one of change) now cs next) reply lower (says e)
        (one_moved (change_move_at of change now) (changed_by change now c) sid c cs (keeps_changed_at of change now)
        (for_changed_at of change now) one
        (ap (λ b. cond b (changed_by change now c) (no_move c)) (same_too of sid c.sid e same)))
    by false e =
        does (takes None) (none_either reply) tt lower
        (one_moved (change_move_at of change now) (no_move c) sid c cs (keeps_changed_at of change now) (for_changed_at of change now) one
        (ap (λ b. cond b (changed_by change now c) (no_move c)) (others e)))

-- whether it is stale
stale_there : (of sid now : ℕ) (change : Change) (c : ChartState) (cs : List ChartState) → services_of sid cs ≡ c ∷ [] → c.sid ≡ sid
    → (of == sid) ≡ true
    → list_any (λ x. (change_move_at of change now x).stale) cs ≡ (changed_by change now c).stale
stale_there of sid now change c cs one same e =
    stale_own of change now cs
    ∙ (ap (λ n. list_any (λ x. (change_move_at of change now x).stale) (services_of n cs)) (is_same of sid e)
    ∙ (ap (list_any (λ x. (change_move_at of change now x).stale)) one
    ∙ (ap (λ b. (cond b (changed_by change now c) (no_move c)).stale || false) (same_too of sid c.sid e same)
    ∙ or_false (changed_by change now c).stale)))
  where
    or_false : (b : Bool) → (b || false) ≡ b
    or_false true = refl
    or_false false = refl

done_unless : (A : Type 0) (w : WorkResult) (b : Bool) → w.stale ≡ b → b ≡ cond (is_done {A = A} (report_reply w)) false true
done_unless A w b e = by b e
  where
    by : (b : Bool) → w.stale ≡ b → b ≡ cond (is_done {A = A} (report_reply w)) false true
    by true e = rw e refl
    by false e = rw e refl

report_own : (A : Type 0) (why : Option Refusal) (of sid now next : ℕ) (change : Change) (c : ChartState) (cs : List ChartState)
    → services_of sid cs ≡ c ∷ [] → c.sid ≡ sid → sid < next
    → ActOf sid now c (if_done (is_done {A = A}
    (reply_unless why (report_reply (work_result (work_unless why (change_one of change)) now cs next)))) (if_same of sid change))
    (work_result (work_unless why (change_one of change)) now cs next)
report_own A None of sid now next change c cs one same lower =
    told_own of sid now next change c cs (is_done {A = A} (report_reply (work_result (change_one of change) now cs next))) one same lower
    (λ e. done_unless A (work_result (change_one of change) now cs next) (changed_by change now c).stale
    (stale_there of sid now change c cs one same e))
report_own A (Some why) of sid now next change c cs one same lower = stays_so sid now next c cs None one lower refl

letters_own : (A : Type 0) (found : Option ChartState) (sid now next : ℕ) (change : Change) (c : ChartState) (cs : List ChartState)
    → services_of sid cs ≡ c ∷ [] → c.sid ≡ sid → sid < next → ((x : ChartState) → (changed_by change now x).stale ≡ false)
    → ActOf sid now c (if_done (is_done {A = A} (reply_unless (letters_refusal found) Done)) (if_found found sid change))
    (work_result (work_unless (letters_refusal found) (change_found found change)) now cs next)
letters_own A None sid now next change c cs one same lower fresh = stays_so sid now next c cs None one lower refl
letters_own A (Some d) sid now next change c cs one same lower fresh = by (is_gone d.phase)
  where
    by : (b : Bool) → ActOf sid now c (if_done (is_done {A = A} (reply_unless (cond b (Some Ended) None) Done)) (if_same d.sid sid change))
        (work_result (work_unless (cond b (Some Ended) None) (change_one d.sid change)) now cs next)
    by true = stays_so sid now next c cs None one lower refl
    by false = told_own d.sid sid now next change c cs true one same lower (λ _. fresh c)

-- what is asked of nobody that runs services
others_own : (why : Option Refusal) (sid now next : ℕ) (c : ChartState) (cs : List ChartState) (reply : Bool) → services_of sid cs ≡ c ∷ []
    → sid < next
    → ActOf sid now c (if_done reply None) (work_result (work_unless why do_nothing) now cs next)
others_own None sid now next c cs reply one lower = stays_so sid now next c cs (if_done reply None) one lower (none_either reply)
others_own (Some why) sid now next c cs reply one lower = stays_so sid now next c cs (if_done reply None) one lower (none_either reply)

untold : (sid now : ℕ) (c : ChartState) (told : Option Change) (w : WorkResult) → told ≡ None → ActOf sid now c None w → ActOf sid now c told w
untold sid now c told w e h = subst (λ x. ActOf sid now c x w) (sym e) h

scan_own : (why : Option Refusal) (work : Work) (sid now next : ℕ) (c : ChartState) (cs : List ChartState) (reply : Bool)
    → services_of sid cs ≡ c ∷ [] → sid < next
    → ActOf sid now c None (work_result work now cs next) → ActOf sid now c (if_done reply None) (work_result (work_unless why work) now cs next)
scan_own None work sid now next c cs reply one lower h = untold sid now c (if_done reply None) (work_result work now cs next) (none_either reply) h
scan_own (Some why) work sid now next c cs reply one lower h = stays_so sid now next c cs (if_done reply None) one lower (none_either reply)

pub act_own : {A : Type 0} (act : Act A) (m : Machine) (sid : ℕ) (c : ChartState) → services_of sid m.services ≡ c ∷ [] → c.sid ≡ sid
    → sid < m.next_sid
    → ActOf sid m.clock c (if_done (is_done (act_result act m).reply) (change_by_act act sid m.services)) (act_result act m).work
act_own {A} (Scan listing) m sid c one same lower =
    scan_own (listing_refusal listing m) (apply_listing listing) sid m.clock m.next_sid c m.services
    (is_done (act_result {A = A} (Scan listing) m).reply) one lower (listing_own listing m.clock m.next_sid sid m.services c one lower)
act_own {A} (Scanctl order) m sid c one same lower =
    scan_own (if m.closing then Some Closing else None) (command order) sid m.clock m.next_sid c m.services
    (is_done (act_result {A = A} (Scanctl order) m).reply) one lower
    (does (obeys order) refl tt lower (one_moved (command_move order m.clock) (command_move order m.clock c) sid c m.services
    (keeps_commanded order m.clock) (for_commanded order m.clock) one refl))
act_own {A} (Svc name letters) m sid c one same lower =
    letters_own A (service_named name m.services) sid m.clock m.next_sid (service_change.Control letters) c m.services one same lower
    (λ x. control_fresh letters.items m.clock x)
act_own {A} (Started of generation pid) m sid c one same lower =
    report_own A (serial_refusal of m.services) of sid m.clock m.next_sid (service_change.Report (reports.Started of generation pid))
    c m.services one same lower
act_own {A} (StartFailed of generation) m sid c one same lower =
    report_own A (serial_refusal of m.services) of sid m.clock m.next_sid (service_change.Report (reports.StartFailed of generation))
    c m.services one same lower
act_own {A} (Notify of generation bytes) m sid c one same lower =
    report_own A (serial_refusal of m.services) of sid m.clock m.next_sid (service_change.Report (reports.Notify of generation bytes))
    c m.services one same lower
act_own {A} (Death of generation exit) m sid c one same lower =
    report_own A (serial_refusal of m.services) of sid m.clock m.next_sid (service_change.Report (reports.Death of generation exit))
    c m.services one same lower
act_own {A} (FinishEnded of generation exit) m sid c one same lower =
    report_own A (serial_refusal of m.services) of sid m.clock m.next_sid (service_change.Report (reports.FinishEnded of generation exit))
    c m.services one same lower
act_own {A} (Status name) m sid c one same lower =
    others_own None sid m.clock m.next_sid c m.services (is_done (act_result {A = A} (Status name) m).reply) one lower
act_own {A} (Tally name) m sid c one same lower =
    others_own None sid m.clock m.next_sid c m.services (is_done (act_result {A = A} (Tally name) m).reply) one lower
act_own {A} (Permafailon name seconds count items) m sid c one same lower =
    others_own None sid m.clock m.next_sid c m.services (is_done (act_result {A = A} (Permafailon name seconds count items) m).reply) one lower
act_own {A} (Wait condition mode timeout names) m sid c one same lower =
    others_own (wait_refusal names m) sid m.clock m.next_sid c m.services
    (is_done (act_result {A = A} (Wait condition mode timeout names) m).reply) one lower
act_own {A} (Cancel id) m sid c one same lower =
    others_own (cancel_refusal id m) sid m.clock m.next_sid c m.services (is_done (act_result {A = A} (Cancel id) m).reply) one lower
act_own {A} (Subscribe target pattern repeats) m sid c one same lower =
    others_own (subscribe_refusal (source_named target m.services) m) sid m.clock m.next_sid c m.services
    (is_done (act_result {A = A} (Subscribe target pattern repeats) m).reply) one lower
act_own {A} (Unsubscribe id) m sid c one same lower =
    others_own (directories_refusal (unsubscribe id) m) sid m.clock m.next_sid c m.services
    (is_done (act_result {A = A} (Unsubscribe id) m).reply) one lower
act_own {A} (Send target message) m sid c one same lower =
    others_own (message_refusal target message m) sid m.clock m.next_sid c m.services
    (is_done (act_result {A = A} (Send target message) m).reply) one lower
act_own {A} (MakeDir name) m sid c one same lower =
    others_own (directories_refusal (make_directory name) m) sid m.clock m.next_sid c m.services
    (is_done (act_result {A = A} (MakeDir name) m).reply) one lower
act_own {A} Tick m sid c one same lower = others_own None sid m.clock m.next_sid c m.services (is_done (act_result {A = A} Tick m).reply) one lower

-- a service that doesn't stand is told nothing
none_of_serial : (of sid : ℕ) (cs : List ChartState) → services_of sid cs ≡ [] → (of == sid) ≡ true → list_any (λ c. c.sid == of) cs ≡ false
none_of_serial of sid [] none e = refl
none_of_serial of sid (c ∷ cs) none e = by (c.sid == sid) refl none (λ h. none_of_serial of sid cs h e)
  where
    other : (c.sid == sid) ≡ false → (c.sid == of) ≡ false
    other f = search (f, e, rules)

    by : (b : Bool) → (c.sid == sid) ≡ b → cond b (c ∷ services_of sid cs) (services_of sid cs) ≡ []
        → (services_of sid cs ≡ [] → list_any (λ c. c.sid == of) cs ≡ false)
        → ((c.sid == of) || list_any (λ c. c.sid == of) cs) ≡ false
    by true f h rest = cc
    by false f h rest = rw (other f) (rest h)

untold_serial : (A : Type 0) (why : Option Refusal) (of sid : ℕ) (change : Change) (reply : Reply A) → ((of == sid) ≡ true → why ≡ Some NoService)
    → if_done (is_done (reply_unless why reply)) (if_same of sid change) ≡ None
untold_serial A why of sid change reply refused = by (of == sid) refl
  where
    by : (b : Bool) → (of == sid) ≡ b → if_done (is_done (reply_unless why reply)) (cond b (Some change) None) ≡ None
    by true e = rw (refused e) refl
    by false e = none_either (is_done (reply_unless why reply))

refused_there : (of sid : ℕ) (cs : List ChartState) → services_of sid cs ≡ [] → (of == sid) ≡ true → serial_refusal of cs ≡ Some NoService
refused_there of sid cs none e = ap (λ b. cond b None (Some NoService)) (none_of_serial of sid cs none e)

found_other : (name : List ℕ) (sid : ℕ) (cs : List ChartState) (d : ChartState) → services_of sid cs ≡ [] → service_named name cs ≡ Some d
    → (d.sid == sid) ≡ false
found_other name sid [] d none found = cc
found_other name sid (c ∷ cs) d none found = by (c.sid == sid) (bytes_eq name c.name) refl none found (λ h f. found_other name sid cs d h f)
  where
    by : (b t : Bool) → (c.sid == sid) ≡ b → cond b (c ∷ services_of sid cs) (services_of sid cs) ≡ []
        → cond t (Some c) (service_named name cs) ≡ Some d
        → (services_of sid cs ≡ [] → service_named name cs ≡ Some d → (d.sid == sid) ≡ false) → (d.sid == sid) ≡ false
    by true t e h f rest = cc
    by false true e h f rest = let same : c ≡ d = cc in ap (λ (x : ChartState). x.sid == sid) (sym same) ∙ e
    by false false e h f rest = rest h f

untold_letters : (A : Type 0) (found : Option ChartState) (sid : ℕ) (change : Change) → ((d : ChartState) → found ≡ Some d → (d.sid == sid) ≡ false)
    → if_done (is_done {A = A} (reply_unless (letters_refusal found) Done)) (if_found found sid change) ≡ None
untold_letters A None sid change other = refl
untold_letters A (Some d) sid change other = ap (λ b. if_done reply (cond b (Some change) None)) (other d refl) ∙ none_either reply
  where
    reply : Bool
    reply = is_done {A = A} (reply_unless (letters_refusal (Some d)) Done)

pub act_untold : {A : Type 0} (act : Act A) (m : Machine) (sid : ℕ) → services_of sid m.services ≡ []
    → if_done (is_done (act_result act m).reply) (change_by_act act sid m.services) ≡ None
act_untold {A} (Svc name letters) m sid none =
    untold_letters A (service_named name m.services) sid (service_change.Control letters) (λ d e. found_other name sid m.services d none e)
act_untold {A} (Started of generation pid) m sid none =
    untold_serial A (serial_refusal of m.services) of sid (service_change.Report (reports.Started of generation pid)) _
    (refused_there of sid m.services none)
act_untold {A} (StartFailed of generation) m sid none =
    untold_serial A (serial_refusal of m.services) of sid (service_change.Report (reports.StartFailed of generation)) _
    (refused_there of sid m.services none)
act_untold {A} (Notify of generation bytes) m sid none =
    untold_serial A (serial_refusal of m.services) of sid (service_change.Report (reports.Notify of generation bytes)) _
    (refused_there of sid m.services none)
act_untold {A} (Death of generation exit) m sid none =
    untold_serial A (serial_refusal of m.services) of sid (service_change.Report (reports.Death of generation exit)) _
    (refused_there of sid m.services none)
act_untold {A} (FinishEnded of generation exit) m sid none =
    untold_serial A (serial_refusal of m.services) of sid (service_change.Report (reports.FinishEnded of generation exit)) _
    (refused_there of sid m.services none)
act_untold act m sid none = none_either (is_done (act_result act m).reply)

yet_untold : (sid : ℕ) (told : Option Change) (w : WorkResult) → told ≡ None → YetOf sid None w → YetOf sid told w
yet_untold sid told w e h = subst (λ x. YetOf sid x w) (sym e) h

pub act_yet : {A : Type 0} (act : Act A) (m : Machine) (sid : ℕ) → services_of sid m.services ≡ [] → m.next_sid ≤ sid
    → YetOf sid (if_done (is_done (act_result act m).reply) (change_by_act act sid m.services)) (act_result act m).work
act_yet act m sid none below = yet_untold sid _ (act_result act m).work (act_untold act m sid none)
    (work_yet (work_of act m) m.clock sid m.services m.next_sid none below)

pub act_away : {A : Type 0} (act : Act A) (m : Machine) (sid : ℕ) → services_of sid m.services ≡ [] → sid < m.next_sid
    → AwayOf sid (if_done (is_done (act_result act m).reply) (change_by_act act sid m.services)) (act_result act m).work
act_away act m sid none lower =
    let h = work_away (work_of act m) m.clock sid m.services m.next_sid none lower in
    record { told = act_untold act m sid none; later = h.later; shown = h.shown }
