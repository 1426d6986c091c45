use Rattle.std.proofs.Common.{◌≡◌, ◌∙◌, ◌≤◌, ◌++◌, [], append-nil, sym, ap, subst, length, List, ℕ, true, false, refl, arith, filter, map}
use Rattle.std.proofs.lemmas.List.{length-map}
use Rattle.supervise_core.specs.Service.{Supervised}
use Rattle.svscan_core.specs.declared.moves.ChangedService.{ChangedService}
use Rattle.supervise_core.specs.ChartState.{no_move}
use Rattle.svscan_core.specs.Adding.{adding_of, state_behind}
use Rattle.svscan_core.specs.Deaths.{DeathOf, AllBefore, AllTallied}
use Rattle.svscan_core.specs.Listing.{names_in}
use Rattle.svscan_core.specs.Moves.{moment_of}
use Rattle.svscan_core.specs.Moving.{services_so_far, with_changes, timers_of, step_so_far, Takes}
use Rattle.svscan_core.specs.Names.{repeats_name}
use Rattle.svscan_core.specs.Pending.{prepared_of}
use Rattle.svscan_core.specs.Scan.{ScanState, stays, leaves, after_look, after_scan}
use Rattle.svscan_core.specs.Scanning.{prepared_services}
use Rattle.deadlines.specs.declared.timer.TimerChange.TheVariants.{Clear}
use Rattle.deadlines.specs.Timers.{with_timer_changes, is_rising}
use Rattle.svscan_core.specs.Timers.{timer_change_of, TimersAgree}
use Rattle.svscan_core.specs.Work.Work.{apply_listing}
use Rattle.svscan_core.specs.Sound.{AllAgree}
use Rattle.svscan_core.specs.Table.{charts_of, names_of, serials_of}
use Rattle.svscan_core.proofs.Alike.{takes_alike, names_alike}
use Rattle.svscan_core.proofs.ByteOrder.{order_once}
use Rattle.svscan_core.proofs.Few.{length-filter}
use Rattle.svscan_core.proofs.Scanned.{LeadsToScanned, leads_to_scanned, same_events, same_orders}
use Rattle.svscan_core.proofs.ScanTimers.{scan_timers}
use Rattle.svscan_core.proofs.SerialsRise.{rising_before, looked_serials, work_numbers}
use Rattle.svscan_core.proofs.Taking.{length_touched}
use Rattle.svscan_core.proofs.Tallied.{no_look_deaths}
use Rattle.svscan_core.proofs.WorkDone.{scan_work}
use Rattle.svscan_core.proofs.scan.plan_scan.Goals as goal

pub visit_all-requires-clause-order : goal.visit_all-requires-clause-order
visit_all-requires-clause-order g c =
    rising_before (serials_of (charts_of (with_changes c.args.slots.now.services c.args.moves.now.touched.items))) c.args.scan.now.next_sid
    c.requires.sound.sound.order

pub add_names-requires-clause-once : goal.add_names-requires-clause-once
add_names-requires-clause-once g c = ap repeats_name (c.as_slice-2.ensures.value ∙ (c.in_ok-names.ensures ∙ c.in_ok-sorted.ensures.names))
    ∙ order_once (names_in c.args.listing.now)

pub add_names-requires-clause-few : goal.add_names-requires-clause-few
add_names-requires-clause-few g c =
    let ss = with_changes c.args.slots.now.services c.as_slice.result.now in
    let long : length ss ≡ length c.args.slots.now.services = length_touched c.args.slots.now.services c.as_slice.result.now in
    let as_long : length (charts_of ss) ≡ length ss = length-map ss (λ (s : Supervised). s.chart) in
    let fewer : length (filter stays (charts_of ss)) ≤ length (charts_of ss) = length-filter stays (charts_of ss) in
    let retained : c.in_ok-retained.retained ≡ length (filter stays (charts_of ss)) = c.in_ok-retained.ensures.retained in
    let none : length c.plan_drops.new.scan.added.items ≡ 0 = ap length (c.plan_drops.ensures.added ∙ c.requires.empty.added) in
    let standing = with_changes c.args.slots.now.services c.args.moves.now.touched.items in
    let stood : length standing ≡ length c.args.slots.now.services = length_touched c.args.slots.now.services c.args.moves.now.touched.items in
    let as_stood : length (charts_of standing) ≡ length standing = length-map standing (λ (s : Supervised). s.chart) in
    omega (arith, long, as_long, fewer, retained, none, stood, as_stood, c.requires.sound.sound.few)

looked : (g : _) (c : goal.After-drop-sorted-inside-2 g)
    → Takes c.args.now (λ k. no_move (after_look c.args.listing.now c.args.now k)) (step_so_far c.args.slots.now.services c.args.moves.now)
    (step_so_far c.args.slots.now.services c.visit_all.new.self)
looked g c = takes_alike c.in_ok-sorted.sorted c.args.listing.now c.in_ok-sorted.ensures.alike c.args.now
    (step_so_far c.args.slots.now.services c.args.moves.now) (step_so_far c.args.slots.now.services c.visit_all.new.self)
    c.in_ok-visit_all.ensures.takes

pub returns-clause-most : goal.returns-clause-most
returns-clause-most g c =
    let same : length c.visit_all.new.self.orders.items ≡ length c.args.moves.now.orders.items =
    ap length (same_orders c.args.now c.args.listing.now (step_so_far c.args.slots.now.services c.args.moves.now)
    (step_so_far c.args.slots.now.services c.visit_all.new.self) (looked g c)) in
    let grows = c.in_ok-add_names.ensures.grows in
    let none : length c.plan_drops.new.scan.added.items ≡ 0 = ap length (c.plan_drops.ensures.added ∙ c.requires.empty.added) in
    omega (arith, same, none, grows.orders, grows.few)

leads : (g : _) (c : goal.After-drop-sorted-inside-2 g)
    → LeadsToScanned c.args.listing.now c.args.now c.args.scan.now.next_sid (with_changes c.args.slots.now.services c.args.moves.now.touched.items)
    (with_changes c.args.slots.now.services c.visit_all.new.self.touched.items) c.plan_drops.new.scan.dropped.items
    (adding_of c.plan_drops.new.scan c.visit_all.new.self) (adding_of c.add_names.new.self c.add_names.new.moves)
leads g c =
    let slots = c.args.slots.now.services in
    let standing = with_changes slots c.args.moves.now.touched.items in
    let visited = with_changes slots c.visit_all.new.self.touched.items in
    let same : with_changes slots c.as_slice.result.now ≡ visited = ap (with_changes slots) c.as_slice.ensures.value in
    let drops = c.in_ok-retained.ensures in
    let retained : c.in_ok-retained.retained ≡ length (filter stays (charts_of visited)) =
    drops.retained ∙ ap (λ ss. length (filter stays (charts_of ss))) same in
    let adds = c.in_ok-add_names.ensures in
    leads_to_scanned c.args.listing.now c.args.now c.args.scan.now.next_sid slots standing visited c.plan_drops.new.scan.dropped.items
    c.as_slice-2.result.now
    (adding_of c.plan_drops.new.scan c.visit_all.new.self) (adding_of c.add_names.new.self c.add_names.new.moves)
    (looked g c).services c.requires.sound.sound.names c.requires.sound.sound.order c.requires.sound.names
    (drops.dropped ∙ (ap (λ ns. ns ++ names_of (filter leaves (charts_of (with_changes slots c.as_slice.result.now)))) c.requires.empty.dropped
    ∙ ap (λ ss. names_of (filter leaves (charts_of ss))) same))
    (c.as_slice-2.ensures.value ∙ (c.in_ok-names.ensures ∙ c.in_ok-sorted.ensures.names))
    (c.plan_drops.ensures.added ∙ c.requires.empty.added) c.plan_drops.ensures.next_sid (c.plan_drops.ensures.listed ∙ c.requires.empty.listed)
    (λ services long finds. adds.state services (long ∙ sym retained) finds
    ∙ names_alike c.in_ok-sorted.sorted c.args.listing.now c.in_ok-sorted.ensures.alike
    (state_behind services (adding_of c.plan_drops.new.scan c.visit_all.new.self)) c.as_slice-2.result.now)
    (λ services numbered. adds.goes_on services numbered)

dropped_serials : (g : _) (c : goal.After-drop-sorted-inside-2 g)
    → c.add_names.new.self.dropped_sids.items
    ≡ serials_of (filter leaves (charts_of (with_changes c.args.slots.now.services c.visit_all.new.self.touched.items)))
dropped_serials g c =
    let slots = c.args.slots.now.services in
    let same : with_changes slots c.as_slice.result.now ≡ with_changes slots c.visit_all.new.self.touched.items =
    ap (with_changes slots) c.as_slice.ensures.value in
    c.add_names.ensures.only.dropped_sids
    ∙ (c.in_ok-retained.ensures.dropped_sids
    ∙ (ap (λ ns. ns ++ serials_of (filter leaves (charts_of (with_changes slots c.as_slice.result.now)))) c.requires.empty.dropped_sids
    ∙ ap (λ ss. serials_of (filter leaves (charts_of ss))) same))

pub returns-clause-worked : goal.returns-clause-worked
returns-clause-worked g c = record {
  worked =
      scan_work c.args.listing.now c.args.now c.args.scan.now.next_sid
      (services_so_far c.args.slots.now.services c.args.moves.now.touched.items) c.args.moves.now.events.items c.args.moves.now.orders.items
      (prepared_of c.args.slots.now.services c.add_names.new.moves c.add_names.new.self false)
      (ap (λ ts. charts_of (prepared_services c.args.slots.now.services ts c.add_names.new.self.dropped.items c.add_names.new.self.added.items))
      c.add_names.ensures.only.touched
      ∙ (ap (λ ns. charts_of (prepared_services c.args.slots.now.services c.visit_all.new.self.touched.items ns c.add_names.new.self.added.items))
      c.add_names.ensures.only.dropped
      ∙ (leads g c).services))
      (ap (λ (s : ScanState). s.next_sid) (leads g c).given)
      (ap (λ (s : ScanState). s.events) (leads g c).given
      ∙ ap (λ es. es ++ (after_scan c.args.listing.now c.args.now
      (charts_of (with_changes c.args.slots.now.services c.args.moves.now.touched.items)) c.args.scan.now.next_sid).events)
      (same_events c.args.now c.args.listing.now (step_so_far c.args.slots.now.services c.args.moves.now)
      (step_so_far c.args.slots.now.services c.visit_all.new.self) (looked g c)))
      (ap (λ (s : ScanState). s.orders) (leads g c).given
      ∙ ap (λ os. os ++ (after_scan c.args.listing.now c.args.now
      (charts_of (with_changes c.args.slots.now.services c.args.moves.now.touched.items)) c.args.scan.now.next_sid).orders)
      (same_orders c.args.now c.args.listing.now (step_so_far c.args.slots.now.services c.args.moves.now)
      (step_so_far c.args.slots.now.services c.visit_all.new.self) (looked g c)))
      refl
      (dropped_serials g c ∙ ap (λ cs. serials_of (filter leaves cs)) (looked g c).services)
      (ap (λ (s : ScanState). s.listed) (leads g c).given);
  agrees = λ h at all.
      let slots = c.args.slots.now.services in
      let seen = (looked g c).agrees h at all in
      subst (λ (ts : List ChangedService). AllAgree (prepared_services slots ts c.add_names.new.self.dropped.items c.add_names.new.self.added.items)
      (h ++ map moment_of c.add_names.new.moves.events.items))
      (sym c.add_names.ensures.only.touched)
      (subst (λ (ns : List (List ℕ)). AllAgree (prepared_services slots c.visit_all.new.self.touched.items ns c.add_names.new.self.added.items)
      (h ++ map moment_of c.add_names.new.moves.events.items))
      (sym c.add_names.ensures.only.dropped) ((leads g c).agrees h seen));
  tallies = λ deaths before all.
      let slots = c.args.slots.now.services in
      let standing = with_changes slots c.args.moves.now.touched.items in
      let seen : AllTallied (with_changes slots c.visit_all.new.self.touched.items) (deaths ++ []) =
      subst (λ (ds : List DeathOf). AllTallied (with_changes slots c.visit_all.new.self.touched.items) (deaths ++ ds))
      (no_look_deaths c.args.listing.now c.args.now (charts_of standing)) ((looked g c).tallies deaths all) in
      subst (λ (ts : List ChangedService). AllTallied (prepared_services slots ts c.add_names.new.self.dropped.items c.add_names.new.self.added.items)
      (deaths ++ []))
      (sym c.add_names.ensures.only.touched)
      (subst (λ (ns : List (List ℕ)). AllTallied (prepared_services slots c.visit_all.new.self.touched.items ns c.add_names.new.self.added.items)
      (deaths ++ []))
      (sym c.add_names.ensures.only.dropped)
      ((leads g c).tallies (deaths ++ []) (subst (λ (ds : List DeathOf). AllBefore c.args.scan.now.next_sid ds) (sym (append-nil deaths)) before)
      seen));
  timers = λ ts a.
      let slots = c.args.slots.now.services in
      let standing = with_changes slots c.args.moves.now.touched.items in
      let visited = with_changes slots c.visit_all.new.self.touched.items in
      let rising : is_rising (serials_of (charts_of standing)) ≡ true =
      rising_before (serials_of (charts_of standing)) c.args.scan.now.next_sid c.requires.sound.sound.order in
      let numbers : serials_of (charts_of visited) ≡ serials_of (charts_of standing) =
      ap serials_of (looked g c).services ∙ looked_serials c.args.listing.now c.args.now (charts_of standing) in
      let next = (after_scan c.args.listing.now c.args.now (charts_of standing) c.args.scan.now.next_sid).next_sid in
      let done = (after_scan c.args.listing.now c.args.now (charts_of standing) c.args.scan.now.next_sid).services in
      let rises : is_rising (serials_of done) ≡ true =
      rising_before (serials_of done) next (work_numbers (apply_listing c.args.listing.now) c.args.now
      (charts_of standing) c.args.scan.now.next_sid c.requires.sound.sound.order) in
      let sids = dropped_serials g c in
      subst (λ (us : List ChangedService). TimersAgree
      (with_timer_changes (timers_of us ++ (map (λ sid. Clear sid) c.add_names.new.self.dropped_sids.items
      ++ map timer_change_of (charts_of c.add_names.new.self.added.items))) ts)
      (charts_of (prepared_services slots us c.add_names.new.self.dropped.items c.add_names.new.self.added.items)))
      (sym c.add_names.ensures.only.touched)
      (subst (λ (ns : List (List ℕ)). TimersAgree
      (with_timer_changes (timers_of c.visit_all.new.self.touched.items
      ++ (map (λ sid. Clear sid) c.add_names.new.self.dropped_sids.items ++ map timer_change_of (charts_of c.add_names.new.self.added.items))) ts)
      (charts_of (prepared_services slots c.visit_all.new.self.touched.items ns c.add_names.new.self.added.items)))
      (sym c.add_names.ensures.only.dropped)
      (scan_timers ts (timers_of c.visit_all.new.self.touched.items) c.add_names.new.self.dropped_sids.items
      (charts_of c.add_names.new.self.added.items) (charts_of visited) _
      (ap is_rising numbers ∙ rising) sids
      ((leads g c).services ∙ sym (ap (λ (s : ScanState). s.services) (leads g c).given))
      (ap (λ xs. is_rising (serials_of xs)) (leads g c).services ∙ rises)
      ((looked g c).timers ts a)));
}
