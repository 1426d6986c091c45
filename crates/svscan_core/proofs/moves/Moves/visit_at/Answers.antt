use Rattle.std.proofs.Common.{[], ◌∷◌, ◌++◌, ◌+◌, ◌≡◌, ◌∙◌, length, refl, sym, ap, subst, take, arith}
use Rattle.std.specs.Prelude.{List, Option, option_map, None, Some, IsSomeAnd, slice_get}
use Rattle.supervise_core.specs.declared.chart_state.ChartState.{ChartState}
use Rattle.supervise_core.specs.ChartState.{Moved, no_move}
use Rattle.supervise_core.specs.Service.{Supervised, ServiceView, with_view}
use Rattle.svscan_core.specs.declared.moves.ChangedService.{ChangedService}
use Rattle.std.proofs.lemmas.List.{length-append, map-append}
use Rattle.svscan_core.specs.Timers.{timer_change_of}
use Rattle.svscan_core.specs.Moving.{with_changes, timers_of, step_so_far, KeepNames, TakesAt}
use Rattle.svscan_core.specs.Table.{charts_of, serials_of}
use Rattle.svscan_core.specs.Visit.{visit_move}
use Rattle.svscan_core.proofs.Places.{get_map}
use Rattle.svscan_core.proofs.Taking.{stood, one_taken, stays_takes, touched_takes, touched_more, names_kept, still_unvisited, serials_touched, chart_there}
use Rattle.svscan_core.proofs.Tallied.{visit_joins}
use Rattle.svscan_core.proofs.moves.Moves.visit_at.Goals as goal

pub make-requires : goal.make-requires
make-requires g c =
    let ss = with_changes c.args.slots.now.services c.args.self.now.touched.items in
    let old = stood (slice_get ss c.args.place) c.in-Some.standing.now
    (ap (option_map (λ s. s.now)) (sym c.in-Some.is) ∙ (rw c.as_slice-touched.ensures.value at c.standing_before.ensures)) in
    record {
      next = c.requires.next c.in-Some.standing.now.chart
          (get_map (λ (t : Supervised). t.chart) ss c.args.place old.0 old.1 ∙ ap (λ (b : ServiceView). Some b.chart) old.2);
    }

pub returns-clause-unvisited : goal.returns-clause-unvisited
returns-clause-unvisited g c = λ p behind.
    let services = c.args.slots.now.services in
    let touched = c.args.self.now.touched.items in
    let t : ChangedService = record { place = c.args.place; standing = c.make.new.standing; death = None } in
    subst (λ (ts : List ChangedService). slice_get (with_changes services (take c.args.before ts)) p ≡ slice_get (with_changes services ts) p)
    (sym c.in_ok-touch.ensures.touched)
    (still_unvisited services touched t c.args.before p c.requires.earlier (omega (arith, behind)) (c.requires.unvisited p (omega (arith, behind))))

pub returns-then-passes-clause-visited : goal.returns-then-passes-clause-visited
returns-then-passes-clause-visited g c = record {
  takes = λ k there.
      let ss = with_changes c.args.slots.now.services c.args.self.now.touched.items in
      let old = stood (slice_get ss c.args.place) c.in-Some.standing.now
      (ap (option_map (λ s. s.now)) (sym c.in-Some.is) ∙ (rw c.as_slice-touched.ensures.value at c.standing_before.ensures)) in
      let is : c.in-Some.standing.now.chart ≡ k = sym (ap (λ (b : ServiceView). b.chart) old.2) ∙ chart_there ss c.args.place old.0 k old.1 there in
      let stays : visit_move c.args.visit c.args.now k ≡ no_move k =
      subst (λ (x : ChartState). visit_move c.args.visit c.args.now x ≡ no_move x) is (c.passes.ensures c.if-passes.true) in
      subst (λ (m : Moved). TakesAt c.args.now c.args.place k m (step_so_far c.args.slots.now.services c.args.self.now)
      (step_so_far c.args.slots.now.services c.args.self.now)) (sym stays)
      (stays_takes c.args.now c.args.place k (step_so_far c.args.slots.now.services c.args.self.now) there);
  serials = refl;
  names = λ h. h;
  more = omega arith;
}

pub returns-clause-visited : goal.returns-clause-visited
returns-clause-visited g c = record {
  takes = λ k there.
      let ss = with_changes c.args.slots.now.services c.args.self.now.touched.items in
      let old = stood (slice_get ss c.args.place) c.in-Some.standing.now
      (ap (option_map (λ s. s.now)) (sym c.in-Some.is) ∙ (rw c.as_slice-touched.ensures.value at c.standing_before.ensures)) in
      let is : c.in-Some.standing.now.chart ≡ k = sym (ap (λ (b : ServiceView). b.chart) old.2) ∙ chart_there ss c.args.place old.0 k old.1 there in
      let after = c.make.new.standing in
      let new = c.touch.new.self in
      let t : ChangedService = record { place = c.args.place; standing = after; death = None } in
      subst (λ (x : ChartState). TakesAt c.args.now c.args.place x (visit_move c.args.visit c.args.now x)
      (step_so_far c.args.slots.now.services c.args.self.now) (step_so_far c.args.slots.now.services new)) is
      (touched_takes c.args.now c.args.place ss (with_changes c.args.slots.now.services new.touched.items) c.args.self.now.events.items
      new.events.items c.args.self.now.orders.items new.orders.items (timers_of c.args.self.now.touched.items) (timers_of new.touched.items)
      old.0 c.in-Some.standing.now after t.death
      (visit_move c.args.visit c.args.now c.in-Some.standing.now.chart) c.make.new.out old.1 old.2 c.requires.order
      c.make.ensures.gives c.make.ensures.agrees c.make.ensures.sid (visit_joins c.args.visit c.args.now c.in-Some.standing.now.chart)
      (ap (with_changes c.args.slots.now.services) c.in_ok-touch.ensures.touched
      ∙ (touched_more c.args.slots.now.services c.args.self.now.touched.items t ∙ one_taken ss t old.0 old.1))
      c.in_ok-touch.ensures.events c.in_ok-touch.ensures.orders
      (ap timers_of c.in_ok-touch.ensures.touched
      ∙ map-append (λ (t : ChangedService). timer_change_of t.standing.chart) c.args.self.now.touched.items (t ∷ [])));
  serials =
      let ss = with_changes c.args.slots.now.services c.args.self.now.touched.items in
      let old = stood (slice_get ss c.args.place) c.in-Some.standing.now
      (ap (option_map (λ s. s.now)) (sym c.in-Some.is) ∙ (rw c.as_slice-touched.ensures.value at c.standing_before.ensures)) in
      let after = c.make.new.standing in
      let t : ChangedService = record { place = c.args.place; standing = after; death = None } in
      ap (λ (ts : List ChangedService). serials_of (charts_of (with_changes c.args.slots.now.services ts))) c.in_ok-touch.ensures.touched
      ∙ (ap (λ (services : List Supervised). serials_of (charts_of services))
      (touched_more c.args.slots.now.services c.args.self.now.touched.items t ∙ one_taken ss t old.0 old.1)
      ∙ serials_touched ss c.args.place old.0 (with_view after None old.0) old.1
      (c.make.ensures.sid ∙ sym (ap (λ (b : ServiceView). b.chart.sid) old.2)));
  names = λ h.
      let ss = with_changes c.args.slots.now.services c.args.self.now.touched.items in
      let old = stood (slice_get ss c.args.place) c.in-Some.standing.now
      (ap (option_map (λ s. s.now)) (sym c.in-Some.is) ∙ (rw c.as_slice-touched.ensures.value at c.standing_before.ensures)) in
      let after = c.make.new.standing in
      let t : ChangedService = record { place = c.args.place; standing = after; death = None } in
      subst (λ (ts : List ChangedService). KeepNames c.args.slots.now.services ts) (sym c.in_ok-touch.ensures.touched)
      (names_kept c.args.slots.now.services c.args.self.now.touched.items t h
      (subst (λ (o : Option Supervised). IsSomeAnd o (λ s. s.chart.name ≡ after.chart.name)) (sym old.1)
      (ap (λ (b : ServiceView). b.chart.name) old.2 ∙ sym c.make.ensures.name)));
  more =
      let t : ChangedService = record { place = c.args.place; standing = c.make.new.standing; death = None } in
      let longer : length c.touch.new.self.touched.items ≡ length (c.args.self.now.touched.items ++ t ∷ []) =
      ap length c.in_ok-touch.ensures.touched in
      let one : length (c.args.self.now.touched.items ++ t ∷ []) ≡ length c.args.self.now.touched.items + 1 =
      length-append c.args.self.now.touched.items (t ∷ []) in
      omega (arith, longer, one);
}
