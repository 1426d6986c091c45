use Rattle.std.proofs.Common.{◌≡◌, [], ◌∷◌, ◌∙◌, ◌<◌, ◌+◌, sym, ap, subst}
use Rattle.std.specs.Prelude.{List, Option, Some, option_map, IsSomeAnd, slice_get}
use Rattle.std.proofs.lemmas.List.{map-append}
use Rattle.std.proofs.lemmas.Option.{get_or_from_slice_get, slice_get_within}
use Rattle.deadlines.specs.Timers.{is_rising}
use Rattle.s6_events.specs.declared.mark.Mark.{Mark}
use Rattle.supervise_core.specs.declared.chart_state.ChartState.{ChartState}
use Rattle.supervise_core.specs.Chart.{changed_by}
use Rattle.supervise_core.specs.MatchesMove.{MatchesMove}
use Rattle.supervise_core.specs.Service.{Supervised, ServiceView, KeepsAgreeing}
use Rattle.svscan_core.specs.declared.moves.ChangedService.{ChangedService}
use Rattle.svscan_core.specs.Moving.{with_changes, timers_of, step_so_far, KeepNames, TakesAt}
use Rattle.svscan_core.specs.Table.{charts_of}
use Rattle.svscan_core.specs.Timers.{timer_change_of}
use Rattle.svscan_core.proofs.Matching.{matches_alone}
use Rattle.svscan_core.proofs.OnePlace.{none_reported}
use Rattle.svscan_core.proofs.Places.{get_map}
use Rattle.svscan_core.proofs.Reported.{state_found, one_at, none_so_far, one_takes, none_takes}
use Rattle.svscan_core.proofs.Taking.{stood, one_taken, touched_takes, touched_more, names_kept, chart_there}
use Rattle.svscan_core.proofs.Tallied.{change_joins}
use Rattle.svscan_core.proofs.moves.Moves.change_one.Goals as goal

pub returns-in_default-clause-takes : goal.returns-in_default-clause-takes
returns-in_default-clause-takes g c =
    let ss = with_changes c.args.slots.now.services c.args.self.now.touched.items in
    let none = none_so_far c.args.slots.now.services (charts_of ss) c.args.sid c.requires.serials c.in_default.ensures.none in
    none_takes c.args.now c.args.sid c.args.change.now (step_so_far c.args.slots.now.services c.args.self.now) none

pub returns-in_default-clause-stale : goal.returns-in_default-clause-stale
returns-in_default-clause-stale g c =
    let ss = with_changes c.args.slots.now.services c.args.self.now.touched.items in
    let none = none_so_far c.args.slots.now.services (charts_of ss) c.args.sid c.requires.serials c.in_default.ensures.none in
    let rest = none_reported c.args.sid c.args.change.now c.args.now (charts_of ss) none in
    sym rest.stale

pub change_onto-requires-clause-next : goal.change_onto-requires-clause-next
change_onto-requires-clause-next g c =
    let ss = with_changes c.args.slots.now.services c.args.self.now.touched.items in
    let place = c.in-Some.place in
    let before = c.in-Some-standing_at.standing.now in
    let old = stood (slice_get ss place) before
    (ap (option_map (λ s. s.now)) (sym c.in-Some-standing_at.is) ∙ (rw c.as_slice.ensures.value at c.standing_at.ensures)) in
    let there : slice_get (charts_of ss) place ≡ Some before.chart =
    get_map (λ (t : Supervised). t.chart) ss place old.0 old.1 ∙ ap (λ (b : ServiceView). Some b.chart) old.2 in
    subst (λ (x : ChartState). x.generation + 1 < 18446744073709551616) (get_or_from_slice_get (charts_of ss) place before.chart before.chart there)
    (c.requires.generations place before.chart (slice_get_within (charts_of ss) place before.chart there))

pub returns-clause-takes : goal.returns-clause-takes
returns-clause-takes g c =
    let ss = with_changes c.args.slots.now.services c.args.self.now.touched.items in
    let cs = charts_of ss in
    let place = c.in-Some.place in
    let before = c.in-Some-standing_at.standing.now in
    let rising = ap is_rising c.requires.serials ∙ c.requires.order in
    let at = state_found cs place c.args.sid (ap (λ ns. slice_get ns place) c.requires.serials ∙ c.in-Some.ensures.found) in
    let old = stood (slice_get ss place) before
    (ap (option_map (λ s. s.now)) (sym c.in-Some-standing_at.is) ∙ (rw c.as_slice.ensures.value at c.standing_at.ensures)) in
    let is : before.chart ≡ at.state = sym (ap (λ (b : ServiceView). b.chart) old.2) ∙ chart_there ss place old.0 at.state old.1 at.there in
    let after = c.change_onto.new.self in
    let gives : MatchesMove (changed_by c.args.change.now c.args.now before.chart) after.chart c.change_onto.new.out =
    matches_alone _ after.chart c.clear.new.self c.change_onto.new.out c.clear.ensures.events c.clear.ensures.orders c.clear.ensures.stale
    c.change_onto.ensures.gives in
    let agrees : KeepsAgreeing c.args.now c.change_onto.new.out.events.items before after =
    subst (λ (ms : List Mark). KeepsAgreeing c.args.now ms before after) (sym gives.marks) c.change_onto.ensures.agrees in
    let new = c.touch.new.self in
    let t : ChangedService = record { place = place; standing = after; death = c.counted_death-changed.result } in
    one_takes c.args.now c.args.sid c.args.change.now place (step_so_far c.args.slots.now.services c.args.self.now)
    (step_so_far c.args.slots.now.services new) at rising
    (subst (λ (x : ChartState). TakesAt c.args.now place x (changed_by c.args.change.now c.args.now x)
    (step_so_far c.args.slots.now.services c.args.self.now) (step_so_far c.args.slots.now.services new)) is
    (touched_takes c.args.now place ss (with_changes c.args.slots.now.services new.touched.items) c.args.self.now.events.items
    new.events.items c.args.self.now.orders.items new.orders.items (timers_of c.args.self.now.touched.items) (timers_of new.touched.items)
    old.0 before after t.death (changed_by c.args.change.now c.args.now before.chart) c.change_onto.new.out old.1 old.2 rising
    gives agrees c.change_onto.ensures.sid
    (change_joins c.args.change.now c.args.now before.chart _ c.counted_death-changed.result gives.stale c.counted_death-changed.ensures)
    (ap (with_changes c.args.slots.now.services) c.in_ok-touch.ensures.touched
    ∙ (touched_more c.args.slots.now.services c.args.self.now.touched.items t ∙ one_taken ss t old.0 old.1))
    c.in_ok-touch.ensures.events c.in_ok-touch.ensures.orders
    (ap timers_of c.in_ok-touch.ensures.touched
    ∙ map-append (λ (t : ChangedService). timer_change_of t.standing.chart) c.args.self.now.touched.items (t ∷ []))))

pub returns-clause-stale : goal.returns-clause-stale
returns-clause-stale g c =
    let ss = with_changes c.args.slots.now.services c.args.self.now.touched.items in
    let cs = charts_of ss in
    let place = c.in-Some.place in
    let before = c.in-Some-standing_at.standing.now in
    let at = state_found cs place c.args.sid (ap (λ ns. slice_get ns place) c.requires.serials ∙ c.in-Some.ensures.found) in
    let old = stood (slice_get ss place) before
    (ap (option_map (λ s. s.now)) (sym c.in-Some-standing_at.is) ∙ (rw c.as_slice.ensures.value at c.standing_at.ensures)) in
    let is : before.chart ≡ at.state = sym (ap (λ (b : ServiceView). b.chart) old.2) ∙ chart_there ss place old.0 at.state old.1 at.there in
    let gives : MatchesMove (changed_by c.args.change.now c.args.now before.chart) c.change_onto.new.self.chart c.change_onto.new.out =
    matches_alone _ c.change_onto.new.self.chart c.clear.new.self c.change_onto.new.out c.clear.ensures.events c.clear.ensures.orders
    c.clear.ensures.stale c.change_onto.ensures.gives in
    let one = one_at c.args.sid c.args.change.now c.args.now cs place at (ap is_rising c.requires.serials ∙ c.requires.order) in
    gives.stale ∙ (ap (λ (x : ChartState). (changed_by c.args.change.now c.args.now x).stale) is ∙ sym one.stale)

pub returns-clause-names : goal.returns-clause-names
returns-clause-names g c = λ h.
    let ss = with_changes c.args.slots.now.services c.args.self.now.touched.items in
    let place = c.in-Some.place in
    let before = c.in-Some-standing_at.standing.now in
    let old = stood (slice_get ss place) before
    (ap (option_map (λ s. s.now)) (sym c.in-Some-standing_at.is) ∙ (rw c.as_slice.ensures.value at c.standing_at.ensures)) in
    let after = c.change_onto.new.self in
    let t : ChangedService = record { place = place; standing = after; death = c.counted_death-changed.result } in
    subst (λ (ts : List ChangedService). KeepNames c.args.slots.now.services ts) (sym c.in_ok-touch.ensures.touched)
    (names_kept c.args.slots.now.services c.args.self.now.touched.items t h
    (subst (λ (o : Option Supervised). IsSomeAnd o (λ s. s.chart.name ≡ after.chart.name)) (sym old.1)
    (ap (λ (b : ServiceView). b.chart.name) old.2 ∙ sym c.change_onto.ensures.name)))
