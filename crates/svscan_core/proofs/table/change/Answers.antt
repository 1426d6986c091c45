use Rattle.std.proofs.Common.{◌+◌, ◌<◌, ◌^◌, ◌∙◌, ◌++◌, List, append-nil, sym, subst, ap}
use Rattle.std.specs.Prelude.{is_some}
use Rattle.supervise_core.specs.declared.chart_state.ChartState.{ChartState}
use Rattle.supervise_core.specs.Service.{Supervised}
use Rattle.svscan_core.specs.Changed.{GivesChange, TakesChange}
use Rattle.svscan_core.specs.Deaths.{DeathOf, AllTallied}
use Rattle.svscan_core.specs.Table.{charts_of}
use Rattle.svscan_core.proofs.OnePlace.{none_reported}
use Rattle.svscan_core.proofs.Places.{get_map}
use Rattle.svscan_core.proofs.Found.{not_empty, any_chart, all_at, changed_there}
use Rattle.svscan_core.proofs.Reported.{any_found}
use Rattle.svscan_core.proofs.table.change.Given.{Over}
use Rattle.svscan_core.proofs.table.change.Goals as goal

pub returns-in_err-place-clause-takes : goal.returns-in_err-place-clause-takes
returns-in_err-place-clause-takes g c =
    let services = c.args.slots.now.services in
    let none = none_reported c.args.sid c.args.change.now c.args.now (charts_of services)
    (any_chart services c.args.sid ∙ c.in_err-place.ensures.none) in
    record {
      services = sym none.services;
      tallies = λ deaths all.
          subst (λ (ds : List DeathOf). AllTallied services ds) (sym (ap (λ ds. deaths ++ ds) none.deaths ∙ append-nil deaths)) all;
    }

pub returns-in_err-place-clause-known : goal.returns-in_err-place-clause-known
returns-in_err-place-clause-known g c =
    ap is_some c.from_residual.ensures ∙ sym (any_chart c.args.slots.now.services c.args.sid ∙ c.in_err-place.ensures.none)

pub returns-in_err-nth-clause-takes : goal.returns-in_err-nth-clause-takes
returns-in_err-nth-clause-takes g c =
    absurd (not_empty c.args.slots.now.services c.in_ok-place.place c.args.sid c.in_ok-place.ensures.found c.in_err-nth.ensures)

pub returns-in_err-nth-clause-known : goal.returns-in_err-nth-clause-known
returns-in_err-nth-clause-known g c =
    absurd (not_empty c.args.slots.now.services c.in_ok-place.place c.args.sid c.in_ok-place.ensures.found c.in_err-nth.ensures)

pub change-out-requires : goal.change-out-requires
change-out-requires g c =
    let services = c.args.slots.now.services in
    let s = c.in_ok-nth.field-0.now in
    rw c.standing.ensures
    (all_at (λ (k : ChartState). k.generation + 1 < 2 ^ 64) (charts_of services) c.in_ok-place.place s.chart c.requires.generations
    (get_map (λ (t : Supervised). t.chart) services c.in_ok-place.place s (sym c.in_ok-nth.ensures)))

changed : (g : Over) (c : goal.After-adopt g)
    → TakesChange c.args.sid c.args.change.now c.args.now c.args.slots.now.services c.adopt.new.self.services
    × GivesChange c.args.sid c.args.change.now c.args.now c.args.slots.now.services c.adopt.new.self.services c.change-out.result
changed g c =
    let services = c.args.slots.now.services in
    let s = c.in_ok-nth.field-0.now in
    let there = sym c.in_ok-nth.ensures in
    let is = c.standing.ensures in
    changed_there c.args.sid c.args.now c.args.change.now services c.adopt.new.self.services c.in_ok-place.place s c.change-out.new.self
    c.counted_death.result
    c.change-out.result c.requires.order c.in_ok-place.ensures.found there (rw is at c.change-out.ensures.gives)
    (rw is at c.change-out.ensures.agrees)
    (rw is at c.change-out.ensures.sid) c.counted_death.ensures (c.adopt.ensures.services s there)

pub returns-clause-takes : goal.returns-clause-takes
returns-clause-takes g c = (changed g c).0

pub returns-clause-gives : goal.returns-clause-gives
returns-clause-gives g c = (changed g c).1

pub returns-clause-known : goal.returns-clause-known
returns-clause-known g c =
    sym (any_found (charts_of c.args.slots.now.services) c.in_ok-place.place c.args.sid c.in_ok-place.ensures.found)
