use Rattle.std.proofs.Common.{arith, ◌≡◌, ◌∙◌, ◌+◌, ◌<◌, ◌≤◌, refl, ap, sym, subst, ◌++◌, List}
use Rattle.std.specs.Prelude.{option_map}
use Rattle.std.proofs.lemmas.Bool.Decides.{nat_tests}
use Rattle.deadlines.specs.declared.timer.Timer.{Timer}
use Rattle.deadlines.specs.Timers.{with_timer_changes}
use Rattle.event_directory.specs.Changes.{Offer}
use Rattle.event_directory.specs.Remembered.{DirectoriesShown, directories_after_commit}
use Rattle.svscan_core.specs.Table.{Table, charts_of}
use Rattle.svscan_core.specs.Timers.{TimersAgree}
use Rattle.wait_conditions.specs.Kept.{NoneBegan}
use Rattle.wait_conditions.specs.Stands.{WaitsShown, waits_shown}
use Rattle.wait_conditions.specs.WaitsPlans.{MakesPlan}
use Rattle.wait_conditions.proofs.Oldest.{all_needed}
use Rattle.svscan_core.specs.Registry.{registry_prepared}
use Rattle.tree_core.specs.Machine.{Machine}
use Rattle.tree_core.specs.Plan.{IsQuiet}
use Rattle.tree_core.specs.Sound.{IsCounted}
use Rattle.tree_core.specs.Run.{after}
use Rattle.tree_core.specs.Step.{step_limit}
use Rattle.tree_core.specs.StandsFor.{StoredTree, StandsFor, IsCut}
use Rattle.tree_core.specs.TreeFields.{tree_view}
use Rattle.tree_core.proofs.PlanMakes.{not_ok}
use Rattle.tree_core.proofs.Tied.{is_tied}
use Rattle.tree_core.proofs.Stand.{recorded_after, stands_after, counted_after, cut_parts, is_cut}
use Rattle.tree_core.proofs.tree.Tree.apply_in_place.Goals as goal

pub returns-in-Err-clause-quiet : goal.returns-in-Err-clause-quiet
returns-in-Err-clause-quiet g c = λ q.
    not_ok c.plan_step-planned.result _ _ c.in-Err.is
    (c.plan_step-planned.ensures.quiet (subst (λ (x : StoredTree). IsQuiet c.args.input.now x.clock (charts_of x.services)) (sym c.self.view_is) q))

pub returns-clause-step : goal.returns-clause-step
returns-clause-step g c = λ m s.
    let t : StoredTree = tree_view c.self.inside in
    let plan = c.in-Ok.plan in
    let counted = c.self.invariant.0 in
    let most = counted.steps in
    let left : c.self.inside.steps < step_limit = grind (arith, nat_tests, most, c.is_spent.ensures, c.if-is_spent.false) in
    let prepared = registry_prepared c.plan_step-planned.new.registry.shown.services c.plan_step-planned.new.registry.planned in
    let shown = c.commit.ensures in
    let waits : waits_shown c.plan_step-planned.new.waits ≡ t.waits = c.in-Ok.ensures.same.4 in
    let later = waits_shown c.commit-4.new.self in
    let made = subst (λ (w : WaitsShown). MakesPlan plan.waiters w later) waits c.commit-4.ensures.makes in
    let before = c.commit-3.ensures.forgotten ∙ c.in-Ok.ensures.same.2 in
    let all : c.commit-3.new.self.kept ≡ t.kept ++ plan.history =
    c.commit-3.ensures.kept ∙ ap (λ k. k ++ plan.history) c.in-Ok.ensures.same.3 in
    let parts = cut_parts t plan.history c.commit-3.new.self.forgotten c.forget.new.self.forgotten c.needed_from.result
    c.commit-3.new.self.kept c.forget.new.self.kept before all c.forget.ensures.forgotten c.forget.ensures.kept in
    let offer : Offer = option_map (λ o. (o.0, o.1)) c.take_offer-offer.result in
    let heard : c.commit-5.new.self.shown ≡ directories_after_commit c.plan_step-planned.new.directories.prepared offer =
    c.commit-5.ensures.after in
    stands_after t _ c.args.input.now plan prepared later c.plan_step-planned.new.directories.prepared
    c.plan_step-planned.new.effect offer c.take_offer-offer.ensures (λ n now. c.in-Ok.ensures.step c.self.inside.steps left n now later made)
    (record {
      clock = refl;
      steps = refl;
      closing = refl;
      services = ap (λ (x : Table). x.services) shown;
      next_sid = ap (λ (x : Table). x.next_sid) shown;
      forgotten = parts.since;
      within = parts.within;
      kept = parts.left;
      waits = refl;
      directories = heard;
    })
    m (subst (λ (x : StoredTree). StandsFor x m) (sym c.self.view_is) s)

pub invariant_of-self-2 : goal.invariant_of-self-2
invariant_of-self-2 g c =
    let t : StoredTree = tree_view c.self.inside in
    let plan = c.in-Ok.plan in
    let counted = c.self.invariant.0 in
    let most = counted.steps in
    let left : c.self.inside.steps < step_limit = grind (arith, nat_tests, most, c.is_spent.ensures, c.if-is_spent.false) in
    let prepared = registry_prepared c.plan_step-planned.new.registry.shown.services c.plan_step-planned.new.registry.planned in
    let shown = c.commit.ensures in
    let waits : waits_shown c.plan_step-planned.new.waits ≡ t.waits = c.in-Ok.ensures.same.4 in
    let later = waits_shown c.commit-4.new.self in
    let made = subst (λ (w : WaitsShown). MakesPlan plan.waiters w later) waits c.commit-4.ensures.makes in
    let before = c.commit-3.ensures.forgotten ∙ c.in-Ok.ensures.same.2 in
    let all : c.commit-3.new.self.kept ≡ t.kept ++ plan.history =
    c.commit-3.ensures.kept ∙ ap (λ k. k ++ plan.history) c.in-Ok.ensures.same.3 in
    let parts = cut_parts t plan.history c.commit-3.new.self.forgotten c.forget.new.self.forgotten c.needed_from.result
    c.commit-3.new.self.kept c.forget.new.self.kept before all c.forget.ensures.forgotten c.forget.ensures.kept in
    let offer : Offer = option_map (λ o. (o.0, o.1)) c.take_offer-offer.result in
    let heard : c.commit-5.new.self.shown ≡ directories_after_commit c.plan_step-planned.new.directories.prepared offer =
    c.commit-5.ensures.after in
    let m : Machine = c.self.invariant.3.0 in
    let s : StandsFor t m = c.self.invariant.3.1 in
    let cut : IsCut t = c.self.invariant.4 in
    let none : NoneBegan t.forgotten t.waits.waiters =
    subst (λ n. NoneBegan n t.waits.waiters) (sym cut.cut) (all_needed t.waits.waiters t.waits.count) in
    let count = cut.count in
    let enough : t.forgotten ≤ t.waits.count = omega (arith, count) in
    let timers : c.commit-2.new.self.timers ≡ with_timer_changes plan.timers c.self.inside.deadlines.timers =
    c.commit-2.ensures ∙ ap (with_timer_changes plan.timers) c.in-Ok.ensures.same.1 in
    let done = stands_after t _ c.args.input.now plan prepared later c.plan_step-planned.new.directories.prepared
    c.plan_step-planned.new.effect offer c.take_offer-offer.ensures (λ n now. c.in-Ok.ensures.step c.self.inside.steps left n now later made)
    (record {
      clock = refl;
      steps = refl;
      closing = refl;
      services = ap (λ (x : Table). x.services) shown;
      next_sid = ap (λ (x : Table). x.next_sid) shown;
      forgotten = parts.since;
      within = parts.within;
      kept = parts.left;
      waits = refl;
      directories = heard;
    }) m s in
    let is = is_cut t _ plan.history c.commit-3.new.self.forgotten c.needed_from.result c.commit-3.new.self.kept (after m c.args.input.now) done.1
    before all c.forget.ensures.forgotten c.forget.ensures.kept c.needed_from.ensures.value
    (c.commit-4.ensures.began t.forgotten (subst (λ (w : WaitsShown). NoneBegan t.forgotten w.waiters) (sym waits) none)
    (subst (λ (w : WaitsShown). t.forgotten ≤ w.count) (sym waits) enough)) in (
      subst (λ (x : DirectoriesShown). IsCounted (c.self.inside.steps + 1) c.commit.new.self.shown.next_sid c.commit-4.new.self.next x.next
          (charts_of c.commit.new.self.shown.services)) (sym heard)
          (subst (λ (x : Table). IsCounted (c.self.inside.steps + 1) x.next_sid c.commit-4.new.self.next
          (directories_after_commit c.plan_step-planned.new.directories.prepared offer).next (charts_of x.services)) (sym shown)
          (counted_after c.self.inside.steps c.self.inside.registry.shown.next_sid prepared.next_sid c.self.inside.waits.next
          c.commit-4.new.self.next c.self.inside.directories.shown.next
          (directories_after_commit c.plan_step-planned.new.directories.prepared offer).next (charts_of c.self.inside.registry.shown.services)
          (charts_of prepared.services)
          counted left c.in-Ok.ensures.grows.1 (let next = made.next_is in let few = c.in-Ok.ensures.grows.2 in omega (arith, next, few))
          (c.in-Ok.ensures.grows.3 offer) c.in-Ok.ensures.grows.0)),
      recorded_after t plan _ _ c.self.invariant.1 c.in-Ok.ensures.grows.4 parts.size,
      subst (λ (ts : List Timer). TimersAgree ts (charts_of c.commit.new.self.shown.services)) (sym timers)
          (subst (λ (x : Table). TimersAgree (with_timer_changes plan.timers c.self.inside.deadlines.timers)
          (charts_of x.services)) (sym shown)
          (c.in-Ok.ensures.grows.5 c.self.inside.deadlines.timers c.self.invariant.2)),
      (after m c.args.input.now, done.1),
      is,
      is_tied _ (after m c.args.input.now) done.1 is,
    )
