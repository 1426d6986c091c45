use Rattle.std.proofs.Common.{◌≡◌, ◌∙◌, ap, sym, subst, []}
use Rattle.wait_conditions.specs.Kept.{releases_seen}
use Rattle.wait_conditions.specs.Stands.{StoredWaits, WaitsShown, waits_shown}
use Rattle.wait_conditions.specs.WaitsPlans.{PlannedWaits, PlansChange}
use Rattle.wait_conditions.specs.WaitsPlans.ListChange.{stay}
use Rattle.wait_conditions.specs.Steps.WaitRequest.{no_wait_request}
use Rattle.wait_conditions.specs.declared.wait_change.WaitAnswer.TheVariants as answer
use Rattle.wait_conditions.proofs.Changing.{plans_nothing}
use Rattle.wait_conditions.proofs.Stepping.{none_seen}
use Rattle.wait_conditions.proofs.waits.Waits.prepare_stored.Goals as goal

pub returns-in-Nothing-clause-released : goal.returns-in-Nothing-clause-released
returns-in-Nothing-clause-released g c =
    let none : c.args.self.now.waiters ≡ [] =
    ap (λ (s : StoredWaits). s.waiters) (sym c.self.view_is) ∙ c.is_empty.ensures c.if-is_empty.true in
    ap (λ (p : PlannedWaits). p.released) c.of_nobody.ensures
    ∙ sym (ap (releases_seen c.args.moments.now) none ∙ none_seen c.args.moments.now)

pub returns-in-Nothing-clause-change : goal.returns-in-Nothing-clause-change
returns-in-Nothing-clause-change g c =
    let ms = c.args.moments.now in
    let next : c.self-in-Nothing.inside.next ≡ c.args.self.now.next =
    ap (λ (s : StoredWaits). s.next) c.self-in-Nothing.view_is
    ∙ ap (λ (s : WaitsShown). s.next) c.in_ok-make_room.ensures.shown in
    rw (c.in-Nothing.is, c.of_nobody.ensures)
    (subst (λ n. PlansChange (waits_shown c.args.self.now) ms no_wait_request answer.Nothing stay n) (sym next)
    (plans_nothing (waits_shown c.args.self.now) ms))
