use Rattle.std.proofs.Common.{◌≡◌, ◌+◌, ◌∙◌, ap, sym, subst, length, map, false}
use Rattle.wait_conditions.specs.declared.waiter.Waiter.{Waiter}
use Rattle.wait_conditions.specs.declared.watched_service.WatchedService.{WatchedService}
use Rattle.wait_conditions.specs.Kept.{StoredWaiter, waiter_view}
use Rattle.wait_conditions.specs.Refusal.{add_refusal, repeats_serial}
use Rattle.wait_conditions.specs.States.{state_in, state_over}
use Rattle.wait_conditions.specs.Stands.{waits_shown, new_stored_waiter}
use Rattle.wait_conditions.specs.WaitsFields.{IsCounted, waits_view}
use Rattle.wait_conditions.specs.Watch.{wait_terms, new_release}
use Rattle.wait_conditions.specs.declared.verdict.WaitState.TheVariants.{Waiting}
use Rattle.wait_conditions.proofs.Changing.{plans_waiter, plans_refusal}
use Rattle.wait_conditions.proofs.Joining.{apart_new, none_repeats}
use Rattle.wait_conditions.proofs.waits.Waits.plan_add.Goals as goal

pub returns-in-Some-clause-plans : goal.returns-in-Some-clause-plans
returns-in-Some-clause-plans g c =
    rw (← c.self.view_is, c.stay.ensures.answer, c.stay.ensures.change, c.stay.ensures.next)
    (plans_refusal (waits_shown (waits_view c.self.inside)) c.args.moments.now _ c.in-Some.fault
    (sym c.in-Some.is ∙ (c.refusal_for.ensures ∙ ap (λ n. add_refusal n c.args.sids.now) c.len.ensures)))

pub returns-clause-plans : goal.returns-clause-plans
returns-clause-plans g c =
    let s = waits_shown (waits_view c.self.inside) in
    rw (← c.self.view_is)
    (plans_waiter s c.args.moments.now _ (waiter_view c.in_ok-waiter.waiter.value) _
    (sym c.in_default.is ∙ (c.refusal_for.ensures ∙ ap (λ n. add_refusal n c.args.sids.now) c.len.ensures))
    (ap waiter_view c.in_ok-waiter.ensures.ok ∙ (c.new_waiter-waiter.ensures.waiter
    ∙ ap (λ d. new_stored_waiter s.next (s.count + length c.args.moments.now) (wait_terms c.args.condition c.args.mode c.args.sids.now d)
    (λ sid. state_over sid c.args.moments.now (state_in s.states sid))) c.deadline_for-deadline.ensures))
    (c.release_at_once-verdict.ensures
    ∙ ap (λ (w : Waiter). new_release Waiting (waiter_view w).standing) (sym c.in_ok-waiter.ensures.ok)))

pub returns-clause-counted : goal.returns-clause-counted
returns-clause-counted g c =
    subst (λ (w : Waiter). IsCounted w × (repeats_serial (map (λ (s : WatchedService). s.sid) w.watched.items) ≡ false))
    (sym c.in_ok-waiter.ensures.ok) (
      c.new_waiter-waiter.ensures.counted,
      ap (λ (k : StoredWaiter). repeats_serial (map (λ (w : WatchedService). w.sid) k.watched)) c.new_waiter-waiter.ensures.waiter
          ∙ apart_new c.self.inside.next (c.self.inside.count + length c.args.moments.now)
          (wait_terms c.args.condition c.args.mode c.args.sids.now c.deadline_for-deadline.result)
          (λ sid. state_over sid c.args.moments.now (state_in c.self.inside.states.runs sid))
          (none_repeats c.len.result c.args.sids.now (sym (sym c.in_default.is ∙ c.refusal_for.ensures))),
    )
