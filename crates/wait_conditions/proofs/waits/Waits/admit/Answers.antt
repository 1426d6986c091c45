use Rattle.std.proofs.Common.{◌∙◌, ◌++◌, ◌∷◌, [], refl, ap, sym, map}
use Rattle.wait_conditions.specs.declared.watched_service.WatchedService.{WatchedService}
use Rattle.wait_conditions.specs.Kept.{StoredWaiter, waiter_view}
use Rattle.wait_conditions.specs.Refusal.{repeats_serial}
use Rattle.wait_conditions.specs.States.{state_in}
use Rattle.wait_conditions.specs.Stands.{waits_shown, new_stored_waiter}
use Rattle.wait_conditions.specs.WaitsFields.{waits_view}
use Rattle.wait_conditions.specs.Watch.{wait_terms}
use Rattle.wait_conditions.proofs.Changing.{admits}
use Rattle.wait_conditions.proofs.Joining.{apart_new, none_repeats}
use Rattle.wait_conditions.proofs.waits.Waits.admit.Goals as goal

pub returns-clause-ok : goal.returns-clause-ok
returns-clause-ok g c =
    let s = waits_shown (waits_view c.self.inside) in
    admits s (waits_shown c.args.self.now) _ _ (waiter_view c.new_waiter-waiter.result) _
    (ap waits_shown c.self.view_is) refl refl
    (c.push.ensures ∙ ap (λ ks. ks ++ waiter_view c.new_waiter-waiter.result ∷ []) c.in_ok-reserve_one.ensures.waiters)
    refl
    (c.new_waiter-waiter.ensures.waiter
    ∙ ap (λ d. new_stored_waiter s.next s.count (wait_terms c.args.condition c.args.mode c.args.sids.now d) (state_in s.states))
    c.deadline_for-deadline.ensures)
    c.release_at_once-verdict.ensures

pub push-requires-clause-apart : goal.push-requires-clause-apart
push-requires-clause-apart g c =
    ap (λ (k : StoredWaiter). repeats_serial (map (λ (w : WatchedService). w.sid) k.watched)) c.new_waiter-waiter.ensures.waiter
    ∙ apart_new c.self.inside.next c.self.inside.count (wait_terms c.args.condition c.args.mode c.args.sids.now c.deadline_for-deadline.result)
    (state_in c.self.inside.states.runs)
    (none_repeats c.len.result c.args.sids.now (sym (sym c.in_default.is ∙ c.refusal_for.ensures)))
