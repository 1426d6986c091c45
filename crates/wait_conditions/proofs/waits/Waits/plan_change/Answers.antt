use Rattle.std.proofs.Common.{◌∙◌, ap, sym, is_some}
use Rattle.wait_conditions.specs.Kept.{standing_kept}
use Rattle.wait_conditions.specs.Stands.{StoredWaits, waits_shown}
use Rattle.wait_conditions.specs.WaitsFields.{waits_view}
use Rattle.wait_conditions.proofs.Changing.{plans_nothing, plans_cancel}
use Rattle.wait_conditions.proofs.waits.Waits.plan_change.Goals as goal

pub returns-in-Nothing-clause-plans : goal.returns-in-Nothing-clause-plans
returns-in-Nothing-clause-plans g c =
    rw (c.in-Nothing.is, ← c.self.view_is, c.stay.ensures.answer, c.stay.ensures.change, c.stay.ensures.next)
    (plans_nothing (waits_shown (waits_view c.self.inside)) c.args.moments.now)

pub returns-in-Cancel-clause-plans : goal.returns-in-Cancel-clause-plans
returns-in-Cancel-clause-plans g c =
    let stood = c.stored_result.ensures ∙ ap (λ (s : StoredWaits). standing_kept c.in-Cancel.id s.waiters) (sym c.self.view_is) in
    rw (c.in-Cancel.is, ← c.self.view_is)
    (plans_cancel (waits_shown (waits_view c.self.inside)) c.args.moments.now c.in-Cancel.id _ (c.is_some-stood.ensures ∙ ap is_some stood))
