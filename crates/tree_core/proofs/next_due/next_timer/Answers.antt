use Rattle.std.proofs.Common.{◌∙◌, ap}
use Rattle.wait_conditions.specs.NextDeadline.{earlier_of}
use Rattle.tree_core.proofs.OneMoreService.{timer_more}
use Rattle.tree_core.proofs.next_due.next_timer.Goals as goal

pub loop-place-preserved : goal.loop-place-preserved
loop-place-preserved g c =
    c.earlier_of-next.ensures
    ∙ (ap (earlier_of c.loop-place.next) c.timer.ensures
    ∙ timer_more c.args.registry.now.shown.services c.loop-place.place c.service_at.result.now c.loop-place.next c.service_at.ensures
    c.loop-place.invariant)
