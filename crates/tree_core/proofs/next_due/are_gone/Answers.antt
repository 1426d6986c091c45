use Rattle.std.proofs.Common.{◌∙◌, ap, sym}
use Rattle.supervise_core.specs.declared.chart_state.ChartState.{ChartState}
use Rattle.supervise_core.specs.ChartState.{is_gone}
use Rattle.tree_core.proofs.OneMoreService.{all_more, one_not}
use Rattle.tree_core.proofs.next_due.are_gone.Goals as goal

pub returns-then-not-is_gone : goal.returns-then-not-is_gone
returns-then-not-is_gone g c =
    sym (one_not (λ s. is_gone s.phase) c.args.registry.now.shown.services c.loop-place.place c.service_at.result.now c.service_at.ensures
    (ap (λ (s : ChartState). is_gone s.phase) (sym c.chart.ensures) ∙ (sym c.is_gone.ensures ∙ c.if-not-is_gone.true)))

pub loop-place-preserved : goal.loop-place-preserved
loop-place-preserved g c =
    all_more (λ s. is_gone s.phase) c.args.registry.now.shown.services c.loop-place.place c.service_at.result.now c.service_at.ensures
    c.loop-place.invariant
    (ap (λ (s : ChartState). is_gone s.phase) (sym c.chart.ensures) ∙ (sym c.is_gone.ensures ∙ c.if-not-is_gone.false))
