use Rattle.std.proofs.Common.{◌++◌, ap, sym, subst}
use Rattle.supervise_core.specs.declared.chart_state.ChartState.{ChartState}
use Rattle.supervise_core.specs.EventGrammar.{LeadsTo}
use Rattle.supervise_core.specs.Service.{Supervised}
use Rattle.supervise_core.proofs.GrammarWords.{leads_after}
use Rattle.supervise_core.proofs.service.Service.change.Goals as goal

pub returns-clause-grammar : goal.returns-clause-grammar
returns-clause-grammar g c = λ marks leads.
    let own : LeadsTo marks c.self-inside.inside.0.0.chart =
    subst (λ i. LeadsTo marks i.standing.chart) (sym c.self-inside.view_is)
    (subst (λ (s : Supervised). LeadsTo marks s.chart) (sym c.self.view_is) leads) in
    subst (λ (x : ChartState). LeadsTo (marks ++ c.change-out.result.events.items) x) (sym (ap (λ (s : Supervised). s.chart) c.join.ensures))
    (leads_after c.args.change.now c.args.now c.self-inside.inside.0.0.chart c.change-out.new.self c.change-out.result marks
    c.change-out.ensures.gives own)
