use Rattle.std.proofs.Common.{◌∙◌, ◌++◌, ap, subst}
use Rattle.supervise_core.specs.declared.chart_state.ChartState.{ChartState}
use Rattle.supervise_core.specs.Chart.{changed_by}
use Rattle.supervise_core.specs.EventGrammar.{LeadsTo}
use Rattle.supervise_core.specs.Service.{ServiceView}
use Rattle.supervise_core.proofs.Bounds.{same_name}
use Rattle.supervise_core.proofs.GrammarWords.{leads_on}
use Rattle.supervise_core.proofs.service_state.ServiceState.change_onto.Goals as goal

pub returns-clause-name : goal.returns-clause-name
returns-clause-name c =
    ap (λ (x : ChartState). x.name) c.change_onto.ensures.gives.chart
    ∙ (same_name c.args.change.now c.args.now c.self.inside.chart ∙ ap (λ (s : ServiceView). s.chart.name) c.self.view_is)

pub returns-clause-grammar : goal.returns-clause-grammar
returns-clause-grammar c = λ marks.
    subst (λ (s : ServiceView). LeadsTo marks s.chart
    → LeadsTo (marks ++ (changed_by c.args.change.now c.args.now s.chart).marks) c.change_onto.new.self) c.self.view_is
    (leads_on c.args.change.now c.args.now c.self.inside.chart c.change_onto.new.self marks c.change_onto.ensures.gives.chart)
