use Rattle.supervise_core.specs.ChartState.{new_service}
use Rattle.supervise_core.proofs.Agreement.{agrees_beginning}
use Rattle.supervise_core.proofs.GrammarWords.{leads_begun}
use Rattle.supervise_core.proofs.service.Service.begin_into.Goals as goal

pub returns-clause-agrees : goal.returns-clause-agrees
returns-clause-agrees g c = λ history.
    agrees_beginning (new_service c.args.sid c.args.name c.args.config) _ _ _ history
    c.begin_into-chart.ensures.gives.chart c.new-status.ensures c.begin_into-chart.ensures.gives.marks

pub returns-clause-grammar : goal.returns-clause-grammar
returns-clause-grammar g c =
    leads_begun (new_service c.args.sid c.args.name c.args.config) c.begin_into-chart.result c.begin_into-chart.new.out
    c.begin_into-chart.ensures.gives
