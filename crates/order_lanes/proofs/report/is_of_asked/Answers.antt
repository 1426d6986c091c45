use Rattle.std.proofs.Common.{sym, ◌∙◌}
use Rattle.order_lanes.specs.Backend.{IsOfAsked}
use Rattle.order_lanes.proofs.report.is_of_asked.Goals as goal

pub returns : goal.returns
unfolding IsOfAsked
returns c = (λ is. sym c.answers_any.ensures ∙ is, λ is. c.answers_any.ensures ∙ is)
