use Rattle.std.proofs.Common.{◌∙◌, sym, ap, true, false, not}
use Rattle.tree_core.specs.Choices.{report_choice}
use Rattle.tree_core.proofs.Choosing.{known_by}
use Rattle.tree_core.proofs.refusals.report.Goals as goal

pub returns-then-is_none : goal.returns-then-is_none
returns-then-is_none g c =
    sym (ap (λ b. report_choice b c.args.sid c.args.change)
    (known_by _ c.args.sid c.args.registry.now.shown.services c.get.result false c.get.ensures (c.is_none.ensures ∙ ap not c.if-is_none.true)))

pub returns : goal.returns
returns g c =
    sym (ap (λ b. report_choice b c.args.sid c.args.change)
    (known_by _ c.args.sid c.args.registry.now.shown.services c.get.result true c.get.ensures (c.is_none.ensures ∙ ap not c.if-is_none.false)))
