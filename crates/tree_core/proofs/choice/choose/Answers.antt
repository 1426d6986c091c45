use Rattle.std.proofs.Common.{◌∙◌, sym}
use Rattle.tree_core.specs.Choices.{chosen_of}
use Rattle.tree_core.proofs.ReportChosen.{chooses_told}
use Rattle.tree_core.proofs.choice.choose.Goals as goal

pub returns-in-Some-clause-chosen : goal.returns-in-Some-clause-chosen
returns-in-Some-clause-chosen g c = λ m history fired.
    chooses_told m c.args.closing c.args.now c.args.registry.now.shown.services history (chosen_of c.report.result) c.args.act.now
    c.in-Some.told (sym c.report_in.ensures ∙ c.in-Some.is) c.report.ensures fired
