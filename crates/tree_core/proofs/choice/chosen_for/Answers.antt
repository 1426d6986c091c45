use Rattle.std.proofs.Common.{refl, sym, subst, ap, ◌∙◌}
use Rattle.svscan_core.specs.Asked.{IsOrderly}
use Rattle.svscan_core.specs.Work.{Work}
use Rattle.tree_core.specs.declared.input.Act.TheVariants.{Svc, Status, Tally, Permafailon, Wait}
use Rattle.tree_core.specs.declared.input.Act.TheVariants.{Cancel, Subscribe}
use Rattle.tree_core.specs.Choices.Chosen.{tally, cancel}
use Rattle.svscan_core.specs.Table.{charts_of}
use Rattle.tree_core.specs.Choices.{chosen_of, wait_choice}
use Rattle.tree_core.proofs.Choosing.{chooses_act, chooses_letters, chooses_row, chooses_tally, chooses_failure}
use Rattle.tree_core.proofs.DirectoryChosen.{chooses_subscribe}
use Rattle.tree_core.proofs.PlanMakes.{if_ok}
use Rattle.tree_core.proofs.WaitChosen.{chooses_wait, chooses_cancel}
use Rattle.tree_core.proofs.choice.chosen_for.Goals as goal

pub returns-in-Svc-clause-chosen : goal.returns-in-Svc-clause-chosen
returns-in-Svc-clause-chosen g c = λ m history fired.
    chooses_act c.args.act.now (Svc c.in-Svc.name c.in-Svc.sent) m c.args.registry.now.shown.services (chosen_of c.letters.result) c.in-Svc.is
    (chooses_letters c.in-Svc.name c.in-Svc.sent m c.args.closing c.args.now c.args.registry.now.shown.services history
    (chosen_of c.letters.result) c.letters.ensures fired)

pub returns-in-Status-clause-chosen : goal.returns-in-Status-clause-chosen
returns-in-Status-clause-chosen g c = λ m history fired.
    chooses_act c.args.act.now (Status c.in-Status.name) m c.args.registry.now.shown.services (chosen_of c.show.result) c.in-Status.is
    (chooses_row c.in-Status.name m c.args.closing c.args.now c.args.registry.now.shown.services history (chosen_of c.show.result)
    (c.show.ensures.row history fired.reading fired.agrees) fired)

pub returns-in-Status-clause-orderly : goal.returns-in-Status-clause-orderly
returns-in-Status-clause-orderly g c = λ next.
    subst (λ (w : Work). IsOrderly c.args.registry.now.shown.next_sid w) (sym c.show.ensures.idle.work) tt

pub returns-in-Tally-clause-chosen : goal.returns-in-Tally-clause-chosen
returns-in-Tally-clause-chosen g c = λ m history fired.
    chooses_act c.args.act.now (Tally c.in-Tally.name) m c.args.registry.now.shown.services (tally c.in-Tally.name) c.in-Tally.is
    (chooses_tally c.in-Tally.name m c.args.closing c.args.now c.args.registry.now.shown.services history (tally c.in-Tally.name) refl fired)

pub returns-in-Permafailon-clause-chosen : goal.returns-in-Permafailon-clause-chosen
returns-in-Permafailon-clause-chosen g c = λ m history fired.
    chooses_act c.args.act.now (Permafailon c.in-Permafailon.name c.in-Permafailon.seconds c.in-Permafailon.count c.in-Permafailon.list) m
    c.args.registry.now.shown.services (chosen_of c.judge.result) c.in-Permafailon.is
    (chooses_failure c.in-Permafailon.name c.in-Permafailon.seconds c.in-Permafailon.count c.in-Permafailon.list m c.args.closing c.args.now
    c.args.registry.now.shown.services history (chosen_of c.judge.result) c.judge.ensures.failure fired)

pub returns-in-Permafailon-clause-orderly : goal.returns-in-Permafailon-clause-orderly
returns-in-Permafailon-clause-orderly g c = λ next.
    subst (λ (w : Work). IsOrderly c.args.registry.now.shown.next_sid w) (sym c.judge.ensures.idle.work) tt

pub returns-in-Wait-clause-chosen : goal.returns-in-Wait-clause-chosen
returns-in-Wait-clause-chosen g c =
    if_ok c.wait.result _ _
    (λ choice is m history fired.
    chooses_act c.args.act.now (Wait c.in-Wait.condition c.in-Wait.mode c.in-Wait.timeout c.in-Wait.names) m c.args.registry.now.shown.services
    (chosen_of choice) c.in-Wait.is
    (chooses_wait c.in-Wait.condition c.in-Wait.mode c.in-Wait.timeout c.in-Wait.names m c.args.closing c.args.now
    c.args.registry.now.shown.services history (chosen_of choice)
    (is ∙ ap (λ names. wait_choice c.in-Wait.condition c.in-Wait.mode c.in-Wait.timeout names (charts_of c.args.registry.now.shown.services))
    c.names.ensures) fired))
    c.wait.ensures

pub returns-in-Cancel-clause-chosen : goal.returns-in-Cancel-clause-chosen
returns-in-Cancel-clause-chosen g c = λ m history fired.
    chooses_act c.args.act.now (Cancel c.in-Cancel.id) m c.args.registry.now.shown.services (cancel c.in-Cancel.id) c.in-Cancel.is
    (chooses_cancel c.in-Cancel.id m c.args.registry.now.shown.services)

pub returns-in-Subscribe-clause-chosen : goal.returns-in-Subscribe-clause-chosen
returns-in-Subscribe-clause-chosen g c = λ m history fired.
    chooses_act c.args.act.now (Subscribe c.in-Subscribe.target c.in-Subscribe.field-1 c.in-Subscribe.field-2) m c.args.registry.now.shown.services
    (chosen_of c.subscribe.result) c.in-Subscribe.is
    (chooses_subscribe c.in-Subscribe.target c.in-Subscribe.field-1 c.in-Subscribe.field-2 m c.args.closing c.args.now
    c.args.registry.now.shown.services history (chosen_of c.subscribe.result) c.subscribe.ensures fired)
