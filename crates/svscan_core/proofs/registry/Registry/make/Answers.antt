use Rattle.svscan_core.specs.Asked.{work_asked}
use Rattle.svscan_core.specs.Registry.{registry_prepared}
use Rattle.svscan_core.proofs.WorkDone.{made_at_once}
use Rattle.svscan_core.proofs.registry.Registry.make.Goals as goal

pub returns-clause-made : goal.returns-clause-made
returns-clause-made g c =
    let mid = c.prepare_alone.new.self in
    let gives = c.in_ok-answer.ensures in
    made_at_once (work_asked c.args.work.now) c.args.now c.args.self.now.shown c.commit.new.self.shown
    (registry_prepared mid.shown.services mid.planned) c.in_ok-answer.answer c.commit.ensures gives.events gives.orders gives.dropped gives.listed
    c.in_ok-plan.ensures.prepared
